-- Sets in bytes: how long they are, and that they read back.
use mathlib.Core.Path.{◌≡◌, refl, ap, sym, ◌∙◌}
use mathlib.Core.List.{List, [], ◌∷◌, ◌++◌}
use Prim.Native.Nat.{ℕ, zero, suc, ◌≤◌}
use native.Mathlib.Omega.{arith}
use lib.ListN.{length, get_or, take}
use lib.Seq.{take-suc, take_all}
use Rattle.deps.specs.Sets.{set_of}
use Rattle.deps.specs.declared.sets.DepSet.{DepSet}
use Rattle.layout.specs.Numbers.{byte_of}
use Rattle.layout.specs.Each.{each_bytes}
use Rattle.layout.proofs.EachLaws.{bytes_length, each_back, each_length}
use Rattle.octets.specs.Sets.{rows_at, set_at, row_byte, set_bytes}

pub set_length : (d : DepSet) → length (set_bytes d) ≡ 7
unfolding set_bytes
set_length d = bytes_length (row_byte d) 1 (λ row. refl) 7

pub set_back : (d : DepSet) (r : List ℕ) → length d.cols ≡ 7 → set_at (set_bytes d ++ r) ≡ d
unfolding rows_at set_bytes
set_back d r g = ap set_of (each_back (row_byte d) 1 (λ row. refl) byte_of 7 d.cols 0 r g (λ row t p. refl))

-- what is read has seven rows
pub rows_length : (l : List ℕ) → length (rows_at l) ≡ 7
unfolding rows_at
rows_length l = each_length byte_of 1 7 l

-- a set's bytes are its seven numbers
first_bytes : (l : List ℕ) (k : ℕ) → k ≤ length l → take k l ≡ each_bytes (λ (i : ℕ). get_or l i 0 ∷ []) k
unfolding each_bytes
first_bytes l zero h = refl
first_bytes l (suc k) h = take-suc l k 0 (omega arith) ∙ ap (λ (m : List ℕ). m ++ (get_or l k 0 ∷ [])) (first_bytes l k (omega arith))

pub cols_bytes : (d : DepSet) → length d.cols ≡ 7 → d.cols ≡ set_bytes d
unfolding set_bytes
cols_bytes d e =
    let t : take 7 d.cols ≡ d.cols = take_all 7 d.cols (omega (arith, e)) in
    sym t ∙ first_bytes d.cols 7 (omega (arith, e))
