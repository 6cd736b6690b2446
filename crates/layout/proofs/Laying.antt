-- Bytes laid over others: one run after the other is one longer run.
use mathlib.Core.Path.{◌≡◌, refl, ap, ◌∙◌}
use mathlib.Core.List.{List, [], ◌∷◌, ◌++◌, append-nil, append_assoc}
use Prim.Native.Nat.{ℕ, ◌+◌, ◌-◌, ◌≤◌}
use native.Mathlib.Omega.{arith}
use lib.ListN.{length, drop, set, length-append, drop_of_length-le}
use lib.Seq.{length-sets, sets-eq}
use borrow.Rule.Slice.PartMut.{put_mid, Post-is}
use Rattle.base.proofs.Lists.{sets_append}
use Rattle.layout.specs.Numbers.{lay}

pub lay_then : (l : List ℕ) (i : ℕ) (a b : List ℕ) (k : ℕ) → length a ≡ k → lay (lay l i a) (i + k) b ≡ lay l i (a ++ b)
unfolding lay
lay_then l i a b k e = rw (← e) (sets_append l i a b)

pub lay_length : (l : List ℕ) (i : ℕ) (a : List ℕ) → length (lay l i a) ≡ length l
unfolding lay
lay_length l i a = length-sets l i a

pub lay_byte : (l : List ℕ) (i v : ℕ) → set l i v ≡ lay l i (v ∷ [])
unfolding lay
lay_byte l i v = refl

-- the bytes of a number that was computed are those of the number that it is
pub lay_same : (bytes : ℕ → List ℕ) (m l : List ℕ) (i : ℕ) {v u : ℕ} → m ≡ lay l i (bytes v) → v ≡ u → m ≡ lay l i (bytes u)
lay_same bytes m l i e f = e ∙ ap (λ (x : ℕ). lay l i (bytes x)) f

-- a run over all of it
pub lay_whole : (l a : List ℕ) → length l ≡ length a → lay l 0 a ≡ a
unfolding lay
lay_whole l a e =
    let z : drop (0 + length a) l ≡ [] = drop_of_length-le l {i = 0 + length a} (omega arith) in
    sets-eq a l 0 (omega arith) ∙ rw z (append-nil a)

-- what is copied into a range is laid where the range begins
pub lay_range : (l : List ℕ) (i n : ℕ) (a b : List ℕ) → a ≡ b → length b ≡ n → i + n ≤ length l → put_mid i (i + n - i) l a ≡ lay l i b
unfolding lay
lay_range l i n a b e f p =
    let k = Post-is i (i + n) l (omega arith) in
    rw (e, k, sets-eq b l i (omega arith), f, append_assoc)

-- what a function has laid so far: k bytes, a, over o from i on
pub record Laid (l o : List ℕ) (i : ℕ) (a : List ℕ) (k : ℕ) : Type 0 where
  pub is : l ≡ lay o i a
  pub long : length a ≡ k

pub next : {l o : List ℕ} {i : ℕ} {a : List ℕ} {k : ℕ} (m b : List ℕ) (n : ℕ) → Laid l o i a k → m ≡ lay l (i + k) b → length b ≡ n → Laid m o i (a ++ b) (k + n)
next {l} {o} {i} {a} {k} m b n p e f =
    record {
      is = e ∙ ap (λ (x : List ℕ). lay x (i + k) b) p.is ∙ lay_then o i a b k p.long;
      long = rw (length-append, f, p.long);
    }
