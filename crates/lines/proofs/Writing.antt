-- A text that is written piece by piece: room for what is left, and two pieces are one.
use mathlib.Core.Path.{◌≡◌, refl, ap, ◌∙◌}
use mathlib.Core.List.{List, [], ◌∷◌, ◌++◌, flat_map, append-nil, append_assoc}
use Prim.Native.Nat.{ℕ, zero, suc, ◌+◌, ◌<◌, ◌≤◌}
use native.Mathlib.Numerals.{add-one}
use native.Mathlib.Omega.{arith}
use Rattle.std.proofs.lemmas.List.{take_all}
use lib.ListN.{length, get_or, take, length-append}
use lib.Seq.{length-sets}
use Rattle.base.proofs.Lists.{sets_append}
use Rattle.lines.specs.Text.{HasRoom, Wrote}
use Rattle.lines.specs.declared.text.Text.{Text}

-- nothing written
pub begun : (t : Text) → Wrote t t []
begun t = record { same_reference = refl; at = omega arith; bytes = refl }

-- room for a piece and what follows it is room for the piece
pub first_fits : (t : Text) (piece left : List ℕ) → HasRoom t (piece ++ left) → HasRoom t piece
first_fits t piece left h = omega (arith, length-append piece left)

module _ {old mid : Text} {piece : List ℕ} (w : Wrote old mid piece) where
  -- and once it is written, for what follows
  pub left_fits : (left : List ℕ) → HasRoom old (piece ++ left) → HasRoom mid left
  left_fits left h = omega (arith, w.at, ap length w.bytes, length-sets old.bytes.now old.at piece, length-append piece left)

  pub then : {new : Text} {next : List ℕ} → Wrote mid new next → Wrote old new (piece ++ next)
  then {new} {next} v =
      record {
        same_reference = v.same_reference ∙ w.same_reference;
        at = omega (arith, v.at, w.at, length-append piece next);
        bytes = v.bytes ∙ rw (w.bytes, w.at) (sets_append old.bytes.now old.at piece next);
      }

-- ---- what the elements of a list give, one after the other

-- one more
up_to : (f : ℕ → List ℕ) (l : List ℕ) (i : ℕ) → i < length l → flat_map f (take (suc i) l) ≡ flat_map f (take i l) ++ f (get_or l i 0)
unfolding flat_map
up_to f [] i h = absurd (omega arith)
up_to f (x ∷ l) zero h = append-nil (f x)
up_to f (x ∷ l) (suc i) h = rw (up_to f l i (omega arith), append_assoc) refl

-- no more than all
part : (f : ℕ → List ℕ) (l : List ℕ) (i : ℕ) → length (flat_map f (take i l)) ≤ length (flat_map f l)
unfolding flat_map
part f [] zero = omega arith
part f [] (suc i) = omega arith
part f (x ∷ l) zero = omega arith
part f (x ∷ l) (suc i) = omega (arith, length-append (f x) (flat_map f (take i l)), length-append (f x) (flat_map f l), part f l i)

module _ (f : ℕ → List ℕ) (l : List ℕ) {old mid : Text} (i : ℕ) (w : Wrote old mid (flat_map f (take i l))) where
  -- there is room for what the next gives
  pub each_fits : i < length l → HasRoom old (flat_map f l) → HasRoom mid (f (get_or l i 0))
  each_fits h r =
      let more = ap length (up_to f l i h) in
      omega (
        arith,
        more,
        length-append (flat_map f (take i l)) (f (get_or l i 0)),
        part f l (suc i),
        w.at,
        ap length w.bytes,
        length-sets old.bytes.now old.at (flat_map f (take i l)),
      )

  pub each_more : i < length l → {new : Text} → Wrote mid new (f (get_or l i 0)) → Wrote old new (flat_map f (take (i + 1) l))
  each_more h v = rw (add-one, up_to f l i h) (then w v)

  pub each_done : length l ≤ i → Wrote old mid (flat_map f l)
  each_done h = rw (take_all i l h) at w
