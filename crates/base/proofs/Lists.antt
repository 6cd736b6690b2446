-- Facts on lists: lengths, elements, runs of stores, folds.
use mathlib.Core.Path.{◌≡◌, refl, sym, ap, ◌∙◌}
use mathlib.Core.List.{List, [], ◌∷◌, ◌++◌, map, foldl}
use Prim.Native.Nat.{ℕ, suc, zero, ◌+◌, ◌<◌}
use native.Mathlib.Omega.{arith}
use borrow.Kind.Array.{good_length, e_int, e_bool}
use denote.Array.{Array}
use denote.Laws.{Is}
use mir.Syntax.{Width}
use mir.Val.{Val}
use mathlib.Core.Bool.{Bool}
use lib.ListN.{length, get_or, set, replicate, length-map}
use lib.Seq.{sets}

-- an array of structs is as long as the list of what its relation says of them
pub length_mapped : (X Y : Type 0) (f : X → Y) (l : List X) (n : ℕ) → length (map f l) ≡ n → length l ≡ n
length_mapped X Y f l n e = sym (length-map l f) ∙ e

-- and an array of numbers or marks as long as it is declared
pub bytes_length : (w : Width) (n : ℕ) (s : List ℕ) (vs : List Val) → Is (Array (e_int w).ty n) (map (λ (v : ℕ). v) s) vs → length s ≡ n
bytes_length w n s vs p = length_mapped ℕ ℕ (λ (v : ℕ). v) s n (good_length (e_int w) n (map (λ (v : ℕ). v) s) vs p)

pub bools_length : (n : ℕ) (s : List Bool) (vs : List Val) → Is (Array e_bool.ty n) (map (λ (v : Bool). v) s) vs → length s ≡ n
bools_length n s vs p = length_mapped Bool Bool (λ (v : Bool). v) s n (good_length e_bool n (map (λ (v : Bool). v) s) vs p)

-- inside a list the default does not show
pub inside : {A : Type 0} (l : List A) (i : ℕ) (d e : A) → i < length l → get_or l i d ≡ get_or l i e
inside [] i d e h = absurd (omega arith)
inside (x ∷ l) zero d e h = refl
inside (x ∷ l) (suc i) d e h = inside l i d e (omega arith)

pub replicate_at : {A : Type 0} (n i : ℕ) (a : A) → get_or (replicate n a) i a ≡ a
replicate_at zero i a = refl
replicate_at (suc n) zero a = refl
replicate_at (suc n) (suc i) a = replicate_at n i a

-- stored one after the other is stored as one
pub sets_append : (l : List ℕ) (i : ℕ) (a b : List ℕ) → sets (sets l i a) (i + length a) b ≡ sets l i (a ++ b)
sets_append l i [] b = ap (λ (k : ℕ). sets l k b) (omega arith)
sets_append l i (x ∷ a) b = ap (λ (k : ℕ). sets (sets (set l i x) (suc i) a) k b) (omega arith) ∙ sets_append (set l i x) (suc i) a b

-- what every step of a fold keeps, the fold keeps
pub fold_keeps : {S B : Type 0} (P : S → Type 0) (f : S → B → S) → ((s : S) (b : B) → P s → P (f s b)) → (l : List B) (s : S) → P s → P (foldl f s l)
fold_keeps P f step [] s h = h
fold_keeps P f step (b ∷ l) s h = fold_keeps P f step l (f s b) (step s b h)
