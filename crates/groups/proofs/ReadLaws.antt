-- Reading from a place of a trace: what is read stands there, what stands there is read, and after a refusal nothing is.
use mathlib.Core.Path.{◌≡◌, refl, ap, sym, ◌∙◌}
use mathlib.Core.List.{List, [], ◌∷◌, ◌++◌, append_assoc, flat_map}
use mathlib.Core.Bool.{Bool, true, false, cond, ◌&&◌}
use mathlib.Core.Logic.{◌⊎◌, inl, inr}
use Prim.Native.Nat.{ℕ, zero, suc, ◌+◌, ◌<◌, ◌≤◌, ◌^◌}
use native.Mathlib.Omega.{arith}
use borrow.Author.Tests.{leb-true, eqb-true, eqb-false}
use lib.Dec.{leb}
use lib.ListN.{length, drop, length-append}
use lib.Seq.{drop-append_seam, drop-drop, get_or-drop}
use Rattle.base.proofs.Loops.{both_true}
use Rattle.base.specs.Refusals.{cut, unreadable}
use Rattle.groups.specs.Numbers.{Bytes, Groups, whole, cut_off, none, number_in, number_at, bytes_of, read, stopped, landed}
use Rattle.groups.specs.Cursor.{goes_on, number_from, held_to, number_within, Numbers, numbers_from}
use Rattle.groups.specs.Reads.{Reads, Fit}
use Rattle.groups.specs.Numbers.{Cursor}
use Rattle.groups.specs.Numbers.{Number}
use Rattle.groups.proofs.NumberLaws.{front_is, read_back, write_back}
use Rattle.groups.proofs.CursorLaws.{from_stopped, from_place, held_stopped, held_in}

-- ---- from place to place

-- nothing read, and one stretch after another
pub reads_none : {s : List ℕ} {c : Cursor} → c.refusal ≡ 0 → Reads s c [] c
reads_none h = record { starts = h; ends = h; place = omega arith; holds = refl }

pub reads_then : {s : List ℕ} {c d f : Cursor} {b e : List ℕ} → Reads s c b d → Reads s d e f → Reads s c (b ++ e) f
reads_then {s} {c} {d} {f} {b} {e} p q =
    record {
      starts = p.starts;
      ends = q.ends;
      place = rw length-append (omega arith);
      holds = p.holds ∙ ap (λ (x : List ℕ). b ++ x) q.holds ∙ sym (append_assoc b e (drop f.at s));
    }

-- bytes from a place on are bytes
pub bytes_from : (s : List ℕ) (at : ℕ) → Bytes s → Bytes (drop at s)
bytes_from s at y i = rw get_or-drop (y (at + i))

-- what stands after so many bytes
pub after : (s : List ℕ) (at : ℕ) (bytes rest : List ℕ) → drop at s ≡ bytes ++ rest → drop (at + length bytes) s ≡ rest
after s at bytes rest e = sym (drop-drop (length bytes) at s) ∙ ap (drop (length bytes)) e ∙ drop-append_seam bytes rest

-- ---- the refusals

-- the refusal of a read: none, the bytes end inside, or no number begins so
abbrev pub Known : ℕ → Type 0
Known refusal = (refusal ≡ 0) ⊎ (refusal ≡ cut) ⊎ (refusal ≡ unreadable)

landed_known : (at : ℕ) (g : Groups) → Known (landed at g).cursor.refusal
landed_known at (whole v k) = inl refl
landed_known at cut_off = inr (inl refl)
landed_known at none = inr (inr refl)

-- a number held to bounds that is not refused is the one that was read, within them
held_is : (least most : ℕ) (x : Number) → (held_to least most x).cursor.refusal ≡ 0
    → (held_to least most x ≡ x) × (x.cursor.refusal ≡ 0) × (least ≤ x.value) × (x.value ≤ most)
held_is least most x = go (goes_on x.cursor) refl (leb least x.value && leb x.value most) refl
  where
    go : (a : Bool) → goes_on x.cursor ≡ a → (b : Bool) → (leb least x.value && leb x.value most) ≡ b
        → (cond a (cond b x (stopped unreadable)) x).cursor.refusal ≡ 0
        → (cond a (cond b x (stopped unreadable)) x ≡ x) × (x.cursor.refusal ≡ 0) × (least ≤ x.value) × (x.value ≤ most)
    go true t true e h =
        let q = both_true (leb least x.value) (leb x.value most) e in
        (refl, h, leb-true least x.value q.0, leb-true x.value most q.1)
    go true t false e h = absurd (omega arith)
    go false t b e h = absurd (eqb-false x.cursor.refusal 0 t h)

held_known : (least most : ℕ) (x : Number) → Known x.cursor.refusal → Known (held_to least most x).cursor.refusal
held_known least most x k = go (goes_on x.cursor) (leb least x.value && leb x.value most)
  where
    go : (a b : Bool) → Known (cond a (cond b x (stopped unreadable)) x).cursor.refusal
    go true true = k
    go true false = inr (inr refl)
    go false b = k

-- ---- one number

module _ (s : List ℕ) (c : Cursor) where
  -- a number that was read stands at the place
  abbrev Sound : Number → Type 0
  Sound n = n.cursor.refusal ≡ 0 → (Reads s c (bytes_of n.value) n.cursor) × (n.value < 2 ^ 64)

  pub number_sound : Bytes s → (number_from s c).cursor.refusal ≡ 0
      → (Reads s c (bytes_of (number_from s c).value) (number_from s c).cursor) × ((number_from s c).value < 2 ^ 64)
  unfolding number_from number_at
  number_sound y = go (goes_on c) refl (number_in (drop c.at s)) refl
    where
      go : (x : Bool) → goes_on c ≡ x → (g : Groups) → number_in (drop c.at s) ≡ g → Sound (cond x (landed c.at g) (record { value = 0; cursor = c }))
      go true t (whole v k) e h =
          let q = write_back (drop c.at s) v k (bytes_from s c.at y) e in
          let r = front_is (drop c.at s) (bytes_of v) k q.0 q.2 in
          (record { starts = eqb-true c.refusal 0 t; ends = refl; place = omega (arith, r.0); holds = rw drop-drop at r.1 }, q.1)
      go true t cut_off e h = absurd (omega arith)
      go true t none e h = absurd (omega arith)
      go false t g e h = absurd (eqb-false c.refusal 0 t h)

  -- a number that stands there is read
  pub number_complete : (v : ℕ) (rest : List ℕ) → c.refusal ≡ 0 → v < 2 ^ 64 → drop c.at s ≡ bytes_of v ++ rest
      → (number_from s c ≡ read v (c.at + length (bytes_of v))) × (drop (c.at + length (bytes_of v)) s ≡ rest)
  unfolding number_at
  number_complete v rest z h e = (
    sym (from_place s c z) ∙ ap (λ (l : List ℕ). landed c.at (number_in l)) e ∙ ap (landed c.at) (read_back v rest h),
    after s c.at (bytes_of v) rest e,
  )

  -- from a place with no refusal before
  pub refusal_is : c.refusal ≡ 0 → Known (number_from s c).cursor.refusal
  unfolding number_at
  refusal_is z = rw (← from_place s c z) (landed_known c.at (number_in (drop c.at s)))

  -- nothing is read after a refusal
  pub stays_stopped : (c.refusal ≡ 0 → ⊥) → (number_from s c).cursor ≡ c
  stays_stopped z = ap (λ (x : Number). x.cursor) (sym (from_stopped s c (omega arith)))

  -- ---- one number held to bounds

  module _ (least most : ℕ) where
    -- it is the number that was read, within them
    pub within_is : (number_within least most s c).cursor.refusal ≡ 0
        → (number_within least most s c ≡ number_from s c) × ((number_from s c).cursor.refusal ≡ 0) × (least ≤ (number_from s c).value) × ((number_from s c).value ≤ most)
    unfolding number_within
    within_is = held_is least most (number_from s c)

    -- so it stands at the place
    pub within_sound : Bytes s → (number_within least most s c).cursor.refusal ≡ 0
        → (Reads s c (bytes_of (number_within least most s c).value) (number_within least most s c).cursor) × ((number_within least most s c).value < 2 ^ 64) × (least ≤ (number_within least most s c).value) × ((number_within least most s c).value ≤ most)
    within_sound y h =
        let q = within_is h in
        let n = number_sound y q.1 in
        rw q.0 (n.0, n.1, q.2, q.3)

    -- one within them that stands there is read
    pub within_complete : (v : ℕ) (rest : List ℕ) → c.refusal ≡ 0 → v < 2 ^ 64 → least ≤ v → v ≤ most → drop c.at s ≡ bytes_of v ++ rest
        → (number_within least most s c ≡ read v (c.at + length (bytes_of v))) × (drop (c.at + length (bytes_of v)) s ≡ rest)
    unfolding number_within
    within_complete v rest z h l m e =
        let q = number_complete v rest z h e in
        (ap (held_to least most) q.0 ∙ sym (held_in least most (read v (c.at + length (bytes_of v))) refl l m), q.1)

    pub within_refusal_is : c.refusal ≡ 0 → Known (number_within least most s c).cursor.refusal
    unfolding number_within
    within_refusal_is z = held_known least most (number_from s c) (refusal_is z)

    pub within_stays_stopped : (c.refusal ≡ 0 → ⊥) → (number_within least most s c).cursor ≡ c
    unfolding number_within
    within_stays_stopped z =
        let e : (number_from s c).cursor ≡ c = stays_stopped z in
        let f = held_stopped least most (number_from s c) (rw e (omega arith)) in
        ap (λ (x : Number). x.cursor) (sym f) ∙ e

-- ---- so many numbers

-- the numbers that were read stand at the place, one after the other
pub numbers_sound : (many : ℕ) (s : List ℕ) (c : Cursor) → Bytes s → (numbers_from many s c).cursor.refusal ≡ 0
    → (Reads s c (flat_map bytes_of (numbers_from many s c).values) (numbers_from many s c).cursor) × (length (numbers_from many s c).values ≡ many) × Fit (numbers_from many s c).values
unfolding numbers_from flat_map
numbers_sound zero s c y h = (reads_none h, refl, tt)
numbers_sound (suc many) s c y h =
    let r = numbers_sound many s (number_from s c).cursor y h in
    let n = number_sound s c y r.0.starts in
    (reads_then n.0 r.0, ap suc r.1, (n.1, r.2))

-- one number before others
abbrev first : Number → Numbers → Numbers
first n r = record { values = n.value ∷ r.values; cursor = r.cursor }

-- numbers that stand there are read
pub numbers_complete : (vs : List ℕ) (s : List ℕ) (c : Cursor) (rest : List ℕ) → c.refusal ≡ 0 → Fit vs → drop c.at s ≡ flat_map bytes_of vs ++ rest
    → (numbers_from (length vs) s c ≡ record { values = vs; cursor = record { at = c.at + length (flat_map bytes_of vs); refusal = 0 } })
    × (drop (c.at + length (flat_map bytes_of vs)) s ≡ rest)
unfolding numbers_from flat_map
numbers_complete [] s c rest z f e = (
  ap
      (λ (d : Cursor). record { values = []; cursor = d })
      (ap (λ (r : ℕ). record { at = c.at; refusal = r }) z ∙ ap (λ (a : ℕ). record { at = a; refusal = 0 }) (omega arith)),
  after s c.at [] rest e,
)
numbers_complete (v ∷ vs) s c rest z f e =
    let q = number_complete s c v (flat_map bytes_of vs ++ rest) z f.0 (e ∙ append_assoc (bytes_of v) (flat_map bytes_of vs) rest) in
    let r = numbers_complete vs s (record { at = c.at + length (bytes_of v); refusal = 0 }) rest refl f.1 q.1 in (
      ap (λ (n : Number). first n (numbers_from (length vs) s n.cursor)) q.0
          ∙ ap (first (read v (c.at + length (bytes_of v)))) r.0
          ∙ ap (λ (a : ℕ). record { values = v ∷ vs; cursor = record { at = a; refusal = 0 } }) (simp length-append (omega arith)),
      after s c.at (flat_map bytes_of (v ∷ vs)) rest e,
    )

-- after a refusal none of them is read
pub numbers_stay_stopped : (many : ℕ) (s : List ℕ) (c : Cursor) → (c.refusal ≡ 0 → ⊥) → (numbers_from many s c).cursor ≡ c
unfolding numbers_from
numbers_stay_stopped zero s c z = refl
numbers_stay_stopped (suc many) s c z =
    ap (λ (d : Cursor). (numbers_from many s d).cursor) (stays_stopped s c z) ∙ numbers_stay_stopped many s c z
