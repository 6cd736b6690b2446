-- Attempts one after the other: in parts, and what they keep.
use mathlib.Core.Path.{◌≡◌, refl, sym, ap, ◌∙◌}
use mathlib.Core.Bool.{true}
use mathlib.Core.List.{List, [], ◌∷◌, ◌++◌, append_assoc, append-nil}
use Prim.Native.Nat.{ℕ, ◌+◌, ◌≤◌, ◌<◌}
use native.Mathlib.Omega.{arith}
use lib.ListN.{length, length-append}
use lib.Seq.{sets, length-sets}
use Rattle.base.proofs.Lists.{sets_append}
use Rattle.bounds.specs.Bounds.{table_fits}
use Rattle.table.specs.declared.place.Place.{Place}
use Rattle.table.specs.declared.table.Table.{Table}
use Rattle.attempts.specs.Attempt.{answer_of, written, attempt_on, order_on, unrun}
use Rattle.attempts.specs.declared.attempt.Attempted.{Attempted}
use Rattle.attempts.proofs.AttemptLaws.{unrun_falls, attempt_keeps}
use Rattle.rising.specs.Attempts.{Attempts, before, attempts_on, ran_from}
use Rattle.rising.specs.declared.tails.Ran.{Ran}

-- ---- in parts

pub attempts_one : (t : Table) (at : Place) → attempts_on t (at ∷ []) ≡ record { table = (attempt_on t at).table; wrote = written (answer_of t at) t at }
unfolding attempts_on
attempts_one t at = rw append-nil refl

pub attempts_append : (t : Table) (a b : List Place) → attempts_on t (a ++ b) ≡ before (attempts_on t a).wrote (attempts_on (attempts_on t a).table b)
unfolding attempts_on
attempts_append t [] b = refl
attempts_append t (at ∷ a) b =
    let u = (attempt_on t at).table in
    let w = written (answer_of t at) t at in
    ap (before w) (attempts_append u a b) ∙ ap (λ (l : List ℕ). record { table = (attempts_on (attempts_on u a).table b).table; wrote = l })
    (sym (append_assoc w (attempts_on u a).wrote (attempts_on (attempts_on u a).table b).wrote))

-- ---- what they keep, on slots of the rows

abbrev pub InRows : List Place → Type 0
InRows [] = Unit
InRows (at ∷ rest) = (at.row < 7) × (at.col < 32) × InRows rest

pub rows_append : (a b : List Place) → InRows a → InRows b → InRows (a ++ b)
rows_append [] b p q = q
rows_append (at ∷ a) b p q = (p.0, p.1, rows_append a b p.2 q)

pub attempts_keep : (t : Table) (l : List Place) → table_fits t ≡ true → InRows l → table_fits (attempts_on t l).table ≡ true
unfolding attempts_on
attempts_keep t [] h p = h
attempts_keep t (at ∷ l) h p = attempts_keep (attempt_on t at).table l (attempt_keeps t at h p.0 p.1) p.2

-- they never write more than the slots that had not run before them
pub attempts_fall : (t : Table) (l : List Place) → table_fits t ≡ true → InRows l → length (attempts_on t l).wrote + unrun (attempts_on t l).table ≤ unrun t
unfolding attempts_on attempt_on
attempts_fall t [] h p = omega arith
attempts_fall t (at ∷ l) h p =
    let u = (attempt_on t at).table in
    let more = attempts_fall u l (attempt_keeps t at h p.0 p.1) p.2 in
    let one = unrun_falls t at h p.0 p.1 in
    omega (arith, length-append (written (answer_of t at) t at) (attempts_on u l).wrote)

-- ---- as they are written in a list

-- after these attempts, from a place of the list on
pub record Written (t : Table) (l : List Place) (list : List ℕ) (from : ℕ) (ran : Ran) (after : List ℕ) : Type 0 where
  pub ran_is : ran ≡ ran_from from (attempts_on t l)
  pub list_is : after ≡ sets list from (attempts_on t l).wrote

module _ (t : Table) (list : List ℕ) (from : ℕ) where
  pub written_none : Written t [] list from (record { table = t; end = from }) list
  unfolding attempts_on
  written_none = record { ran_is = ap (λ (e : ℕ). record { table = t; end = e }) (omega arith); list_is = refl }

  pub attempt_written : (at : Place) (tried : Attempted) (after : List ℕ) → tried ≡ attempt_on t at → after ≡ order_on t at from list
      → Written t (at ∷ []) list from (record { table = tried.table; end = from + tried.ran }) after
  unfolding order_on attempt_on
  attempt_written at tried after e f = record { ran_is = rw (e, attempts_one t at) refl; list_is = f ∙ rw (attempts_one t at) refl }

  -- and after others
  module _ (a b : List Place) (mid last : Ran) (after end : List ℕ) (p : Written t a list from mid after) (q : Written mid.table b after mid.end last end) where
    pub written_more : Written t (a ++ b) list from last end
    written_more =
        let u = (attempts_on t a).table in
        let w = (attempts_on t a).wrote in
        let c = attempts_on u b in
        let e = attempts_append t a b in
        let r = p.ran_is in
        let n : from + length w + length c.wrote ≡ from + length (w ++ c.wrote) = omega (arith, length-append w c.wrote) in
        record {
          ran_is = q.ran_is ∙ ap (λ (m : Ran). ran_from m.end (attempts_on m.table b)) r ∙ ap (λ (k : ℕ). record { table = c.table; end = k }) n ∙ sym (ap (ran_from from) e);
          list_is =
              q.list_is ∙ ap (λ (m : Ran). sets after m.end (attempts_on m.table b).wrote) r ∙ ap (λ (x : List ℕ). sets x (from + length w) c.wrote) p.list_is
              ∙ sets_append list from w c.wrote ∙ sym (ap (λ (x : Attempts). sets list from x.wrote) e);
        }

  -- the table after them fits, and there is room for what is left
  module _ (l : List Place) (ran : Ran) (after : List ℕ) (h : table_fits t ≡ true) (i : InRows l) (p : Written t l list from ran after) where
    pub written_fits : table_fits ran.table ≡ true
    written_fits = ap (λ (r : Ran). table_fits r.table) p.ran_is ∙ attempts_keep t l h i

    pub written_room : from + unrun t ≤ length list → ran.end + unrun ran.table ≤ length after
    written_room room =
        let n = ap length p.list_is ∙ length-sets list from (attempts_on t l).wrote in
        omega (arith, attempts_fall t l h i, ap (λ (r : Ran). r.end) p.ran_is, ap (λ (r : Ran). unrun r.table) p.ran_is)
