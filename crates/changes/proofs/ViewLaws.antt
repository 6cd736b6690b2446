-- What a view says of every table that looks so, also with null slots added; and what a change makes of these tables.
use mathlib.Core.Path.{◌≡◌, refl, ap, sym, ◌∙◌}
use mathlib.Core.List.{List, ◌++◌}
use mathlib.Core.Bool.{Bool, true, false, cond, true≢false}
use Prim.Native.Nat.{ℕ, ◌<◌, ◌≤◌}
use native.Mathlib.Omega.{arith}
use native.Mathlib.Decide.{dec_lt}
use borrow.Author.Tests.{ltb-true, eqb-true, eqb-false}
use lib.Dec.{ltb, eqb}
use lib.ListN.{length}
use Rattle.base.specs.Refusals.{first_refusal}
use Rattle.base.specs.declared.answer.Answer.TheVariants.{Done}
use Rattle.base.proofs.RefusalLaws.{first_passed}
use Rattle.deps.specs.Sets.{column, in_row}
use Rattle.deps.specs.declared.batches.Batch.{Batch}
use Rattle.deps.specs.declared.sets.DepSet.{DepSet}
use Rattle.keys.specs.Columns.{identify_of}
use Rattle.keys.specs.declared.columns.Keys.{Keys}
use Rattle.slots.specs.Slot.{null_slot}
use Rattle.slots.specs.declared.slot.Slot.{Slot}
use Rattle.table.specs.Place.{place_of}
use Rattle.table.specs.Table.{len_of, holds, slot_of, put_at, nulls_to}
use Rattle.table.specs.declared.place.Place.{Place}
use Rattle.table.specs.declared.table.Table.{Table}
use Rattle.table.proofs.SlotReads.{holds_each, each_holds, nulls_reached, nulls_keys, nulls_len, nulls_len_other, nulls_added, nulls_kept, nulls_hold}
use Rattle.bounds.specs.Highest.{highest_of}
use Rattle.bounds.proofs.BoundLaws.{table_fits_each}
use Rattle.bounds.proofs.HighestLaws.{highest_at, highest_least}
use Rattle.outcomes.specs.Outcome.{Handled, done, outcome, outcome_of, unless_refused}
use Rattle.outcomes.specs.Refusal.{message_tests_in, contents_tests_in, lead_tests_in, message_refusal, proposal_refusal, lead_refusal}
use Rattle.outcomes.specs.declared.message.Message.{Message}
use Rattle.outcomes.specs.declared.message.Proposal.{Proposal}
use Rattle.outcomes.specs.declared.output.Record.{Record}
use Rattle.outcomes.proofs.OutcomeLaws.{is_refused_lem}
use Rattle.changes.specs.View.{view_of, slot_seen}
use Rattle.changes.specs.Change.{Makes, Seven, changed, refusing, doing}
use Rattle.changes.specs.declared.view.View.{View}
use Rattle.changes.specs.declared.change.Extent.TheVariants as Extents

-- ---- a table with null slots added up to the place

module _ (t : Table) (at : Place) where
  -- a place that the table does not hold is past its row's slots
  past_row : holds t at ≡ false → at.col < 32 → len_of t at.row ≤ at.col
  past_row h m = elim (dec_lt at.col (len_of t at.row)) [
    | yes k ↦ absurd (true≢false (sym (each_holds t at m k) ∙ h))
    | no k ↦ omega arith
  ]

  -- its slot at the place is the one seen
  pub seen_there : at.row < 7 → at.col < 32 → slot_of (nulls_to t at) at ≡ slot_seen t at
  unfolding slot_seen
  seen_there l m = go (holds t at) refl
    where
      go : (b : Bool) → holds t at ≡ b → slot_of (nulls_to t at) at ≡ cond (holds t at) (slot_of t at) null_slot
      go true h = nulls_kept t at at h l m ∙ sym (rw h)
      go false h = nulls_added t at at.col l m (past_row h m) (omega arith) ∙ sym (rw h)

module _ (t : Table) (at : Place) (lens : length t.lens ≡ 7) (l : at.row < 7) (m : at.col < 32) where
  -- what it holds more than the table is null
  more_null : (b : Place) → holds t b ≡ false → holds (nulls_to t at) b ≡ true → slot_of (nulls_to t at) b ≡ null_slot
  more_null b h g = go (eqb b.row at.row) refl
    where
      in_row_lem : b.row ≡ at.row → len_of t at.row ≤ b.col → b.col < len_of (nulls_to t at) at.row → slot_of (nulls_to t at) b ≡ null_slot
      in_row_lem r short held = rw r (nulls_added t at b.col l m short (omega (arith, nulls_len t at lens l)))

      go : (x : Bool) → eqb b.row at.row ≡ x → slot_of (nulls_to t at) b ≡ null_slot
      go true q =
          let r = eqb-true b.row at.row q in
          let p = holds_each (nulls_to t at) b g in
          in_row_lem r (rw r at (past_row t b h p.0)) (rw r at p.1)
      go false q =
          let p = holds_each (nulls_to t at) b g in
          absurd (omega (arith, past_row t b h p.0, p.1, nulls_len_other t at b.row (eqb-false b.row at.row q)))

  module _ (d : DepSet) where
    no_more : (row col : ℕ) → row < 7 → in_row d row ≡ column col → holds (nulls_to t at) (place_of row col) ≡ true → (slot_of (nulls_to t at) (place_of row col)).seq ≤ highest_of t d
    no_more row col k i g = go (holds t (place_of row col)) refl
      where
        go : (x : Bool) → holds t (place_of row col) ≡ x → (slot_of (nulls_to t at) (place_of row col)).seq ≤ highest_of t d
        go true h = omega (arith, highest_at t d row col k i h, ap (λ (s : Slot). s.seq) (nulls_kept t at (place_of row col) h k m))
        go false h = omega (arith, ap (λ (s : Slot). s.seq) (more_null (place_of row col) h g))

    no_less : (row col : ℕ) → row < 7 → in_row d row ≡ column col → holds t (place_of row col) ≡ true → (slot_of t (place_of row col)).seq ≤ highest_of (nulls_to t at) d
    no_less row col k i h =
        let b = place_of row col in
        omega (arith, highest_at (nulls_to t at) d row col k i (nulls_hold t at b lens l h), ap (λ (s : Slot). s.seq) (nulls_kept t at b h k m))

    -- the highest sequence of a set is what it was
    pub highest_there : highest_of (nulls_to t at) d ≡ highest_of t d
    highest_there = omega (arith, highest_least (nulls_to t at) d (highest_of t d) no_more, highest_least t d (highest_of (nulls_to t at) d) no_less)

-- ---- the parts of a view

-- the refusal of a message, of a proposal and of a Lead
abbrev pub message_in : View → Message → ℕ
message_in v m = first_refusal (message_tests_in v.within v.config.n m)

abbrev pub proposal_in : View → Proposal → ℕ
proposal_in v p = first_refusal (message_tests_in v.within v.config.n p.message ++ contents_tests_in v.config.n p)

abbrev pub lead_in : View → Place → ℕ
lead_in v at = first_refusal (lead_tests_in v.within v.config.n v.held at)

pub seven_seen : (t : Table) (at : Place) (b : Batch) → Seven (view_of t at b)
unfolding view_of
seven_seen t at b w = (table_fits_each t w).config_fits.seven

module _ (t : Table) (at : Place) (b : Batch) (v : View) (e : view_of t at b ≡ v) where
  pub config_seen : t.config ≡ v.config
  unfolding view_of
  config_seen = ap (λ (x : View). x.config) e

  pub held_seen : holds t at ≡ v.held
  unfolding view_of
  held_seen = ap (λ (x : View). x.held) e

  -- the slot at the place, where the table holds it, and once the null slots are there
  pub held_slot : v.held ≡ true → slot_of t at ≡ v.slot
  unfolding view_of slot_seen
  held_slot h = sym (rw (held_seen ∙ h)) ∙ ap (λ (x : View). x.slot) e

  pub slot_seen_lem : at.row < 7 → at.col < 32 → slot_of (nulls_to t at) at ≡ v.slot
  unfolding view_of
  slot_seen_lem l m = seen_there t at l m ∙ ap (λ (x : View). x.slot) e

  -- what the batch waits for, and its highest sequence, with the null slots there
  pub mine_seen : identify_of (nulls_to t at).keys b ≡ v.mine
  unfolding view_of
  mine_seen = ap (λ (k : Keys). identify_of k b) (nulls_keys t at) ∙ ap (λ (x : View). x.mine) e

  pub highest_seen : length t.lens ≡ 7 → at.row < 7 → at.col < 32 → highest_of (nulls_to t at) (identify_of (nulls_to t at).keys b) ≡ v.highest
  unfolding view_of
  highest_seen lens l m =
      highest_there t at lens l m _ ∙ ap (λ (k : Keys). highest_of t (identify_of k b)) (nulls_keys t at) ∙ ap (λ (x : View). x.highest) e

  -- its refusals are the table's
  pub message_seen : (m : Message) → message_in v m ≡ message_refusal t m
  unfolding view_of message_refusal
  message_seen m = ap (λ (x : View). message_in x m) (sym e)

  pub proposal_seen : (p : Proposal) → proposal_in v p ≡ proposal_refusal t p
  unfolding view_of proposal_refusal
  proposal_seen p = ap (λ (x : View). proposal_in x p) (sym e)

  pub lead_seen : lead_in v at ≡ lead_refusal t at
  unfolding view_of lead_refusal
  lead_seen = ap (λ (x : View). lead_in x at) (sym e)

-- ---- what is not refused is inside seven rows of 32

module _ (v : View) (seven : Seven v) where
  below_seven : v.within ≡ true → (k : ℕ) → ltb k v.config.n ≡ true → k < 7
  below_seven w k e = omega (arith, seven w, ltb-true k v.config.n e)

  pub message_inside : (m : Message) → message_in v m ≡ 0 → (m.peer < 7) × ((m.at.row < 7) × (m.at.col < 32))
  message_inside m e =
      let h = first_passed (message_tests_in v.within v.config.n m) (omega arith) e in
      (below_seven h.0 m.peer h.1.0, (below_seven h.0 m.at.row h.1.1.0, ltb-true _ _ h.1.1.1.0))

  pub proposal_inside : (p : Proposal) → proposal_in v p ≡ 0 → (p.message.peer < 7) × ((p.message.at.row < 7) × (p.message.at.col < 32))
  proposal_inside p e =
      let h = first_passed (message_tests_in v.within v.config.n p.message ++ contents_tests_in v.config.n p) (omega arith) e in
      (below_seven h.0 p.message.peer h.1.0, (below_seven h.0 p.message.at.row h.1.1.0, ltb-true _ _ h.1.1.1.0))

  pub lead_inside : (at : Place) → lead_in v at ≡ 0 → ((at.row < 7) × (at.col < 32)) × (v.held ≡ true)
  lead_inside at e =
      let h = first_passed (lead_tests_in v.within v.config.n v.held at) (omega arith) e in
      ((below_seven h.0 at.row h.1.0, ltb-true _ _ h.1.1.0), h.1.1.1.0)

-- ---- what a change makes

-- a refusal, where its number is every such table's
pub makes_refused : (number : Table → ℕ) (h : Table → Handled) {v : View} {at : Place} {b : Batch} {k : ℕ} → 0 < k → ((t : Table) → view_of t at b ≡ v → k ≡ number t)
    → Makes (λ t. unless_refused (number t) (h t)) v at b (refusing k)
makes_refused number h {k = k} l f = record { inside = tt; same = λ t lens e. is_refused_lem t k (number t) (h t) (f t e) l }

-- a slot put at a place that is held
pub held_put : (t : Table) (at : Place) (s : Slot) (records : List Record) → holds t at ≡ true → changed t at (doing Extents.Slot s records) ≡ outcome_of t (done (put_at t at s) records)
held_put t at s records h = ap (λ (u : Table). outcome Done (put_at u at s) records) (nulls_reached t at (holds_each t at h).1)
