-- What is known of a call that is not refused.
use mathlib.Core.Path.{◌≡◌, refl, sym, ◌∙◌}
use mathlib.Core.Bool.{true}
use Prim.Native.Nat.{ℕ, zero, suc, ◌<◌, ◌≤◌}
use native.Mathlib.Omega.{arith}
use borrow.Author.Tests.{ltb-true, leb-true}
use Rattle.base.specs.Refusals.{first_refusal, sequence_limit, refusal_number}
use Rattle.base.specs.declared.refusals.Refusal.{Refusal}
use Rattle.base.specs.declared.refusals.Refusal.TheVariants.{OutsideBounds, NoReplica, NoColumn, BadDependency, BadBatch, OverLimit, NoSlot, ShortOrder, Cut, Unreadable, TooLong}
use Rattle.base.proofs.RefusalLaws.{first_passed, append_refused, first_append_passed}
use Rattle.deps.specs.Sets.{set_fits}
use Rattle.deps.specs.Batches.{batch_fits}
use Rattle.table.specs.Table.{holds}
use Rattle.bounds.specs.Bounds.{table_fits}
use Rattle.table.specs.declared.place.Place.{Place}
use Rattle.table.specs.declared.table.Table.{Table}
use Rattle.bounds.proofs.BoundLaws.{row_below}
use Rattle.outcomes.specs.Refusal.{message_tests, contents_tests, lead_tests, message_refusal, proposal_refusal, lead_refusal}
use Rattle.outcomes.specs.declared.message.Message.{Message}
use Rattle.outcomes.specs.declared.message.Proposal.{Proposal}

-- no refusal has the number 0
pub number_some : (refusal : Refusal) → 0 < refusal_number refusal
number_some OutsideBounds = omega arith
number_some NoReplica = omega arith
number_some NoColumn = omega arith
number_some BadDependency = omega arith
number_some BadBatch = omega arith
number_some OverLimit = omega arith
number_some NoSlot = omega arith
number_some ShortOrder = omega arith
number_some Cut = omega arith
number_some Unreadable = omega arith
number_some TooLong = omega arith

-- a table within the bounds, and a place in it
pub record Placed (t : Table) (at : Place) : Type 0 where
  pub within : table_fits t ≡ true
  pub row : at.row < t.config.n
  pub col : at.col < 32

pub record Heard (t : Table) (m : Message) : Type 0 where
  pub placed : Placed t m.at
  pub peer : m.peer < t.config.n

pub record Taken (t : Table) (p : Proposal) : Type 0 where
  pub heard : Heard t p.message
  pub deps : set_fits t.config.n p.deps ≡ true
  pub batch : batch_fits p.batch ≡ true
  pub seq : p.seq ≤ sequence_limit

pub record Led (t : Table) (at : Place) : Type 0 where
  pub placed : Placed t at
  pub held : holds t at ≡ true

pub message_heard : (t : Table) (m : Message) → message_refusal t m ≡ 0 → Heard t m
unfolding message_refusal
message_heard t m e =
    let h = first_passed (message_tests t m) (omega arith) e in
    record { placed = record { within = h.0; row = ltb-true _ _ h.1.1.0; col = ltb-true _ _ h.1.1.1.0 }; peer = ltb-true _ _ h.1.0 }

pub lead_led : (t : Table) (at : Place) → lead_refusal t at ≡ 0 → Led t at
unfolding lead_refusal
lead_led t at e =
    let h = first_passed (lead_tests t at) (omega arith) e in
    record { placed = record { within = h.0; row = ltb-true _ _ h.1.0; col = ltb-true _ _ h.1.1.0 }; held = h.1.1.1.0 }

-- the head's refusal is the proposal's, and where there is none the contents decide
pub head_refused : (t : Table) (p : Proposal) (k : ℕ) → k ≡ message_refusal t p.message → 0 < k → k ≡ proposal_refusal t p
unfolding message_refusal proposal_refusal
head_refused t p k e l = append_refused (message_tests t p.message) (contents_tests t p) k e l

pub head_passed : (t : Table) (p : Proposal) → message_refusal t p.message ≡ 0 → proposal_refusal t p ≡ first_refusal (contents_tests t p)
unfolding message_refusal proposal_refusal
head_passed t p e = first_append_passed (message_tests t p.message) (contents_tests t p) (omega arith) e

pub proposal_taken : (t : Table) (p : Proposal) → proposal_refusal t p ≡ 0 → Taken t p
proposal_taken t p e =
    let m = heads (message_refusal t p.message) refl in
    let h = first_passed (contents_tests t p) (omega arith) (sym (head_passed t p m) ∙ e) in
    record { heard = message_heard t p.message m; deps = h.0; batch = h.1.0; seq = leb-true _ _ h.1.1.0 }
  where
    heads : (k : ℕ) → k ≡ message_refusal t p.message → message_refusal t p.message ≡ 0
    heads zero q = sym q
    heads (suc k) q = absurd (omega (arith, head_refused t p (suc k) q (omega arith), e))

-- a row is below 7
pub placed_row : {t : Table} {at : Place} → Placed t at → at.row < 7
placed_row {t} {at} h = row_below t h.within at.row h.row
