-- Every handler keeps a table within the bounds.
use mathlib.Core.Path.{◌≡◌}
use mathlib.Core.Bool.{true}
use native.Mathlib.Omega.{arith}
use lib.ListN.{length}
use Rattle.base.specs.declared.status.Status.{Status}
use Rattle.base.specs.declared.status.Status.TheVariants.{PreAccepting, Accepting, Committed}
use Rattle.deps.specs.Sets.{set_fits}
use Rattle.deps.proofs.SetLaws.{union_fits}
use Rattle.keys.proofs.KeyLaws.{identify_fits}
use Rattle.slots.specs.Slot.{stored_with, heard_from, leading, committed, slot_fits}
use Rattle.table.specs.Table.{slot_of, put_at, stored_at}
use Rattle.bounds.specs.Bounds.{table_fits}
use Rattle.table.specs.declared.place.Place.{Place}
use Rattle.slots.specs.declared.slot.Slot.{Slot}
use Rattle.table.specs.declared.table.Table.{Table}
use Rattle.table.proofs.SlotReads.{nulls_config, nulls_keys, nulls_holds}
use Rattle.bounds.proofs.BoundLaws.{table_fits_each, held_slot_fits, put_keeps, stored_keeps, nulls_keep}
use Rattle.slots.proofs.SlotLaws.{stored_slot_fits, heard_fits, led_fits, marked_fits, committed_fits}
use Rattle.outcomes.specs.Outcome.{Handled, outcome_of}
use Rattle.outcomes.specs.declared.message.Message.{Message}
use Rattle.outcomes.specs.declared.message.Proposal.{Proposal}
use Rattle.proposing.specs.Proposals.{raised_by, proposed}
use Rattle.proposing.specs.declared.proposals.Phase.{Phase}
use Rattle.proposing.specs.declared.proposals.Phase.TheVariants.{PreAccept, Accept, CommitNotice}
use Rattle.handlers.specs.Replies.{accept_reply}
use Rattle.handlers.specs.Prepare.{exp_prepare}
use Rattle.handlers.specs.Lead.{lead_slot}
use Rattle.outcomes.proofs.RefusalLaws.{Heard, Taken, placed_row}
use Rattle.handlers.proofs.CaseLaws.{Each, filled, slot_before, to_store, slot_after, slot_marked, proposed_cases, reply_cases, mark_cases, prepare_cases, lead_cases}

-- the table of a call that is ignored or done is within the bounds
abbrev pub Keeps : Handled → Type 0
Keeps = Each (λ k. Unit) (λ u. table_fits u ≡ true) (λ u records. table_fits u ≡ true)

-- so the one that a call gives back is, if the one before was
pub kept_outcome : (t : Table) (h : Handled) → Keeps h → table_fits t ≡ true → table_fits (outcome_of t h).table ≡ true
kept_outcome t h e f = grind arith

-- ---- the table with its null slots, and the slot there

module _ (t : Table) (m : Message) (lens : length t.lens ≡ 7) (heard : Heard t m) where
  filled_fits : table_fits (filled t m) ≡ true
  filled_fits = grind (arith, nulls_keep)

  before_fits : slot_fits t.config.n (slot_before t m) ≡ true
  before_fits =
      let row = placed_row heard.placed in
      rw (nulls_config t m.at) at (held_slot_fits (filled t m) filled_fits m.at row (nulls_holds t m.at lens row heard.placed.col))

  -- a slot put there
  filled_keeps : (s : Slot) → slot_fits t.config.n s ≡ true → table_fits (put_at (filled t m) m.at s) ≡ true
  filled_keeps s f = put_keeps (filled t m) m.at filled_fits s (rw (nulls_config t m.at) f)

  -- a slot stored there, and the keys refreshed
  stored_in_keeps : (s : Slot) → slot_fits t.config.n s ≡ true → table_fits (stored_at (filled t m) m.at s) ≡ true
  stored_in_keeps s f = grind (arith, stored_keeps, filled_fits, nulls_config)

-- ---- what a proposal stores

module _ (t : Table) (p : Proposal) (lens : length t.lens ≡ 7) (cols : length t.keys.cols ≡ 256) (taken : Taken t p) where
  values_fit : (phase : Phase) → set_fits t.config.n (to_store phase t p).deps ≡ true
  unfolding raised_by
  values_fit phase = grind (arith, nulls_keys, union_fits, identify_fits, table_fits_each)

  with_fits : (phase : Phase) (status : Status) → slot_fits t.config.n (stored_with (slot_before t p.message) p.message.ballot status (to_store phase t p).seq (to_store phase t p).deps p.batch) ≡ true
  with_fits phase status = grind (arith, stored_slot_fits, before_fits, values_fit)

  after_fits : (phase : Phase) → slot_fits t.config.n (slot_after phase t p) ≡ true
  after_fits PreAccept = heard_fits t.config.n _ (with_fits PreAccept PreAccepting) p.message.peer taken.heard.peer
  after_fits Accept = heard_fits t.config.n _ (with_fits Accept Accepting) p.message.peer taken.heard.peer
  after_fits CommitNotice = with_fits CommitNotice Committed

-- ---- the handlers

pub proposed_keeps : (phase : Phase) (t : Table) (p : Proposal) → length t.lens ≡ 7 → length t.keys.cols ≡ 256 → Keeps (proposed phase t p)
proposed_keeps phase t p lens cols =
    proposed_cases Keeps phase t p
    (λ l. tt)
    (λ h b. filled_fits t p.message lens h.heard)
    (λ h b s. tt)
    (λ h b s. stored_in_keeps t p.message lens h.heard (slot_after phase t p) (after_fits t p lens cols h phase))

pub prepare_keeps : (t : Table) (m : Message) → length t.lens ≡ 7 → Keeps (exp_prepare t m)
prepare_keeps t m lens =
    prepare_cases Keeps t m
    (λ l. tt)
    (λ h b. filled_fits t m lens h)
    (λ h b. filled_keeps t m lens h (heard_from (slot_before t m) m.peer) (heard_fits t.config.n (slot_before t m) (before_fits t m lens h) m.peer h.peer))

pub reply_keeps : (t : Table) (m : Message) → Keeps (accept_reply t m)
reply_keeps t m =
    reply_cases Keeps t m
    (λ l. tt)
    (λ h e. h.placed.within)
    (λ h held e. let w = h.placed.within in
    let f = marked_fits t.config.n (slot_of t m.at) (held_slot_fits t w m.at (placed_row h.placed) held) m.peer h.peer in
    mark_cases Keeps t m.at (slot_marked t m)
    (λ l. put_keeps t m.at w (slot_marked t m) f)
    (λ l. put_keeps t m.at w (committed (slot_marked t m)) (committed_fits t.config.n (slot_marked t m) f)))

pub lead_keeps : (t : Table) (at : Place) → Keeps (lead_slot t at)
lead_keeps t at =
    lead_cases Keeps t at
    (λ l. tt)
    (λ h. let w = h.placed.within in
    put_keeps t at w (leading (slot_of t at)) (led_fits t.config.n (slot_of t at) (held_slot_fits t w at (placed_row h.placed) h.held)))
