-- What the slot holds after each handler, what is put out, and what stays.
use mathlib.Core.Path.{◌≡◌, refl, ap, ◌∙◌}
use mathlib.Core.List.{List, [], ◌∷◌}
use mathlib.Core.Bool.{true, false}
use Prim.Native.Nat.{ℕ, suc, ◌<◌, ◌≤◌}
use native.Mathlib.Omega.{arith}
use lib.ListN.{length}
use Rattle.base.specs.Refusals.{sequence_limit}
use Rattle.base.specs.Marks.{marked, count_of}
use Rattle.base.specs.declared.status.Status.TheVariants.{Accepting}
use Rattle.deps.specs.Sets.{column, in_row, AtMost}
use Rattle.deps.specs.declared.batches.Batch.{Batch}
use Rattle.deps.proofs.SetLaws.{union_left, union_right}
use Rattle.keys.specs.Columns.{identify_of, refreshed_by}
use Rattle.keys.specs.declared.columns.Keys.{Keys}
use Rattle.table.specs.Place.{place_of, index_of}
use Rattle.slots.specs.Slot.{heard_from, leading, committed}
use Rattle.table.specs.Table.{holds, slot_no, slot_of, put_at, stored_at}
use Rattle.table.specs.declared.place.Place.{Place}
use Rattle.slots.specs.declared.slot.Slot.{Slot}
use Rattle.table.specs.declared.table.Table.{Table}
use Rattle.table.proofs.SlotReads.{nulls_hold, put_there, put_elsewhere, stored_there, stored_elsewhere, stored_config, stored_lens, stored_bars, stored_keys, nulls_config, nulls_bars, nulls_keys, nulls_length, nulls_kept}
use Rattle.bounds.proofs.HighestLaws.{highest_at}
use Rattle.outcomes.specs.Output.{log_of, notice_of, reply_of}
use Rattle.outcomes.specs.Outcome.{ignored, done}
use Rattle.outcomes.specs.Refusal.{message_refusal, proposal_refusal}
use Rattle.outcomes.specs.declared.message.Message.{Message}
use Rattle.outcomes.specs.declared.message.Proposal.{Proposal}
use Rattle.outcomes.specs.declared.output.Record.{Record}
use Rattle.proposing.specs.Proposals.{stored_for, raised_by, proposed}
use Rattle.proposing.specs.declared.proposals.Phase.{Phase}
use Rattle.proposing.specs.declared.proposals.Phase.TheVariants.{PreAccept, CommitNotice}
use Rattle.proposing.specs.declared.proposals.Values.{Values}
use Rattle.handlers.specs.Replies.{heeds, on_mark, accept_reply}
use Rattle.handlers.specs.Prepare.{exp_prepare}
use Rattle.handlers.specs.Lead.{lead_slot}
use Rattle.outcomes.proofs.RefusalLaws.{Heard, Taken, Led, placed_row}
use Rattle.handlers.proofs.CaseLaws.{WhenDone, filled, slot_before, to_store, slot_after, slot_marked, proposed_cases, reply_cases, mark_cases, prepare_cases, lead_cases}

-- ---- PreAccept, Accept and CommitNotice

pub record Stored (phase : Phase) (t : Table) (p : Proposal) (u : Table) (records : List Record) : Type 0 where
  pub taken : Taken t p
  pub not_below : (slot_before t p.message).ballot ≤ p.message.ballot
  pub within_limit : (to_store phase t p).seq ≤ sequence_limit
  pub there : slot_of u p.message.at ≡ slot_after phase t p
  pub elsewhere : (i : ℕ) → (i ≡ index_of p.message.at → ⊥) → slot_no u i ≡ slot_no (filled t p.message) i
  pub lens : u.lens ≡ (filled t p.message).lens
  pub bars : u.bars ≡ t.bars
  pub config : u.config ≡ t.config
  pub keys : u.keys ≡ refreshed_by t.keys p.message.at.row p.message.at.col p.batch
  pub log : records ≡ log_of p.message.at (slot_after phase t p) ∷ []

stored_batch : (phase : Phase) (s : Slot) (m : Message) (v : Values) (b : Batch) → (stored_for phase s m v b).batch ≡ b
stored_batch phase s m v b = grind arith

pub proposed_done : (phase : Phase) (t : Table) (p : Proposal) (u : Table) (records : List Record) → length t.slots ≡ 224 → proposed phase t p ≡ done u records → Stored phase t p u records
proposed_done phase t p u records size e = rw e at says
  where
    stored : Taken t p → (slot_before t p.message).ballot ≤ p.message.ballot → (to_store phase t p).seq ≤ sequence_limit
        → Stored phase t p (stored_at (filled t p.message) p.message.at (slot_after phase t p)) (log_of p.message.at (slot_after phase t p) ∷ [])
    stored h b s =
        let f = filled t p.message in
        let at = p.message.at in
        let r = slot_after phase t p in
        record {
          taken = h;
          not_below = b;
          within_limit = s;
          there = stored_there f at r (nulls_length t at size) (placed_row h.heard.placed) h.heard.placed.col;
          elsewhere = stored_elsewhere f at r;
          lens = stored_lens f at r;
          bars = stored_bars f at r ∙ nulls_bars t at;
          config = stored_config f at r ∙ nulls_config t at;
          keys =
              stored_keys f at r
              ∙ ap (λ (b : Batch). refreshed_by f.keys at.row at.col b) (stored_batch phase (slot_before t p.message) p.message (to_store phase t p) p.batch)
              ∙ ap (λ (k : Keys). refreshed_by k at.row at.col p.batch) (nulls_keys t at);
          log = refl;
        }

    says : WhenDone (Stored phase t p) (proposed phase t p)
    says = proposed_cases (WhenDone (Stored phase t p)) phase t p (λ l. tt) (λ h b. tt) (λ h b s. tt) stored

-- a CommitNotice does not touch the source
pub source_untouched : {t : Table} {p : Proposal} {u : Table} {records : List Record} → Stored CommitNotice t p u records
    → (slot_of u p.message.at).source ≡ (slot_before t p.message).source
source_untouched s = ap (λ (r : Slot). r.source) s.there

-- a lead and its accept marks outlive every store
pub marks_outlive : {phase : Phase} {t : Table} {p : Proposal} {u : Table} {records : List Record} → Stored phase t p u records
    → ((slot_of u p.message.at).led ≡ (slot_before t p.message).led) × ((slot_of u p.message.at).marks ≡ (slot_before t p.message).marks)
marks_outlive e = grind arith

-- ---- what a PreAccept waits for

pub record WaitsFor (t : Table) (p : Proposal) (s : Slot) : Type 0 where
  pub given : AtMost p.deps s.deps
  pub mine : AtMost (identify_of t.keys p.batch) s.deps
  -- every slot of my set that was in the table
  pub above : (row col : ℕ) → row < 7 → in_row (identify_of t.keys p.batch) row ≡ column col → holds t (place_of row col) ≡ true → (slot_of t (place_of row col)).seq < s.seq
  pub at_least : p.seq ≤ s.seq
  pub some : 1 ≤ s.seq
  pub within : s.seq ≤ sequence_limit

pub pre_accept_waits_for : {t : Table} {p : Proposal} {u : Table} {records : List Record} → length t.lens ≡ 7 → Stored PreAccept t p u records
    → WaitsFor t p (slot_of u p.message.at)
unfolding raised_by
pre_accept_waits_for {t} {p} {u} lens s =
    let at = p.message.at in
    let f = filled t p.message in
    let h = s.taken.heard.placed in
    rw s.there
    (record {
      given = union_left p.deps _;
      mine = rw (nulls_keys t at) (union_right p.deps _);
      above = λ row col l e held. let b = place_of row col in
          let m : in_row (identify_of f.keys p.batch) row ≡ column col = rw (nulls_keys t at) e in
          let k = highest_at f (identify_of f.keys p.batch) row col l m (nulls_hold t at b lens (placed_row h) held) in
          omega (arith, ap (λ (r : Slot). r.seq) (nulls_kept t at b held l h.col));
      at_least = omega arith;
      some = omega arith;
      within = s.within_limit;
    })

-- ---- null slots stay although the ballot test fails, and it is ignored for nothing else

pub null_slots_stay : (phase : Phase) (t : Table) (p : Proposal) → proposal_refusal t p ≡ 0 → p.message.ballot < (slot_before t p.message).ballot
    → proposed phase t p ≡ ignored (filled t p.message)
unfolding proposed
null_slots_stay phase t p e l = grind arith

pub proposed_ignored : (phase : Phase) (t : Table) (p : Proposal) (u : Table) → proposed phase t p ≡ ignored u
    → (u ≡ filled t p.message) × (p.message.ballot < (slot_before t p.message).ballot)
unfolding proposed
proposed_ignored phase t p u e = grind arith

pub prepare_null_slots_stay : (t : Table) (m : Message) → message_refusal t m ≡ 0 → m.ballot ≤ (slot_before t m).ballot → exp_prepare t m ≡ ignored (filled t m)
unfolding exp_prepare
prepare_null_slots_stay t m e l = grind arith

pub prepare_ignored : (t : Table) (m : Message) (u : Table) → exp_prepare t m ≡ ignored u → (u ≡ filled t m) × (m.ballot ≤ (slot_before t m).ballot)
unfolding exp_prepare
prepare_ignored t m u e = grind arith

-- ---- a table that differs from another at most in the slot at a place

pub record OnlyAt (t : Table) (at : Place) (u : Table) : Type 0 where
  pub elsewhere : (i : ℕ) → (i ≡ index_of at → ⊥) → slot_no u i ≡ slot_no t i
  pub lens : u.lens ≡ t.lens
  pub bars : u.bars ≡ t.bars
  pub keys : u.keys ≡ t.keys
  pub config : u.config ≡ t.config

put_only : (t : Table) (at : Place) (s : Slot) → OnlyAt t at (put_at t at s)
put_only t at s = grind (arith, put_elsewhere)

-- ---- AcceptReply

-- the slot is Accepting, of this ballot, led, and the peer not yet marked
pub record Heeded (s : Slot) (m : Message) : Type 0 where
  pub accepting : s.status ≡ Accepting
  pub same_ballot : s.ballot ≡ m.ballot
  pub led : s.led ≡ true
  pub not_marked : marked s.marks m.peer ≡ false

pub heeds_each : (s : Slot) (m : Message) → heeds s m ≡ true → Heeded s m
unfolding heeds
heeds_each s m h = grind arith

pub each_heeds : (s : Slot) (m : Message) → Heeded s m → heeds s m ≡ true
unfolding heeds
each_heeds s m h = grind arith

-- the slot with the mark, and what is put out: Committed, the log record and the broadcast exactly with at least simple marks
pub data Counted (t : Table) (at : Place) (s : Slot) : Slot → List Record → Type 0 where
  too_few : count_of s.marks < t.config.simple → Counted t at s s []
  enough : t.config.simple ≤ count_of s.marks → Counted t at s (committed s) (log_of at (committed s) ∷ notice_of at (committed s) ∷ [])

pub record Marked (t : Table) (m : Message) (u : Table) (records : List Record) : Type 0 where
  pub heard : Heard t m
  pub held : holds t m.at ≡ true
  pub heeded : Heeded (slot_of t m.at) m
  pub counted : Counted t m.at (slot_marked t m) (slot_of u m.at) records
  pub rest : OnlyAt t m.at u

pub reply_done : (t : Table) (m : Message) (u : Table) (records : List Record) → length t.slots ≡ 224 → accept_reply t m ≡ done u records → Marked t m u records
reply_done t m u records size e = rw e at says
  where
    put : (h : Heard t m) (held : holds t m.at ≡ true) (heeded : heeds (slot_of t m.at) m ≡ true) (s : Slot) (l : List Record) → Counted t m.at (slot_marked t m) s l
        → Marked t m (put_at t m.at s) l
    put h held heeded s l k =
        record {
          heard = h;
          held = held;
          heeded = heeds_each (slot_of t m.at) m heeded;
          counted = rw (put_there t m.at s size (placed_row h.placed) h.placed.col) k;
          rest = put_only t m.at s;
        }

    says : WhenDone (Marked t m) (accept_reply t m)
    says =
        reply_cases (WhenDone (Marked t m)) t m (λ l. tt) (λ h x. tt)
        (λ h held heeded. mark_cases (WhenDone (Marked t m)) t m.at (slot_marked t m)
        (λ l. put h held heeded (slot_marked t m) [] (too_few l))
        (λ l. put h held heeded (committed (slot_marked t m)) _ (enough l)))

-- ignored where the slot is absent or does not heed it, and then nothing is added
pub reply_ignored : (t : Table) (m : Message) (u : Table) → accept_reply t m ≡ ignored u → (u ≡ t) × (holds t m.at ≡ true → Heeded (slot_of t m.at) m → ⊥)
unfolding accept_reply on_mark
reply_ignored t m u e = grind (arith, each_heeds)

-- ---- ExpPrepare

pub record Replied (t : Table) (m : Message) (u : Table) (records : List Record) : Type 0 where
  pub heard : Heard t m
  pub greater : (slot_before t m).ballot < m.ballot
  pub there : slot_of u m.at ≡ heard_from (slot_before t m) m.peer
  pub reply : records ≡ reply_of m.peer m.ballot m.at (slot_before t m) ∷ []
  pub rest : OnlyAt (filled t m) m.at u

pub prepare_done : (t : Table) (m : Message) (u : Table) (records : List Record) → length t.slots ≡ 224 → exp_prepare t m ≡ done u records → Replied t m u records
prepare_done t m u records size e = rw e at says
  where
    says : WhenDone (Replied t m) (exp_prepare t m)
    says =
        prepare_cases (WhenDone (Replied t m)) t m (λ l. tt) (λ h b. tt)
        (λ h b. record {
          heard = h;
          greater = b;
          there = put_there (filled t m) m.at _ (nulls_length t m.at size) (placed_row h.placed) h.placed.col;
          reply = refl;
          rest = put_only (filled t m) m.at _;
        })

-- all of a slot but its source
pub record Stays (s r : Slot) : Type 0 where
  pub ballot : r.ballot ≡ s.ballot
  pub status : r.status ≡ s.status
  pub seq : r.seq ≡ s.seq
  pub deps : r.deps ≡ s.deps
  pub batch : r.batch ≡ s.batch
  pub led : r.led ≡ s.led
  pub marks : r.marks ≡ s.marks

pub ballot_stays : {t : Table} {m : Message} {u : Table} {records : List Record} → Replied t m u records → Stays (slot_before t m) (slot_of u m.at)
ballot_stays r = grind arith

pub source_is_peer : {t : Table} {m : Message} {u : Table} {records : List Record} → Replied t m u records → (slot_of u m.at).source ≡ suc m.peer
source_is_peer r = ap (λ (s : Slot). s.source) r.there

-- ---- Lead

pub record Leads (t : Table) (at : Place) (u : Table) (records : List Record) : Type 0 where
  pub led : Led t at
  pub there : slot_of u at ≡ leading (slot_of t at)
  pub silent : records ≡ []
  pub rest : OnlyAt t at u

pub lead_done : (t : Table) (at : Place) (u : Table) (records : List Record) → length t.slots ≡ 224 → lead_slot t at ≡ done u records → Leads t at u records
lead_done t at u records size e = rw e at says
  where
    says : WhenDone (Leads t at) (lead_slot t at)
    says =
        lead_cases (WhenDone (Leads t at)) t at (λ l. tt)
        (λ h. record {
          led = h;
          there = put_there t at _ size (placed_row h.placed) h.placed.col;
          silent = refl;
          rest = put_only t at _;
        })

-- a Lead is never ignored
pub lead_not_ignored : (t : Table) (at : Place) (u : Table) → lead_slot t at ≡ ignored u → ⊥
unfolding lead_slot
lead_not_ignored t at u e = grind arith
