-- Every handler keeps a table whole: what its bytes held before they hold after.
use mathlib.Core.Path.{◌≡◌, refl, ap, ◌∙◌}
use mathlib.Core.Bool.{Bool, true, false}
use mathlib.Core.List.{List}
use mathlib.Core.Logic.{⊎_elim, inl, inr}
use Prim.Native.Nat.{ℕ, suc, ◌+◌, ◌*◌, ◌<◌, ◌≤◌, ◌^◌}
use native.Mathlib.Omega.{arith}
use borrow.Author.Tests.{ltb-true, ltb-false, eqb-true, eqb-false}
use lib.Dec.{ltb, eqb}
use lib.ListN.{length, replicate, get_or, set, length-set, length-replicate, get_or-eq_default}
use lib.Seq.{get_or-set_same, get_or-set_other}
use Rattle.base.specs.Refusals.{sequence_limit}
use Rattle.base.specs.Config.{config_fits}
use Rattle.base.specs.declared.config.Config.{Config}
use Rattle.base.specs.declared.status.Status.{Status}
use Rattle.base.specs.declared.status.Status.TheVariants.{PreAccepting, Accepting, Committed}
use Rattle.base.proofs.ConfigLaws.{config_fits_each}
use Rattle.base.proofs.Lists.{fold_keeps, replicate_at}
use Rattle.base.proofs.Loops.{length_below}
use Rattle.deps.specs.Sets.{empty_set, raised_to}
use Rattle.deps.specs.Batches.{no_request, no_op, named_keys}
use Rattle.deps.specs.declared.sets.DepSet.{DepSet}
use Rattle.deps.specs.declared.batches.Batch.{Batch}
use Rattle.deps.proofs.SetLaws.{union_rows}
use Rattle.table.specs.Table.{nulls_in, empty_table, len_of, slot_no, slot_of, put_at, nulls_to, stored_at}
use Rattle.keys.specs.Columns.{columns_of, join_key, identify_of, raise_key, put_keys, refreshed_by}
use Rattle.keys.specs.declared.columns.Keys.{Keys}
use Rattle.slots.specs.Slot.{null_slot, stored_with, heard_from, leading, with_mark, committed}
use Rattle.slots.specs.declared.slot.Slot.{Slot}
use Rattle.table.specs.declared.place.Place.{Place}
use Rattle.table.specs.declared.table.Table.{Table}
use Rattle.table.proofs.SlotReads.{index_below, put_length, nulls_cases, grown, NullOrKept, null_or_kept}
use Rattle.bounds.proofs.BoundLaws.{put_either}
use Rattle.bounds.proofs.OpenLaws.{open_empty}
use Rattle.outcomes.specs.Outcome.{Handled, refused, ignored, done, outcome_of}
use Rattle.outcomes.specs.declared.message.Message.{Message}
use Rattle.outcomes.specs.declared.message.Proposal.{Proposal}
use Rattle.proposing.specs.Proposals.{raised_by, proposed}
use Rattle.proposing.specs.declared.proposals.Phase.{Phase}
use Rattle.proposing.specs.declared.proposals.Phase.TheVariants.{PreAccept, Accept, CommitNotice}
use Rattle.handlers.specs.Replies.{accept_reply}
use Rattle.handlers.specs.Prepare.{exp_prepare}
use Rattle.handlers.specs.Lead.{lead_slot}
use Rattle.outcomes.proofs.RefusalLaws.{Heard, placed_row}
use Rattle.handlers.proofs.CaseLaws.{Each, filled, slot_before, to_store, slot_after, slot_marked, proposed_cases, reply_cases, mark_cases, prepare_cases, lead_cases}
use Rattle.layout.specs.Batches.{RequestFits, BatchFits}
use Rattle.slot_bytes.specs.Slot.{SlotWhole}
use Rattle.image.specs.Tables.{RowsWhole, KeysWhole, TableWhole}

-- ---- slots

none_whole : RequestFits no_request
none_whole = record { client = omega arith; id = omega arith; key = omega arith; value = omega arith }

no_op_whole : BatchFits no_op
no_op_whole = record { count = omega arith; four = refl; each = λ i p. rw (replicate_at 4 i no_request) none_whole }

null_whole : SlotWhole null_slot
null_whole = record { ballot = omega arith; seq = omega arith; deps = refl; batch = no_op_whole; marks = refl }

module _ (s : Slot) (w : SlotWhole s) where
  stored_whole : (ballot : ℕ) (status : Status) (seq : ℕ) (deps : DepSet) (batch : Batch) → ballot < 256 ^ 8 → seq ≤ sequence_limit → length deps.cols ≡ 7 → BatchFits batch
      → SlotWhole (stored_with s ballot status seq deps batch)
  stored_whole ballot status seq deps batch h k e f = record { ballot = h; seq = k; deps = e; batch = f; marks = w.marks }

  heard_whole : (peer : ℕ) → SlotWhole (heard_from s peer)
  heard_whole peer = record { ballot = w.ballot; seq = w.seq; deps = w.deps; batch = w.batch; marks = w.marks }

  led_whole : SlotWhole (leading s)
  led_whole = record { ballot = w.ballot; seq = w.seq; deps = w.deps; batch = w.batch; marks = refl }

  marked_whole : (peer : ℕ) → SlotWhole (with_mark s peer)
  marked_whole peer = record { ballot = w.ballot; seq = w.seq; deps = w.deps; batch = w.batch; marks = rw length-set w.marks }

  committed_whole : SlotWhole (committed s)
  committed_whole = record { ballot = w.ballot; seq = w.seq; deps = w.deps; batch = w.batch; marks = w.marks }

-- ---- key columns

columns_seven : (k : Keys) → KeysWhole k → (key : ℕ) → length (columns_of k key).cols ≡ 7
columns_seven k w key = go (ltb key 256) refl
  where
    go : (b : Bool) → ltb key 256 ≡ b → length (columns_of k key).cols ≡ 7
    go true e = w.each key (ltb-true key 256 e)
    go false e = rw (get_or-eq_default k.cols (replicate 7 0) {n = key} (omega (arith, ltb-false key 256 e, w.keys)))

identify_seven : (k : Keys) (b : Batch) → KeysWhole k → length (identify_of k b).cols ≡ 7
unfolding identify_of
identify_seven k b w =
    fold_keeps (λ (d : DepSet). length d.cols ≡ 7) (join_key k)
    (λ d key e. omega (arith, union_rows d (columns_of k key), e, columns_seven k w key))
    (named_keys b) empty_set refl

raise_whole : (row col : ℕ) (k : Keys) (key : ℕ) → KeysWhole k → KeysWhole (raise_key row col k key)
unfolding raised_to
raise_whole row col k key w = record { keys = rw length-set w.keys; each = λ q p. go q p (eqb q key) refl }
  where
    go : (q : ℕ) → q < 256 → (b : Bool) → eqb q key ≡ b → length (columns_of (raise_key row col k key) q).cols ≡ 7
    go q p true e =
        let f = eqb-true q key e in
        rw (f, get_or-set_same k.cols key (raised_to (columns_of k key) row col).cols (replicate 7 0) (omega (arith, f, w.keys)), length-set) (columns_seven k w key)
    go q p false e = rw (get_or-set_other k.cols key q (raised_to (columns_of k key) row col).cols (replicate 7 0) (eqb-false q key e)) (w.each q p)

refreshed_whole : (k : Keys) (row col : ℕ) (b : Batch) → KeysWhole k → KeysWhole (refreshed_by k row col b)
unfolding refreshed_by
refreshed_whole k row col b w = fold_keeps KeysWhole (raise_key row col) (λ q key v. raise_whole row col q key v) (put_keys b) k w

-- ---- tables

-- a row's number, its length or its bar, set to one that a byte holds
pub set_rows : (rows : List ℕ) (row v : ℕ) → RowsWhole rows → v ≤ 255 → RowsWhole (set rows row v)
set_rows rows row v w h = record { seven = rw length-set w.seven; each = λ i p. go i p (eqb i row) refl }
  where
    go : (i : ℕ) → i < 7 → (b : Bool) → eqb i row ≡ b → get_or (set rows row v) i 0 ≤ 255
    go i p true e =
        let f = eqb-true i row e in
        rw (f, get_or-set_same rows row v 0 (omega (arith, f, w.seven))) h
    go i p false e = rw (get_or-set_other rows row i v 0 (eqb-false i row e)) (w.each i p)

module _ (t : Table) (at : Place) (w : TableWhole t) where
  put_whole : (s : Slot) → SlotWhole s → TableWhole (put_at t at s)
  put_whole s v =
      record {
        config = w.config;
        lens = w.lens;
        bars = w.bars;
        keys = w.keys;
        slots = put_length t at s ∙ w.slots;
        each = λ i p. ⊎_elim (λ (e : slot_no (put_at t at s) i ≡ slot_no t i). rw e (w.each i p)) (λ (e : slot_no (put_at t at s) i ≡ s). rw e v) (put_either t at s i);
      }

  store_whole : (s : Slot) → SlotWhole s → TableWhole (stored_at t at s)
  unfolding stored_at
  store_whole s v =
      let u = put_whole s v in
      record {
        config = u.config;
        lens = u.lens;
        bars = u.bars;
        keys = refreshed_whole t.keys at.row at.col s.batch w.keys;
        slots = u.slots;
        each = u.each;
      }

  nulls_whole : at.col < 32 → TableWhole (nulls_to t at)
  unfolding nulls_in
  nulls_whole l =
      nulls_cases t at TableWhole (λ reached. w)
      (λ short. record {
        config = w.config;
        lens = set_rows t.lens at.row (suc at.col) w.lens (omega arith);
        bars = w.bars;
        keys = w.keys;
        slots = length_below 224 _;
        each = λ i p. kept i p (null_or_kept t from to i p);
      })
    where
      from : ℕ
      from = 32 * at.row + len_of t at.row

      to : ℕ
      to = 32 * at.row + suc at.col

      kept : (i : ℕ) → i < 224 → NullOrKept t from to i → SlotWhole (slot_no (grown t at) i)
      kept i p (inl n) = rw n.2 null_whole
      kept i p (inr k) = rw k.1 (w.each i p)

  there_whole : at.row < 7 → at.col < 32 → SlotWhole (slot_of t at)
  there_whole l m = w.each _ (index_below at l m)

-- a table to begin with
pub empty_whole : (c : Config) → config_fits c ≡ true → TableWhole (empty_table c)
unfolding empty_table
empty_whole c h =
    let f = config_fits_each c h in
    let e = open_empty c in
    record {
      config = record { n = omega (arith, f.seven); own = omega (arith, f.seven, f.mine); simple = omega (arith, f.seven, f.rising, f.all); sup = omega (arith, f.seven, f.all) };
      lens = record { seven = refl; each = λ i p. omega (arith, e.no_len i) };
      bars = record { seven = refl; each = λ i p. omega (arith, e.no_bar i) };
      keys = record { keys = length-replicate 256 (replicate {A = ℕ} 7 0); each = λ key p. ap (λ (d : DepSet). length d.cols) (e.no_key key) };
      slots = length-replicate 224 null_slot;
      each = λ i p. rw (e.all_null i p) null_whole;
    }

-- ---- the handlers

-- what a message and its contents have: numbers of their width, seven rows
pub record ProposalWhole (p : Proposal) : Type 0 where
  pub ballot : p.message.ballot < 256 ^ 8
  pub deps : length p.deps.cols ≡ 7
  pub batch : BatchFits p.batch

-- the table of a call that is ignored or done is whole
abbrev pub Whole : Handled → Type 0
Whole = Each (λ k. Unit) TableWhole (λ u records. TableWhole u)

-- so is the one of a call that is refused, where it was before
pub outcome_whole : (t : Table) (h : Handled) → TableWhole t → Whole h → TableWhole (outcome_of t h).table
outcome_whole t (refused k) w v = w
outcome_whole t (ignored u) w v = v
outcome_whole t (done u records) w v = v

module _ (t : Table) (m : Message) (w : TableWhole t) (heard : Heard t m) where
  filled_whole : TableWhole (filled t m)
  filled_whole = nulls_whole t m.at w heard.placed.col

  before_whole : SlotWhole (slot_before t m)
  before_whole = there_whole (filled t m) m.at filled_whole (placed_row heard.placed) heard.placed.col

module _ (t : Table) (p : Proposal) (w : TableWhole t) (v : ProposalWhole p) (heard : Heard t p.message) where
  values_seven : (phase : Phase) → length (to_store phase t p).deps.cols ≡ 7
  unfolding raised_by
  values_seven PreAccept =
      let mine = identify_of (filled t p.message).keys p.batch in
      omega (arith, union_rows p.deps mine, v.deps, identify_seven (filled t p.message).keys p.batch (filled_whole t p.message w heard).keys)
  values_seven Accept = v.deps
  values_seven CommitNotice = v.deps

  with_whole : (phase : Phase) (status : Status) → (to_store phase t p).seq ≤ sequence_limit
      → SlotWhole (stored_with (slot_before t p.message) p.message.ballot status (to_store phase t p).seq (to_store phase t p).deps p.batch)
  with_whole phase status h =
      stored_whole (slot_before t p.message) (before_whole t p.message w heard) p.message.ballot status _ _ p.batch v.ballot h (values_seven phase) v.batch

  after_whole : (phase : Phase) → (to_store phase t p).seq ≤ sequence_limit → SlotWhole (slot_after phase t p)
  after_whole PreAccept h = heard_whole _ (with_whole PreAccept PreAccepting h) p.message.peer
  after_whole Accept h = heard_whole _ (with_whole Accept Accepting h) p.message.peer
  after_whole CommitNotice h = with_whole CommitNotice Committed h

pub proposed_whole : (phase : Phase) (t : Table) (p : Proposal) → TableWhole t → ProposalWhole p → Whole (proposed phase t p)
proposed_whole phase t p w v =
    proposed_cases Whole phase t p
    (λ l. tt)
    (λ h b. filled_whole t p.message w h.heard)
    (λ h b s. tt)
    (λ h b s. store_whole (filled t p.message) p.message.at (filled_whole t p.message w h.heard) (slot_after phase t p) (after_whole t p w v h.heard phase s))

pub prepare_whole : (t : Table) (m : Message) → TableWhole t → Whole (exp_prepare t m)
prepare_whole t m w =
    prepare_cases Whole t m
    (λ l. tt)
    (λ h b. filled_whole t m w h)
    (λ h b. put_whole (filled t m) m.at (filled_whole t m w h) (heard_from (slot_before t m) m.peer) (heard_whole (slot_before t m) (before_whole t m w h) m.peer))

pub reply_whole : (t : Table) (m : Message) → TableWhole t → Whole (accept_reply t m)
reply_whole t m w =
    reply_cases Whole t m
    (λ l. tt)
    (λ h e. w)
    (λ h held e. let s = marked_whole (slot_of t m.at) (there_whole t m.at w (placed_row h.placed) h.placed.col) m.peer in
    mark_cases Whole t m.at (slot_marked t m)
    (λ l. put_whole t m.at w (slot_marked t m) s)
    (λ l. put_whole t m.at w (committed (slot_marked t m)) (committed_whole (slot_marked t m) s)))

pub lead_whole : (t : Table) (at : Place) → TableWhole t → Whole (lead_slot t at)
lead_whole t at w =
    lead_cases Whole t at
    (λ l. tt)
    (λ h. put_whole t at w (leading (slot_of t at)) (led_whole (slot_of t at) (there_whole t at w (placed_row h.placed) h.placed.col)))
