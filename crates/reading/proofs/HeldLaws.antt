-- A number that a field does not hold is refused all the same, so an event does what the numbers of the trace say.
use mathlib.Core.Path.{◌≡◌, refl, ap, ◌∙◌}
use mathlib.Core.List.{List, [], ◌∷◌, ◌++◌, map}
use mathlib.Core.Bool.{Bool, true}
use Prim.Native.Nat.{ℕ, zero, suc, ◌-◌, ◌<◌}
use native.Mathlib.Decide.{dec_lt}
use native.Mathlib.Omega.{arith}
use borrow.Author.Tests.{lt-leb, leb-true}
use lib.Dec.{leb}
use lib.ListN.{length, get_or, replicate, length-map, get_or-map, get_or-append}
use lib.Seq.{ext_get_or, length-sets}
use Rattle.base.specs.Below.{all_below}
use Rattle.base.proofs.Loops.{both_true, all_at}
use Rattle.deps.specs.Sets.{dep_of, set_of, number, dep_fits, row_fits, set_fits}
use Rattle.deps.specs.Batches.{no_request, batch_of, request, kind_fits, request_fits, batch_fits}
use Rattle.deps.specs.declared.sets.DepSet.{DepSet}
use Rattle.deps.specs.declared.batches.Kind.{Kind}
use Rattle.deps.specs.declared.batches.Kind.TheVariants.{Other, Put, Get}
use Rattle.deps.specs.declared.batches.Request.{Request}
use Rattle.deps.specs.declared.batches.Batch.{Batch}
use Rattle.deps.proofs.SetLaws.{dep_fits_number, fits_each}
use Rattle.table.specs.declared.table.Table.{Table}
use Rattle.outcomes.specs.Outcome.{Handled, unless_refused, outcome_of}
use Rattle.outcomes.specs.Refusal.{proposal_refusal}
use Rattle.outcomes.specs.declared.message.Proposal.{Proposal}
use Rattle.outcomes.proofs.RefusalLaws.{Taken, proposal_taken}
use Rattle.proposing.specs.Proposals.{proposed, on_ballot}
use Rattle.proposing.specs.declared.proposals.Phase.{Phase}
use Rattle.proposing.specs.declared.proposals.Phase.TheVariants as Phases
use Rattle.table.specs.Table.{nulls_to}
use Rattle.steps.specs.Calls.{Call, propose, reply, prepare, log, try, lead_at, call_of, tag_of}
use Rattle.steps.specs.Step.{step_of, step_order, handled}
use Rattle.steps.specs.declared.event.Tag.{Tag}
use Rattle.steps.specs.declared.event.Tag.TheVariants.{PreAccept, Accept, CommitNotice, AcceptReply, ExpPrepare, Logged, Attempt, Lead}
use Rattle.groups.specs.Cursor.{number_within}
use Rattle.groups.specs.Numbers.{Cursor}
use Rattle.reading.specs.Fields.{set_from}
use Rattle.reading.specs.Batches.{requests_from, batch_from}
use Rattle.reading.specs.Held.{held_dep, held_set, held_key, held_kind, held_request, held_batch, held_proposal, held}
use Rattle.reading.specs.Events.{proposal_from, by_tag, event_from, event_of}

-- ---- the tests say the same of what is held

all_same : (p q : ℕ → Bool) (n : ℕ) → ((i : ℕ) → p i ≡ q i) → all_below n p ≡ all_below n q
unfolding all_below
all_same p q zero h = refl
all_same p q (suc n) h = rw (h n, all_same p q n h)

dep_held : (n row k : ℕ) → dep_fits n row (dep_of (held_dep k)) ≡ dep_fits n row (dep_of k)
dep_held n row k = elim (dec_lt k 256) [
  | yes l ↦ let e : held_dep k ≡ k = omega arith in rw e
  | no m ↦
      let e : held_dep k ≡ 255 = omega arith in
      rw (e, dep_fits_number n row k (λ z. omega arith), lt-leb k 32 (omega arith))
]

number_held : (d : DepSet) (row : ℕ) → number (held_set d) row ≡ held_dep (number d row)
number_held d row = get_or-map held_dep d.cols row 0

pub set_held : (n : ℕ) (d : DepSet) → set_fits n (held_set d) ≡ set_fits n d
unfolding set_fits
set_held n d = all_same (row_fits n (held_set d)) (row_fits n d) 7 (λ row. rw (number_held d row) (dep_held n row (number d row)))

key_held : (k : ℕ) → leb (held_key k) 255 ≡ leb k 255
key_held k = elim (dec_lt k 256) [
  | yes l ↦ let e : held_key k ≡ k = omega arith in rw e
  | no m ↦ rw (lt-leb (held_key k) 255 (omega arith), lt-leb k 255 (omega arith))
]

kind_held : (k : Kind) → kind_fits (held_kind k) ≡ kind_fits k
kind_held Other = refl
kind_held (Put key value) = key_held key
kind_held (Get key) = key_held key

pub batch_held : (b : Batch) → batch_fits (held_batch b) ≡ batch_fits b
unfolding batch_fits
batch_held b =
    let e : all_below b.count (request_fits (held_batch b)) ≡ all_below b.count (request_fits b)
    = all_same (request_fits (held_batch b)) (request_fits b) b.count (λ i. rw (get_or-map held_request b.reqs i no_request) (kind_held (request b i).kind)) in
    rw e

pub refusal_held : (t : Table) (p : Proposal) → proposal_refusal t (held_proposal p) ≡ proposal_refusal t p
unfolding proposal_refusal
refusal_held t p = rw (set_held t.config.n p.deps, batch_held p.batch)

-- ---- what fits is held as it is

set_same : (n : ℕ) (d : DepSet) → length d.cols ≡ 7 → set_fits n d ≡ true → held_set d ≡ d
set_same n d l h = ap set_of (ext_get_or 0 (held_set d).cols d.cols (length-map d.cols held_dep) (λ row m. number_held d row ∙ go row (omega (arith, length-map d.cols held_dep)) (number d row) refl))
  where
    go : (row : ℕ) → row < 7 → (k : ℕ) → number d row ≡ k → held_dep k ≡ k
    go row m zero e = refl
    go row m (suc col) e = omega (arith, (fits_each n d h row col m (ap dep_of e)).1)

kind_same : (k : Kind) → kind_fits k ≡ true → held_kind k ≡ k
kind_same Other h = refl
kind_same (Put key value) h = let e : held_key key ≡ key = omega (arith, leb-true key 255 h) in rw e
kind_same (Get key) h = let e : held_key key ≡ key = omega (arith, leb-true key 255 h) in rw e

-- requests with nothing after them that counts
requests_same : (l : List Request) (many : ℕ) → ((i : ℕ) → i < length l → kind_fits (get_or l i no_request).kind ≡ true)
    → map held_request (l ++ replicate many no_request) ≡ l ++ replicate many no_request
requests_same [] zero h = refl
requests_same [] (suc many) h = ap (λ (m : List Request). no_request ∷ m) (requests_same [] many h)
requests_same (q ∷ l) many h = rw (kind_same q.kind (h 0 (omega arith)), requests_same l many (λ i m. h (suc i) (omega arith)))

batch_same : (l : List Request) → batch_fits (batch_of l) ≡ true → held_batch (batch_of l) ≡ batch_of l
unfolding batch_fits
batch_same l h =
    let a = (both_true (leb (length l) 4) (all_below (length l) (request_fits (batch_of l))) h).1 in
    rw (requests_same l (4 - length l) (λ i m. rw (← get_or-append l (replicate (4 - length l) no_request) no_request i m) (all_at (request_fits (batch_of l)) (length l) a i m)))

-- ---- so what an event does is the same

-- nothing past its requests
abbrev pub Listed : Batch → Type 0
Listed b = (l : List Request) × (b ≡ batch_of l)

pub record WholeProposal (p : Proposal) : Type 0 where
  pub rows : length p.deps.cols ≡ 7
  pub batch : Listed p.batch

abbrev pub Whole : Call → Type 0
Whole (propose phase p) = WholeProposal p
Whole (reply m) = Unit
Whole (prepare m) = Unit
Whole (log status at) = Unit
Whole (try at) = Unit
Whole (lead_at at) = Unit

proposal_same : (t : Table) (p : Proposal) → WholeProposal p → Taken t p → held_proposal p ≡ p
proposal_same t p w h =
    let e : held_set p.deps ≡ p.deps = set_same t.config.n p.deps w.rows h.deps in
    let f : held_batch p.batch ≡ p.batch = rw w.batch.1 (batch_same w.batch.0 (rw (← w.batch.1) h.batch)) in
    rw (e, f)

proposed_same : (phase : Phase) (t : Table) (p : Proposal) → WholeProposal p → proposed phase t (held_proposal p) ≡ proposed phase t p
unfolding proposed
proposed_same phase t p w = rw (refusal_held t p) (go (proposal_refusal t p) refl)
  where
    go : (k : ℕ) → proposal_refusal t p ≡ k
        → unless_refused k (on_ballot phase (nulls_to t p.message.at) (held_proposal p)) ≡ unless_refused k (on_ballot phase (nulls_to t p.message.at) p)
    go zero e = ap (on_ballot phase (nulls_to t p.message.at)) (proposal_same t p w (proposal_taken t p e))
    go (suc k) e = refl

pub held_same : (t : Table) (call : Call) (entries : ℕ) → Whole call → step_of t (held call) entries ≡ step_of t call entries
held_same t (propose phase p) entries w = ap (λ (h : Handled). handled (outcome_of t h)) (proposed_same phase t p w)
held_same t (reply m) entries w = refl
held_same t (prepare m) entries w = refl
held_same t (log status at) entries w = refl
held_same t (try at) entries w = refl
held_same t (lead_at at) entries w = refl

pub held_order : (t : Table) (call : Call) (list : List ℕ) → step_order t (held call) list ≡ step_order t call list
held_order t (propose phase p) list = refl
held_order t (reply m) list = refl
held_order t (prepare m) list = refl
held_order t (log status at) list = refl
held_order t (try at) list = refl
held_order t (lead_at at) list = refl

-- ---- every event that is read

module _ (n : ℕ) (s : List ℕ) where
  batch_listed : (c : Cursor) → Listed (batch_from s c).batch
  unfolding batch_from
  batch_listed c = ((requests_from (number_within 0 4 s c).value s (number_within 0 4 s c).cursor).requests, refl)

  proposal_whole : (c : Cursor) → WholeProposal (proposal_from n s c).proposal
  unfolding proposal_from set_from
  proposal_whole c = record { rows = simp length-sets; batch = batch_listed _ }

  tag_whole : (tag : Tag) (c : Cursor) → Whole (by_tag tag n s c).call
  tag_whole PreAccept c = proposal_whole c
  tag_whole Accept c = proposal_whole c
  tag_whole CommitNotice c = proposal_whole c
  tag_whole AcceptReply c = tt
  tag_whole ExpPrepare c = tt
  tag_whole Logged c = tt
  tag_whole Attempt c = tt
  tag_whole Lead c = tt

  module _ (c : Cursor) where
    pub read_whole : Whole (event_from n s c).call
    unfolding event_from
    read_whole = tag_whole (tag_of (number_within 1 8 s c).value) (number_within 1 8 s c).cursor

    -- what an event does with its numbers as they are held is what it does with those of the trace
    pub read_held : (t : Table) (entries : ℕ) → step_of t (held (event_from n s c).call) entries ≡ step_of t (event_from n s c).call entries
    read_held t entries = held_same t (event_from n s c).call entries read_whole

    pub read_held_order : (t : Table) (list : List ℕ) → step_order t (held (event_from n s c).call) list ≡ step_order t (event_from n s c).call list
    read_held_order t list = held_order t (event_from n s c).call list

-- the values of an event stand for the call that they are of
pub call_back : (k : Call) → call_of (event_of k) ≡ k
call_back (propose Phases.PreAccept p) = refl
call_back (propose Phases.Accept p) = refl
call_back (propose Phases.CommitNotice p) = refl
call_back (reply m) = refl
call_back (prepare m) = refl
call_back (log status at) = refl
call_back (try at) = refl
call_back (lead_at at) = refl
