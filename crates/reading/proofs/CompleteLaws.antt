-- What stands there is accepted, and read as it was meant.
use mathlib.Core.Path.{◌≡◌, refl, ap, sym, ◌∙◌}
use mathlib.Core.List.{List, [], ◌∷◌, ◌++◌, append-nil, flat_map}
use Prim.Native.Nat.{ℕ, ◌≤◌}
use native.Mathlib.Omega.{arith}
use borrow.Author.Tests.{leb-true}
use lib.ListN.{length, take, drop, replicate}
use lib.Seq.{length-sets, length-take-le}
use lib.Dec.{leb}
use Rattle.base.specs.declared.config.Config.{Config}
use Rattle.base.proofs.Loops.{both_true}
use Rattle.deps.specs.Batches.{batch_of, present}
use Rattle.deps.specs.declared.sets.DepSet.{DepSet}
use Rattle.deps.specs.declared.batches.Kind.{Kind}
use Rattle.deps.specs.declared.batches.Kind.TheVariants.{Other, Put, Get}
use Rattle.deps.specs.declared.batches.Request.{Request}
use Rattle.deps.specs.declared.batches.Batch.{Batch}
use Rattle.table.specs.declared.place.Place.{Place}
use Rattle.outcomes.specs.declared.message.Message.{Message}
use Rattle.outcomes.specs.declared.message.Proposal.{Proposal}
use Rattle.proposing.specs.declared.proposals.Phase.{Phase}
use Rattle.proposing.specs.declared.proposals.Phase.TheVariants as Phases
use Rattle.base.specs.LogStatus.{status_number}
use Rattle.base.proofs.LogStatusLaws.{number_back}
use Rattle.steps.specs.Calls.{Call, propose, reply, prepare, log, try, lead_at, tag_of}
use Rattle.steps.specs.declared.event.Tag.{Tag}
use Rattle.groups.specs.Numbers.{bytes_of}
use Rattle.groups.specs.Cursor.{number_from, number_within, numbers_from}
use Rattle.groups.specs.Reads.{Reads}
use Rattle.groups.specs.Numbers.{Cursor}
use Rattle.groups.specs.Numbers.{Number}
use Rattle.groups.proofs.ReadLaws.{number_complete, within_complete, numbers_complete}
use Rattle.reading.specs.Fields.{place_from, message_from, set_with, set_from}
use Rattle.reading.specs.Batches.{kind_from, request_from, requests_from, batch_in, batch_from}
use Rattle.reading.specs.Events.{start, header_of, proposal_in, from_set, from_seq, from_message, proposal_from, found, proposes, tag_for, by_tag, event_from}
use Rattle.reading.specs.Fields.{MessageRead}
use Rattle.reading.specs.Format.{header_numbers, place_numbers, message_numbers, kind_numbers, request_numbers, batch_numbers, proposal_numbers, numbers_of, Sayable, Shaped}
use Rattle.reading.proofs.StandLaws.{Stand, stand_nil, after_is, stand_parts}

module _ {s : List ℕ} {c : Cursor} where
  number_found : {v : ℕ} {d : Cursor} → Stand s c (v ∷ []) d → number_from s c ≡ record { value = v; cursor = d }
  unfolding flat_map
  number_found {v} {d} h =
      let r : Reads s c (bytes_of v) d = rw append-nil at h.reads in
      (number_complete s c v (drop d.at s) r.starts h.fit.0 r.holds).0 ∙ ap (λ (x : Cursor). record { value = v; cursor = x }) (after_is r)

  within_found : {v : ℕ} {d : Cursor} (least most : ℕ) → least ≤ v → v ≤ most → Stand s c (v ∷ []) d → number_within least most s c ≡ record { value = v; cursor = d }
  unfolding flat_map
  within_found {v} {d} least most l m h =
      let r : Reads s c (bytes_of v) d = rw append-nil at h.reads in
      (within_complete s c least most v (drop d.at s) r.starts h.fit.0 l m r.holds).0 ∙ ap (λ (x : Cursor). record { value = v; cursor = x }) (after_is r)

  numbers_found : {vs : List ℕ} {d : Cursor} → Stand s c vs d → numbers_from (length vs) s c ≡ record { values = vs; cursor = d }
  numbers_found {vs} {d} h =
      (numbers_complete vs s c (drop d.at s) h.reads.starts h.fit h.reads.holds).0
      ∙ ap (λ (x : Cursor). record { values = vs; cursor = x }) (after_is h.reads)

  place_found : (at : Place) {d : Cursor} → Stand s c (place_numbers at) d → place_from s c ≡ record { at = at; cursor = d }
  unfolding place_from
  place_found at h = rw (numbers_found h)

  message_found : (m : Message) {d : Cursor} → Stand s c (message_numbers m) d → message_from s c ≡ record { message = m; cursor = d }
  unfolding message_from
  message_found m h = rw (numbers_found h)

  set_found : (n : ℕ) (vs : List ℕ) {d : Cursor} → length vs ≡ n → Stand s c vs d → set_from n s c ≡ record { set = set_with vs; cursor = d }
  unfolding set_from
  set_found n vs l h = rw (← l, numbers_found h)

kind_found : {s : List ℕ} {c : Cursor} (k : Kind) {d : Cursor} → Stand s c (kind_numbers k) d → kind_from s c ≡ record { kind = k; cursor = d }
unfolding kind_from
kind_found Other h = rw (within_found 0 2 (omega arith) (omega arith) h)
kind_found (Put key value) h =
    let p = stand_parts (1 ∷ []) (key ∷ value ∷ []) h in
    rw (within_found 0 2 (omega arith) (omega arith) p.1, numbers_found p.2)
kind_found (Get key) h =
    let p = stand_parts (2 ∷ []) (key ∷ []) h in
    rw (within_found 0 2 (omega arith) (omega arith) p.1, numbers_found p.2)

request_found : {s : List ℕ} {c : Cursor} (q : Request) {d : Cursor} → Stand s c (request_numbers q) d → request_from s c ≡ record { request = q; cursor = d }
unfolding request_from
request_found q h =
    let p = stand_parts (q.client ∷ q.id ∷ []) (kind_numbers q.kind) h in
    rw (numbers_found p.1, kind_found q.kind p.2)

requests_found : {s : List ℕ} {c : Cursor} (l : List Request) {d : Cursor} → Stand s c (flat_map request_numbers l) d → requests_from (length l) s c ≡ record { requests = l; cursor = d }
unfolding requests_from flat_map
requests_found {s} {c} [] {d} h = ap (λ (x : Cursor). record { requests = []; cursor = x }) (stand_nil h)
requests_found {s = s} {c = c} (q ∷ l) {d = d} h =
    let p = stand_parts (request_numbers q) (flat_map request_numbers l) h in
    rw (request_found q p.1, requests_found {c = p.0} l p.2)

batch_found : {s : List ℕ} {c d : Cursor} (b : Batch) → b ≡ batch_of (present b) → b.count ≤ 4 → Stand s c (batch_numbers b) d → batch_from s c ≡ record { batch = b; cursor = d }
unfolding batch_from
batch_found {s} {c} {d} b e m h =
    let p = stand_parts (b.count ∷ []) (flat_map request_numbers (present b)) h in
    let k : b.count ≡ length (present b) = ap (λ (x : Batch). x.count) e in
    ap (λ (x : Number). batch_in (requests_from x.value s x.cursor)) (within_found 0 4 (omega arith) m p.1)
    ∙ ap (λ (i : ℕ). batch_in (requests_from i s p.0)) k
    ∙ ap batch_in (requests_found (present b) p.2)
    ∙ ap (λ (x : Batch). record { batch = x; cursor = d }) (sym e)

module _ (n : ℕ) (h : n ≤ 7) where
  proposal_found : {s : List ℕ} {c d : Cursor} (p : Proposal) → Sayable n p → Stand s c (proposal_numbers n p) d → proposal_from n s c ≡ record { proposal = p; cursor = d }
  unfolding proposal_from
  proposal_found {s} {c} {d} p w r =
      let deps = take n p.deps.cols in
      let l : length p.deps.cols ≡ 7 = ap (λ (x : DepSet). length x.cols) w.deps ∙ length-sets (replicate 7 0) 0 deps in
      let a = stand_parts (message_numbers p.message) (p.seq ∷ deps ++ batch_numbers p.batch) r in
      let b = stand_parts (p.seq ∷ []) (deps ++ batch_numbers p.batch) a.2 in
      let f = stand_parts deps (batch_numbers p.batch) b.2 in
      let m : MessageRead = record { message = p.message; cursor = a.0 } in
      let q : Number = record { value = p.seq; cursor = b.0 } in
      ap (from_message n s) (message_found p.message a.1)
      ∙ ap (from_seq n s m) (number_found b.1)
      ∙ ap (from_set s m q) (set_found n deps (length-take-le n p.deps.cols (omega arith)) f.1)
      ∙ ap (λ (x : DepSet). from_set s m q (record { set = x; cursor = f.0 })) (sym w.deps)
      ∙ ap (proposal_in m q (record { set = p.deps; cursor = f.0 })) (batch_found p.batch w.batch w.few f.2)

  module _ {s : List ℕ} {c d : Cursor} where
    -- a tag, and then its fields
    tag_found : (k : ℕ) (rest : List ℕ) → 1 ≤ k → k ≤ 8 → Stand s c (k ∷ rest) d → (x : Cursor) × (event_from n s c ≡ by_tag (tag_of k) n s x) × (Stand s x rest d)
    unfolding event_from
    tag_found k rest l m r =
        let p = stand_parts (k ∷ []) rest r in
        (p.0, rw (within_found 1 8 l m p.1), p.2)

    phase_found : (k : ℕ) (phase : Phase) (p : Proposal) → 1 ≤ k → k ≤ 8 → tag_of k ≡ tag_for phase → Sayable n p → Stand s c (k ∷ proposal_numbers n p) d
        → event_from n s c ≡ found (propose phase p) d
    phase_found k phase p l m e w r =
        let q = tag_found k (proposal_numbers n p) l m r in
        q.1 ∙ ap (λ (tag : Tag). by_tag tag n s q.0) e ∙ by_phase phase q.0 ∙ ap (proposes phase) (proposal_found p w q.2)
      where
        by_phase : (phase : Phase) (x : Cursor) → by_tag (tag_for phase) n s x ≡ proposes phase (proposal_from n s x)
        by_phase Phases.PreAccept x = refl
        by_phase Phases.Accept x = refl
        by_phase Phases.CommitNotice x = refl

    pub event_found : (call : Call) → Shaped n call → Stand s c (numbers_of n call) d → event_from n s c ≡ found call d
    unfolding numbers_of tag_of
    event_found (propose Phases.PreAccept p) w r = phase_found 1 Phases.PreAccept p (omega arith) (omega arith) refl w r
    event_found (propose Phases.Accept p) w r = phase_found 2 Phases.Accept p (omega arith) (omega arith) refl w r
    event_found (propose Phases.CommitNotice p) w r = phase_found 3 Phases.CommitNotice p (omega arith) (omega arith) refl w r
    event_found (reply m) w r = let q = tag_found 4 (message_numbers m) (omega arith) (omega arith) r in q.1 ∙ rw (message_found m q.2)
    event_found (prepare m) w r = let q = tag_found 5 (message_numbers m) (omega arith) (omega arith) r in q.1 ∙ rw (message_found m q.2)
    event_found (log status at) w r =
        let q = tag_found 6 (place_numbers at ++ (status_number status ∷ [])) (omega arith) (omega arith) r in
        let p = stand_parts (place_numbers at) (status_number status ∷ []) q.2 in
        let e = number_back status in
        let t = both_true (leb 1 (status_number status)) (leb (status_number status) 3) e.0 in
        q.1 ∙ rw (place_found at p.1, within_found 1 3 (leb-true 1 (status_number status) t.0) (leb-true (status_number status) 3 t.1) p.2, e.1)
    event_found (try at) w r = let q = tag_found 7 (place_numbers at) (omega arith) (omega arith) r in q.1 ∙ rw (place_found at q.2)
    event_found (lead_at at) w r = let q = tag_found 8 (place_numbers at) (omega arith) (omega arith) r in q.1 ∙ rw (place_found at q.2)

pub header_found : {s : List ℕ} (config : Config) {d : Cursor} → Stand s start (header_numbers config) d → header_of s ≡ record { config = config; cursor = d }
unfolding header_of
header_found config h = rw (numbers_found h)
