-- What is accepted stands there, and has the shape that the format allows.
use mathlib.Core.Path.{◌≡◌, refl, ap, sym, ◌∙◌}
use mathlib.Core.List.{List, [], ◌∷◌, ◌++◌, flat_map}
use mathlib.Core.Bool.{true}
use Prim.Native.Nat.{ℕ, zero, suc, ◌+◌, ◌≤◌}
use native.Mathlib.Omega.{arith}
use borrow.Author.Tests.{le-leb}
use lib.ListN.{length, take, drop, replicate}
use lib.Seq.{sets-eq, take_at}
use Rattle.deps.specs.Batches.{batch_of, present}
use Rattle.deps.proofs.BatchLaws.{batch_of_holds}
use Rattle.base.specs.LogStatus.{is_status}
use Rattle.base.proofs.LogStatusLaws.{status_back}
use Rattle.steps.specs.Calls.{tag_number, tag_of}
use Rattle.steps.specs.declared.event.Tag.{Tag}
use Rattle.steps.specs.declared.event.Tag.TheVariants.{PreAccept, Accept, CommitNotice, AcceptReply, ExpPrepare, Logged, Attempt, Lead}
use Rattle.groups.specs.Numbers.{Bytes}
use Rattle.groups.specs.Cursor.{number_from, number_within, numbers_from}
use Rattle.groups.specs.Numbers.{Cursor}
use Rattle.groups.proofs.CursorLaws.{within_most}
use Rattle.groups.proofs.ReadLaws.{number_sound, within_sound, numbers_sound}
use Rattle.reading.specs.Fields.{place_from, message_from, set_with, set_from}
use Rattle.reading.specs.Batches.{kind_by, kind_from, request_from, requests_from, batch_from}
use Rattle.reading.specs.Events.{start, header_of, proposal_from, by_tag, event_from}
use Rattle.reading.specs.Format.{header_numbers, place_numbers, message_numbers, kind_numbers, request_numbers, batch_numbers, proposal_numbers, numbers_of, Sayable, Shaped}
use Rattle.reading.proofs.LoopLaws.{requests_length}
use Rattle.reading.proofs.StandLaws.{Stand, stand_none, stand_one, stand_then}

-- n numbers are the first n of the set of them
set_back : (n : ℕ) (vs : List ℕ) → n ≤ 7 → length vs ≡ n → take n (set_with vs).cols ≡ vs
set_back n vs h l = ap (take n) (sets-eq vs (replicate 7 0) 0 (omega arith)) ∙ take_at vs (drop (0 + length vs) (replicate 7 0)) n l

-- so many are so many
numbers_length : (many : ℕ) (s : List ℕ) (c : Cursor) → length (numbers_from many s c).values ≡ many
unfolding numbers_from
numbers_length zero s c = refl
numbers_length (suc many) s c = ap suc (numbers_length many s (number_from s c).cursor)

-- a number from 1 to 8 is that of its tag
tag_back : (k : ℕ) → 1 ≤ k → k ≤ 8 → tag_number (tag_of k) ≡ k
unfolding tag_of
tag_back zero l m = absurd (omega arith)
tag_back (suc zero) l m = refl
tag_back (suc (suc zero)) l m = refl
tag_back (suc (suc (suc zero))) l m = refl
tag_back (suc (suc (suc (suc zero)))) l m = refl
tag_back (suc (suc (suc (suc (suc zero))))) l m = refl
tag_back (suc (suc (suc (suc (suc (suc zero)))))) l m = refl
tag_back (suc (suc (suc (suc (suc (suc (suc zero))))))) l m = refl
tag_back (suc (suc (suc (suc (suc (suc (suc (suc zero)))))))) l m = refl
tag_back (suc (suc (suc (suc (suc (suc (suc (suc (suc k))))))))) l m = absurd (omega arith)

-- whatever is read has the shape that the format allows
module _ (n : ℕ) (h : n ≤ 7) (s : List ℕ) where
  set_sayable : (c : Cursor) → (set_from n s c).set ≡ set_with (take n (set_from n s c).set.cols)
  unfolding set_from
  set_sayable c = ap set_with (sym (set_back n (numbers_from n s c).values h (numbers_length n s c)))

  batch_sayable : (c : Cursor) → ((batch_from s c).batch ≡ batch_of (present (batch_from s c).batch)) × ((batch_from s c).batch.count ≤ 4)
  unfolding batch_from
  batch_sayable c =
      let k = number_within 0 4 s c in (
        ap batch_of (sym (batch_of_holds (requests_from k.value s k.cursor).requests)),
        omega (arith, requests_length k.value s k.cursor, within_most 0 4 s c),
      )

  proposal_sayable : (c : Cursor) → Sayable n (proposal_from n s c).proposal
  unfolding proposal_from
  proposal_sayable c =
      let seq = number_from s (message_from s c).cursor in
      let b = batch_sayable (set_from n s seq.cursor).cursor in
      record { deps = set_sayable seq.cursor; batch = b.0; few = b.1 }

  by_tag_shaped : (tag : Tag) (c : Cursor) → Shaped n (by_tag tag n s c).call
  by_tag_shaped PreAccept c = proposal_sayable c
  by_tag_shaped Accept c = proposal_sayable c
  by_tag_shaped CommitNotice c = proposal_sayable c
  by_tag_shaped AcceptReply c = tt
  by_tag_shaped ExpPrepare c = tt
  by_tag_shaped Logged c = tt
  by_tag_shaped Attempt c = tt
  by_tag_shaped Lead c = tt

  pub event_shaped : (c : Cursor) → Shaped n (event_from n s c).call
  unfolding event_from
  event_shaped c = by_tag_shaped (tag_of (number_within 1 8 s c).value) (number_within 1 8 s c).cursor

-- what is read without a refusal stands there
module _ (s : List ℕ) (y : Bytes s) where
  numbers_stand : (many : ℕ) (c : Cursor) → (numbers_from many s c).cursor.refusal ≡ 0 → Stand s c (numbers_from many s c).values (numbers_from many s c).cursor
  numbers_stand many c z = let r = numbers_sound many s c y z in record { reads = r.0; fit = r.2 }

  number_stands : (c : Cursor) → (number_from s c).cursor.refusal ≡ 0 → Stand s c ((number_from s c).value ∷ []) (number_from s c).cursor
  number_stands c z = let r = number_sound s c y z in stand_one r.0 r.1

  within_stands : (least most : ℕ) (c : Cursor) → (number_within least most s c).cursor.refusal ≡ 0
      → Stand s c ((number_within least most s c).value ∷ []) (number_within least most s c).cursor
  within_stands least most c z = let r = within_sound s c least most y z in stand_one r.0 r.1

  place_stands : (c : Cursor) → (place_from s c).cursor.refusal ≡ 0 → Stand s c (place_numbers (place_from s c).at) (place_from s c).cursor
  unfolding place_from numbers_from
  place_stands c = numbers_stand 2 c

  message_stands : (c : Cursor) → (message_from s c).cursor.refusal ≡ 0 → Stand s c (message_numbers (message_from s c).message) (message_from s c).cursor
  unfolding message_from numbers_from
  message_stands c = numbers_stand 4 c

  set_stands : (n : ℕ) → n ≤ 7 → (c : Cursor) → (set_from n s c).cursor.refusal ≡ 0 → Stand s c (take n (set_from n s c).set.cols) (set_from n s c).cursor
  unfolding set_from
  set_stands n h c z = rw (set_back n (numbers_from n s c).values h (numbers_length n s c)) (numbers_stand n c z)

  by_kind_stands : (k : ℕ) → k ≤ 2 → (c : Cursor) → (kind_by k s c).cursor.refusal ≡ 0
      → (l : List ℕ) × (kind_numbers (kind_by k s c).kind ≡ k ∷ l) × Stand s c l (kind_by k s c).cursor
  unfolding numbers_from
  by_kind_stands zero h c z = ([], refl, stand_none z)
  by_kind_stands (suc zero) h c z = ((numbers_from 2 s c).values, refl, numbers_stand 2 c z)
  by_kind_stands (suc (suc zero)) h c z = ((numbers_from 1 s c).values, refl, numbers_stand 1 c z)
  by_kind_stands (suc (suc (suc k))) h c z = absurd (omega arith)

  kind_stands : (c : Cursor) → (kind_from s c).cursor.refusal ≡ 0 → Stand s c (kind_numbers (kind_from s c).kind) (kind_from s c).cursor
  unfolding kind_from
  kind_stands c z =
      let r = by_kind_stands (number_within 0 2 s c).value (within_most 0 2 s c) (number_within 0 2 s c).cursor z in
      rw r.1 (stand_then (within_stands 0 2 c r.2.reads.starts) r.2)

  request_stands : (c : Cursor) → (request_from s c).cursor.refusal ≡ 0 → Stand s c (request_numbers (request_from s c).request) (request_from s c).cursor
  unfolding request_from numbers_from
  request_stands c z =
      let k = kind_stands (numbers_from 2 s c).cursor z in
      stand_then (numbers_stand 2 c k.reads.starts) k

  requests_stand : (many : ℕ) (c : Cursor) → (requests_from many s c).cursor.refusal ≡ 0
      → Stand s c (flat_map request_numbers (requests_from many s c).requests) (requests_from many s c).cursor
  unfolding requests_from flat_map
  requests_stand zero c z = stand_none z
  requests_stand (suc many) c z =
      let r = requests_stand many (request_from s c).cursor z in
      stand_then (request_stands c r.reads.starts) r

  batch_stands : (c : Cursor) → (batch_from s c).cursor.refusal ≡ 0 → Stand s c (batch_numbers (batch_from s c).batch) (batch_from s c).cursor
  unfolding batch_from
  batch_stands c z =
      let r = requests_stand (number_within 0 4 s c).value (number_within 0 4 s c).cursor z in
      rw (batch_of_holds (requests_from (number_within 0 4 s c).value s (number_within 0 4 s c).cursor).requests, requests_length (number_within 0 4 s c).value s (number_within 0 4 s c).cursor)
      (stand_then (within_stands 0 4 c r.reads.starts) r)

  module _ (n : ℕ) (h : n ≤ 7) where
    proposal_stands : (c : Cursor) → (proposal_from n s c).cursor.refusal ≡ 0 → Stand s c (proposal_numbers n (proposal_from n s c).proposal) (proposal_from n s c).cursor
    unfolding proposal_from
    proposal_stands c z =
        let b = batch_stands (set_from n s (number_from s (message_from s c).cursor).cursor).cursor z in
        let d = set_stands n h (number_from s (message_from s c).cursor).cursor b.reads.starts in
        let q = number_stands (message_from s c).cursor d.reads.starts in
        let m = message_stands c q.reads.starts in
        stand_then m (stand_then q (stand_then d b))

    by_tag_stands : (tag : Tag) (c : Cursor) → (by_tag tag n s c).cursor.refusal ≡ 0
        → (l : List ℕ) × (numbers_of n (by_tag tag n s c).call ≡ tag_number tag ∷ l) × Stand s c l (by_tag tag n s c).cursor
    unfolding numbers_of
    by_tag_stands PreAccept c z = (proposal_numbers n (proposal_from n s c).proposal, refl, proposal_stands c z)
    by_tag_stands Accept c z = (proposal_numbers n (proposal_from n s c).proposal, refl, proposal_stands c z)
    by_tag_stands CommitNotice c z = (proposal_numbers n (proposal_from n s c).proposal, refl, proposal_stands c z)
    by_tag_stands AcceptReply c z = (message_numbers (message_from s c).message, refl, message_stands c z)
    by_tag_stands ExpPrepare c z = (message_numbers (message_from s c).message, refl, message_stands c z)
    by_tag_stands Logged c z =
        let v = (number_within 1 3 s (place_from s c).cursor).value in
        let w = within_sound s (place_from s c).cursor 1 3 y z in
        let e : is_status v ≡ true = rw (le-leb 1 v w.2, le-leb v 3 w.3) in
        (place_numbers (place_from s c).at ++ (v ∷ []), rw (status_back v e), stand_then (place_stands c w.0.starts) (within_stands 1 3 (place_from s c).cursor z))
    by_tag_stands Attempt c z = (place_numbers (place_from s c).at, refl, place_stands c z)
    by_tag_stands Lead c z = (place_numbers (place_from s c).at, refl, place_stands c z)

    pub event_stands : (c : Cursor) → (event_from n s c).cursor.refusal ≡ 0 → Stand s c (numbers_of n (event_from n s c).call) (event_from n s c).cursor
    unfolding event_from
    event_stands c z =
        let k = number_within 1 8 s c in
        let r = by_tag_stands (tag_of k.value) k.cursor z in
        let w = within_sound s c 1 8 y r.2.reads.starts in
        rw (r.1, tag_back k.value w.2 w.3) (stand_then (within_stands 1 8 c r.2.reads.starts) r.2)

  pub header_stands : (header_of s).cursor.refusal ≡ 0 → Stand s start (header_numbers (header_of s).config) (header_of s).cursor
  unfolding header_of numbers_from
  header_stands z = numbers_stand 4 start z
