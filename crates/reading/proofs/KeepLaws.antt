-- What each number keeps of a cursor, a header and an event keep.
use mathlib.Core.Path.{◌≡◌, refl}
use mathlib.Core.List.{List}
use mathlib.Core.Bool.{Bool, true, false, cond}
use Prim.Native.Nat.{ℕ, zero, suc}
use lib.Dec.{eqb}
use Rattle.deps.specs.declared.batches.Kind.TheVariants.{Other}
use Rattle.steps.specs.Calls.{tag_of}
use Rattle.steps.specs.declared.event.Tag.{Tag}
use Rattle.steps.specs.declared.event.Tag.TheVariants.{PreAccept, Accept, CommitNotice, AcceptReply, ExpPrepare, Logged, Attempt, Lead}
use Rattle.groups.specs.Cursor.{number_from, number_within, numbers_from}
use Rattle.groups.specs.Numbers.{Cursor}
use Rattle.groups.proofs.ReadLaws.{stays_stopped, within_stays_stopped}
use Rattle.reading.specs.Fields.{place_from, message_from, set_from}
use Rattle.reading.specs.Batches.{get_in, put_in, kind_by, kind_from, request_from, requests_from, batch_from}
use Rattle.reading.specs.Events.{start, header_of, proposal_from, by_tag, event_from}

module _ (s : List ℕ) (P : Cursor → Type 0) (one : (c : Cursor) → P c → P (number_from s c).cursor) (within : (least most : ℕ) (c : Cursor) → P c → P (number_within least most s c).cursor) where
  numbers_keep : (many : ℕ) (c : Cursor) → P c → P (numbers_from many s c).cursor
  unfolding numbers_from
  numbers_keep zero c p = p
  numbers_keep (suc many) c p = numbers_keep many (number_from s c).cursor (one c p)

  by_kind_keeps : (which : ℕ) (d : Cursor) → P d → P (kind_by which s d).cursor
  by_kind_keeps which d p = go (eqb which 0) (eqb which 2)
    where
      go : (a b : Bool) → P (cond a (record { kind = Other; cursor = d }) (cond b (get_in (numbers_from 1 s d)) (put_in (numbers_from 2 s d)))).cursor
      go true b = p
      go false true = numbers_keep 1 d p
      go false false = numbers_keep 2 d p

  kind_keeps : (c : Cursor) → P c → P (kind_from s c).cursor
  unfolding kind_from
  kind_keeps c p = by_kind_keeps (number_within 0 2 s c).value (number_within 0 2 s c).cursor (within 0 2 c p)

  requests_keep : (many : ℕ) (c : Cursor) → P c → P (requests_from many s c).cursor
  unfolding requests_from request_from
  requests_keep zero c p = p
  requests_keep (suc many) c p = requests_keep many (request_from s c).cursor (kind_keeps (numbers_from 2 s c).cursor (numbers_keep 2 c p))

  batch_keeps : (c : Cursor) → P c → P (batch_from s c).cursor
  unfolding batch_from
  batch_keeps c p = requests_keep (number_within 0 4 s c).value (number_within 0 4 s c).cursor (within 0 4 c p)

  from_seq_keeps : (n : ℕ) (c : Cursor) → P c → P (batch_from s (set_from n s c).cursor).cursor
  unfolding set_from
  from_seq_keeps n c p = batch_keeps (numbers_from n s c).cursor (numbers_keep n c p)

  from_message_keeps : (n : ℕ) (c : Cursor) → P c → P (batch_from s (set_from n s (number_from s c).cursor).cursor).cursor
  from_message_keeps n c p = from_seq_keeps n (number_from s c).cursor (one c p)

  proposal_keeps : (n : ℕ) (c : Cursor) → P c → P (proposal_from n s c).cursor
  unfolding proposal_from message_from
  proposal_keeps n c p = from_message_keeps n (numbers_from 4 s c).cursor (numbers_keep 4 c p)

  by_tag_keeps : (tag : Tag) (n : ℕ) (c : Cursor) → P c → P (by_tag tag n s c).cursor
  unfolding message_from place_from
  by_tag_keeps PreAccept n c p = proposal_keeps n c p
  by_tag_keeps Accept n c p = proposal_keeps n c p
  by_tag_keeps CommitNotice n c p = proposal_keeps n c p
  by_tag_keeps AcceptReply n c p = numbers_keep 4 c p
  by_tag_keeps ExpPrepare n c p = numbers_keep 4 c p
  by_tag_keeps Logged n c p = within 1 3 (place_from s c).cursor (numbers_keep 2 c p)
  by_tag_keeps Attempt n c p = numbers_keep 2 c p
  by_tag_keeps Lead n c p = numbers_keep 2 c p

  pub event_keeps : (n : ℕ) (c : Cursor) → P c → P (event_from n s c).cursor
  unfolding event_from
  event_keeps n c p = by_tag_keeps (tag_of (number_within 1 8 s c).value) n (number_within 1 8 s c).cursor (within 1 8 c p)

  pub header_keeps : P start → P (header_of s).cursor
  unfolding header_of
  header_keeps p = numbers_keep 4 start p

-- after a refusal nothing is read
module _ (s : List ℕ) (c : Cursor) (z : c.refusal ≡ 0 → ⊥) where
  abbrev Here : Cursor → Type 0
  Here d = d ≡ c

  one : (d : Cursor) → Here d → Here (number_from s d).cursor
  one d e = rw e (stays_stopped s c z)

  within : (least most : ℕ) (d : Cursor) → Here d → Here (number_within least most s d).cursor
  within least most d e = rw e (within_stays_stopped s c least most z)

  pub by_kind_stopped : (which : ℕ) → (kind_by which s c).cursor ≡ c
  by_kind_stopped which = by_kind_keeps s Here one within which c refl

  pub kind_stopped : (kind_from s c).cursor ≡ c
  kind_stopped = kind_keeps s Here one within c refl

  pub requests_stopped : (many : ℕ) → (requests_from many s c).cursor ≡ c
  requests_stopped many = requests_keep s Here one within many c refl

  pub batch_stopped : (batch_from s c).cursor ≡ c
  batch_stopped = batch_keeps s Here one within c refl

  pub from_seq_stopped : (n : ℕ) → (batch_from s (set_from n s c).cursor).cursor ≡ c
  from_seq_stopped n = from_seq_keeps s Here one within n c refl

  pub from_message_stopped : (n : ℕ) → (batch_from s (set_from n s (number_from s c).cursor).cursor).cursor ≡ c
  from_message_stopped n = from_message_keeps s Here one within n c refl

  pub by_tag_stopped : (tag : Tag) (n : ℕ) → (by_tag tag n s c).cursor ≡ c
  by_tag_stopped tag n = by_tag_keeps s Here one within tag n c refl

pub ruleset stopped = (by_kind_stopped, kind_stopped, requests_stopped, batch_stopped, from_seq_stopped, from_message_stopped, by_tag_stopped)
