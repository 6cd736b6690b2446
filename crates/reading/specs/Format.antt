-- The format of a trace: the numbers of the header and of each event, in their order, and their bytes.
use Rattle.std.specs.Prelude.{◌≡◌, ℕ, ◌≤◌, take}
use mathlib.Core.List.{List, [], ◌∷◌, ◌++◌, flat_map}
use Rattle.base.specs.declared.config.Config.{Config}
use Rattle.deps.specs.Batches.{batch_of, present}
use Rattle.deps.specs.declared.batches.Kind.{Kind}
use Rattle.deps.specs.declared.batches.Kind.TheVariants.{Other, Put, Get}
use Rattle.deps.specs.declared.batches.Request.{Request}
use Rattle.deps.specs.declared.batches.Batch.{Batch}
use Rattle.table.specs.declared.place.Place.{Place}
use Rattle.outcomes.specs.declared.message.Message.{Message}
use Rattle.outcomes.specs.declared.message.Proposal.{Proposal}
use Rattle.proposing.specs.declared.proposals.Phase.TheVariants.{PreAccept, Accept, CommitNotice}
use Rattle.base.specs.LogStatus.{status_number}
use Rattle.steps.specs.Calls.{Call, propose, reply, prepare, log, try, lead_at}
use Rattle.groups.specs.Numbers.{bytes_of}
use Rattle.groups.specs.Reads.{Fit}
use Rattle.reading.specs.Fields.{set_with}

-- N, own number, simple, super
abbrev pub header_numbers : Config → List ℕ
header_numbers config = config.n ∷ config.own ∷ config.simple ∷ config.sup ∷ []

-- row, column
abbrev pub place_numbers : Place → List ℕ
place_numbers at = at.row ∷ at.col ∷ []

-- peer, row, column, ballot
abbrev pub message_numbers : Message → List ℕ
message_numbers m = m.peer ∷ m.at.row ∷ m.at.col ∷ m.ballot ∷ []

-- kind 0 other, 1 put, 2 get; key for 1 and 2; value for 1
abbrev pub kind_numbers : Kind → List ℕ
kind_numbers Other = 0 ∷ []
kind_numbers (Put key value) = 1 ∷ key ∷ value ∷ []
kind_numbers (Get key) = 2 ∷ key ∷ []

-- client, id, kind
abbrev pub request_numbers : Request → List ℕ
request_numbers q = q.client ∷ q.id ∷ kind_numbers q.kind

-- batch count, and per request
abbrev pub batch_numbers : Batch → List ℕ
batch_numbers b = b.count ∷ flat_map request_numbers (present b)

-- peer, row, column, ballot, sequence, n dependencies as 0 or column + 1, batch
abbrev pub proposal_numbers : ℕ → Proposal → List ℕ
proposal_numbers n p = message_numbers p.message ++ (p.seq ∷ take n p.deps.cols ++ batch_numbers p.batch)

-- an event of a trace of population n: its tag and its fields
unfoldable pub numbers_of : ℕ → Call → List ℕ
numbers_of n (propose PreAccept p) = 1 ∷ proposal_numbers n p
numbers_of n (propose Accept p) = 2 ∷ proposal_numbers n p
numbers_of n (propose CommitNotice p) = 3 ∷ proposal_numbers n p
numbers_of n (reply m) = 4 ∷ message_numbers m
numbers_of n (prepare m) = 5 ∷ message_numbers m
numbers_of n (log status at) = 6 ∷ place_numbers at ++ (status_number status ∷ [])
numbers_of n (try at) = 7 ∷ place_numbers at
numbers_of n (lead_at at) = 8 ∷ place_numbers at

-- one number after the other
abbrev pub header_bytes : Config → List ℕ
header_bytes config = flat_map bytes_of (header_numbers config)

abbrev pub event_bytes : ℕ → Call → List ℕ
event_bytes n call = flat_map bytes_of (numbers_of n call)

-- ---- what a trace can say

-- no dependency in a row n or more, and at most 4 requests with nothing past them
pub record Sayable (n : ℕ) (p : Proposal) : Type 0 where
  pub deps : p.deps ≡ set_with (take n p.deps.cols)
  pub batch : p.batch ≡ batch_of (present p.batch)
  pub few : p.batch.count ≤ 4

abbrev pub Shaped : ℕ → Call → Type 0
Shaped n (propose phase p) = Sayable n p
Shaped n (reply m) = Unit
Shaped n (prepare m) = Unit
Shaped n (log status at) = Unit
Shaped n (try at) = Unit
Shaped n (lead_at at) = Unit

-- and each number has 64 bits
pub record Writable (n : ℕ) (call : Call) : Type 0 where
  pub shaped : Shaped n call
  pub fit : Fit (numbers_of n call)
