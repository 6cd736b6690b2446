-- How the cases write sets, requests, what went before, replies and votes, messages and slots.
use mathlib.Core.List.{List, [], ◌∷◌, ◌++◌, map, foldl}
use Rattle.std.specs.Prelude.{Bool, true, false, ◌≡◌, ℕ, zero, suc, ◌-◌, length, replicate}
use Rattle.deps.specs.Sets.{Dep, nothing, column, set_of}
use Rattle.deps.specs.Batches.{batch_of, no_op}
use Rattle.keys.specs.Columns.{empty_keys, refreshed_by}
use Rattle.base.specs.declared.config.Config.{Config}
use Rattle.base.specs.declared.status.Status.{Status}
use Rattle.base.specs.declared.status.Status.TheVariants.{Null, PreAccepting}
use Rattle.base.specs.declared.answer.Answer.TheVariants.{Done}
use Rattle.deps.specs.declared.batches.Batch.{Batch}
use Rattle.votes.specs.Contents.{contents_of}
use Rattle.votes.specs.declared.contents.Contents.{Contents}
use Rattle.recovering.specs.declared.recovery.Prepare.{Prepare}
use Rattle.deps.specs.declared.sets.DepSet.{DepSet}
use Rattle.deps.specs.declared.batches.Kind.TheVariants.{Other, Put, Get}
use Rattle.deps.specs.declared.batches.Request.{Request}
use Rattle.keys.specs.declared.columns.Keys.{Keys}
use Rattle.table.specs.Place.{place_of}
use Rattle.slots.specs.Slot.{null_slot, stored_with, heard_from}
use Rattle.table.specs.Table.{empty_table, slot_of}
use Rattle.slots.specs.declared.slot.Slot.{Slot}
use Rattle.table.specs.declared.table.Table.{Table}
use Rattle.outcomes.specs.Output.{output_of, log_of}
use Rattle.outcomes.specs.Outcome.{outcome_of}
use Rattle.outcomes.specs.declared.message.Proposal.{Proposal}
use Rattle.outcomes.specs.declared.outcome.Outcome.{Outcome}
use Rattle.proposing.specs.Proposals.{pre_accept}

-- [1,_,3] is 1 ∷ _ ∷ 3, row by row from row 0, and nothing in the rows after
abbrev pub number_of : Dep → ℕ
number_of nothing = 0
number_of (column c) = suc c

abbrev pub rows : List Dep → DepSet
rows l = set_of (map number_of l ++ replicate (7 - length l) 0)

-- requests of client 1, id 1, puts of the value 9
abbrev pub put : ℕ → Request
put key = record { client = 1; id = 1; kind = Put key 9 }

abbrev pub get : ℕ → Request
get key = record { client = 1; id = 1; kind = Get key }

abbrev pub other : Request
other = record { client = 1; id = 1; kind = Other }

-- a slot, and the requests that it was stored with
pub record Stored : Type 0 where
  pub row : ℕ
  pub col : ℕ
  pub requests : List Request

-- the key columns after these slots, in turn
abbrev pub keys_after : List Stored → Keys
keys_after = foldl (λ (k : Keys) (s : Stored). refreshed_by k s.row s.col (batch_of s.requests)) empty_keys

-- N, own 0, simple, super
abbrev pub config : ℕ → ℕ → ℕ → Config
config n simple sup = record { n = n; own = 0; simple = simple; sup = sup }

-- seven by replica: those listed, from replica 0, and then this one
abbrev pub seven : {A : Type 0} → A → List A → List A
seven a l = l ++ replicate (7 - length l) a

-- what a replica says: nothing, or a sequence, dependencies and, of a vote, its status and requests
pub data Says : Type 0 where
  nothing_said : Says
  reply : ℕ → List Dep → Says
  vote : Status → ℕ → List Dep → List Request → Says

abbrev pub is_said : Says → Bool
is_said nothing_said = false
is_said (reply seq deps) = true
is_said (vote status seq deps batch) = true

abbrev pub status_in : Says → Status
status_in nothing_said = Null
status_in (reply seq deps) = Null
status_in (vote status seq deps batch) = status

abbrev pub seq_in : Says → ℕ
seq_in nothing_said = 0
seq_in (reply seq deps) = seq
seq_in (vote status seq deps batch) = seq

abbrev pub cols_in : Says → List ℕ
cols_in nothing_said = replicate 7 0
cols_in (reply seq deps) = (rows deps).cols
cols_in (vote status seq deps batch) = (rows deps).cols

abbrev pub batch_in : Says → Batch
batch_in nothing_said = no_op
batch_in (reply seq deps) = no_op
batch_in (vote status seq deps batch) = batch_of batch

-- the marks, sequences, dependency columns, statuses and batches of what is said
abbrev pub marks : List Says → List Bool
marks l = seven false (map is_said l)

abbrev pub seqs : List Says → List ℕ
seqs l = seven 0 (map seq_in l)

abbrev pub cols : List Says → List (List ℕ)
cols l = seven (replicate 7 0) (map cols_in l)

abbrev pub statuses : List Says → List Status
statuses l = seven Null (map status_in l)

abbrev pub batches : List Says → List Batch
batches l = seven no_op (map batch_in l)

-- what is decided on: sequence, dependencies, requests
abbrev pub contents : ℕ → List Dep → List Request → Contents
contents seq deps batch = contents_of seq (rows deps) (batch_of batch)

-- a prepare of row 0 whose highest ballot is the default one
abbrev pub at_default : Prepare
at_default = record { row = 0; highest = 7; default = 7 }

-- a PreAccept of peer 1 for 0.0: ballot 5, sequence 1, no dependencies, a put
abbrev pub first : Proposal
first = record { message = record { peer = 1; at = place_of 0 0; ballot = 5 }; seq = 1; deps = rows []; batch = batch_of (put 5 ∷ []) }

abbrev pub sent_to : Table → Outcome
sent_to t = outcome_of t (pre_accept t first)

-- sent to an empty table, and then again so many times
abbrev pub sent_again : ℕ → Outcome
sent_again zero = sent_to (empty_table (config 3 2 3))
sent_again (suc times) = sent_to (sent_again times).table

-- the slot that it leaves, but for sequence and dependencies
abbrev pub pre_accepted : ℕ → List Dep → Slot
pre_accepted seq deps = heard_from (stored_with null_slot 5 PreAccepting seq (rows deps) (batch_of (put 5 ∷ []))) 1

-- done, with 0.0 as the slot, and a log record of it
pub record Holds (r : Outcome) (s : Slot) : Type 0 where
  pub answers : r.answer ≡ Done
  pub held : slot_of r.table (place_of 0 0) ≡ s
  pub logs : r.output ≡ output_of (log_of (place_of 0 0) s ∷ [])
