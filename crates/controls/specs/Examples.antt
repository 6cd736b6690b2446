-- Examples: the premises can be met; by arrival the orders would differ; and neither that committed slots stay nor that the
-- copies agree can be left out.
-- Slot 0.0 is number 0, slot 1.0 is number 32. Events have the values of a trace, in their order there.
use Rattle.std.specs.Prelude.{◌≡◌, true, false, ℕ, ◌-◌, length, replicate}
use mathlib.Core.List.{List, [], ◌∷◌, ◌++◌, flat_map}
use Rattle.deps.specs.Sets.{set_of}
use Rattle.deps.specs.Batches.{batch_of}
use Rattle.deps.specs.declared.batches.Kind.TheVariants.{Put, Get}
use Rattle.deps.specs.declared.batches.Request.{Request}
use Rattle.table.specs.Place.{place_of, index_of}
use Rattle.bounds.specs.Open.{config_of}
use Rattle.outcomes.specs.declared.message.Proposal.{Proposal}
use Rattle.proposing.specs.declared.proposals.Phase.TheVariants.{PreAccept, Accept, CommitNotice}
use Rattle.base.specs.declared.log_status.LogStatus.TheVariants.{Committed}
use Rattle.steps.specs.Calls.{Call, propose, reply, prepare, log, try, lead_at}
use Rattle.copies.specs.Copies.{Copy, ends, history_of, is_steady, agree, comparable, LeadsTo, SameOrder, Claimed, Claims}

-- ---- the events

-- client, id, key, value
abbrev pub put : ℕ → ℕ → ℕ → ℕ → Request
put client id key value = record { client = client; id = id; kind = Put key value }

abbrev pub get : ℕ → ℕ → ℕ → Request
get client id key = record { client = client; id = id; kind = Get key }

-- peer, row, column, ballot, sequence, dependencies as 0 or column + 1, batch
abbrev pub proposal : ℕ → ℕ → ℕ → ℕ → ℕ → List ℕ → List Request → Proposal
proposal peer row col ballot seq deps batch =
    record {
      message = record { peer = peer; at = place_of row col; ballot = ballot };
      seq = seq;
      deps = set_of (deps ++ replicate (7 - length deps) 0);
      batch = batch_of batch;
    }

abbrev pub pre_accept : ℕ → ℕ → ℕ → ℕ → ℕ → List ℕ → List Request → Call
pre_accept peer row col ballot seq deps batch = propose PreAccept (proposal peer row col ballot seq deps batch)

abbrev pub commit_notice : ℕ → ℕ → ℕ → ℕ → ℕ → List ℕ → List Request → Call
commit_notice peer row col ballot seq deps batch = propose CommitNotice (proposal peer row col ballot seq deps batch)

-- Logged Committed
abbrev pub logged_committed : ℕ → ℕ → Call
logged_committed row col = log Committed (place_of row col)

abbrev pub attempt : ℕ → ℕ → Call
attempt row col = try (place_of row col)

abbrev pub lead : ℕ → ℕ → Call
lead row col = lead_at (place_of row col)

-- ---- crossing edits: 0.0 depends on 1.0, and 1.0 on 0.0

abbrev pub edit : Request
edit = put 1 1 5 9

abbrev pub look : Request
look = get 2 1 5

-- the sequence of 0.0 is given
abbrev pub crossing : ℕ → Copy
crossing seq =
    record {
      config = config_of 3 0 2 3;
      calls =
          commit_notice 1 0 0 1 seq (0 ∷ 1 ∷ 0 ∷ []) (edit ∷ [])
          ∷ logged_committed 0 0
          ∷ commit_notice 1 1 0 1 1 (1 ∷ 0 ∷ 0 ∷ []) (look ∷ [])
          ∷ logged_committed 1 0
          ∷ [];
    }

-- the worked case of a trace, whose output has `4 done 1.0 0.0`
abbrev pub one : Copy
one = crossing 2

-- another replica, with another super quorum: it hears of 0.0 by a PreAccept, and commits it after 1.0, which it leads
abbrev pub two : Copy
two =
    record {
      config = config_of 3 1 2 2;
      calls =
          pre_accept 0 0 0 1 1 (0 ∷ 0 ∷ 0 ∷ []) (edit ∷ [])
          ∷ commit_notice 2 1 0 1 1 (1 ∷ 0 ∷ 0 ∷ []) (look ∷ [])
          ∷ logged_committed 1 0
          ∷ lead 1 0
          ∷ attempt 1 0
          ∷ commit_notice 0 0 0 1 2 (0 ∷ 1 ∷ 0 ∷ []) (edit ∷ [])
          ∷ logged_committed 0 0
          ∷ attempt 1 0
          ∷ [];
    }

-- each of the two slots leads to the other
pub record Crosses (c : Copy) : Type 0 where
  pub there : LeadsTo (ends c) 0 32
  pub back : LeadsTo (ends c) 32 0

-- all that is asked of two copies is met, and both run both slots
pub record Met : Type 0 where
  pub asked : comparable one two ≡ true
  pub crosses : Crosses one
  pub one_ran : history_of one ≡ 32 ∷ 0 ∷ []
  pub two_ran : history_of two ≡ 32 ∷ 0 ∷ []

-- ---- a component sorted by arrival

-- the slot of a CommitNotice
abbrev pub noticed : Call → List ℕ
noticed (propose PreAccept p) = []
noticed (propose Accept p) = []
noticed (propose CommitNotice p) = index_of p.message.at ∷ []
noticed (reply m) = []
noticed (prepare m) = []
noticed (log status at) = []
noticed (try at) = []
noticed (lead_at at) = []

-- slots in the order in which their CommitNotices come in
abbrev pub arrived : Copy → List ℕ
arrived c = flat_map noticed c.calls

-- to the same two copies the CommitNotices come in different orders: sorted so, what is claimed of the order would not hold
pub record ByArrival : Type 0 where
  pub one_arrived : arrived one ≡ 0 ∷ 32 ∷ []
  pub two_arrived : arrived two ≡ 32 ∷ 0 ∷ []
  pub not_same : SameOrder 32 0 (arrived one) (arrived two) → ⊥

-- ---- a slot that has run is committed again

abbrev pub notice : Call
notice = commit_notice 0 0 0 1 1 (0 ∷ []) (edit ∷ [])

abbrev pub again : Copy
again = record { config = config_of 1 0 1 1; calls = notice ∷ logged_committed 0 0 ∷ notice ∷ attempt 0 0 ∷ [] }

-- its status falls, it runs twice, and what is claimed of a copy does not hold
pub record Twice : Type 0 where
  pub unsteady : is_steady again ≡ false
  pub ran_twice : history_of again ≡ 0 ∷ 0 ∷ []
  pub not_claimed : Claimed again → ⊥

-- ---- the copies do not agree: 0.0 is committed with sequence 2 and with sequence 1

abbrev pub other : Copy
other = crossing 1

-- no more is amiss, but the orders differ, and what is claimed of two copies does not hold
pub record Differ : Type 0 where
  pub one_steady : is_steady one ≡ true
  pub other_steady : is_steady other ≡ true
  pub at_odds : agree (ends one) (ends other) ≡ false
  pub crosses : Crosses other
  pub orders : (history_of one ≡ 32 ∷ 0 ∷ []) × (history_of other ≡ 0 ∷ 32 ∷ [])
  pub not_claimed : Claims one other → ⊥
