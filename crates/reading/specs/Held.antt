-- A set's dependency has a byte and a request's key two. A number that they do not hold is held as the greatest that they do,
-- which is refused as the number itself would be: what an event does is the same (HeldLaws).
use Rattle.std.specs.Prelude.{map, ℕ, min}
use Rattle.deps.specs.Sets.{set_of}
use Rattle.deps.specs.declared.sets.DepSet.{DepSet}
use Rattle.deps.specs.declared.batches.Kind.{Kind}
use Rattle.deps.specs.declared.batches.Kind.TheVariants.{Other, Put, Get}
use Rattle.deps.specs.declared.batches.Request.{Request}
use Rattle.deps.specs.declared.batches.Batch.{Batch}
use Rattle.outcomes.specs.declared.message.Proposal.{Proposal}
use Rattle.steps.specs.Calls.{Call, propose, reply, prepare, log, try, lead_at}

abbrev pub held_dep : ℕ → ℕ
held_dep number = min number 255

abbrev pub held_set : DepSet → DepSet
held_set d = set_of (map held_dep d.cols)

abbrev pub held_key : ℕ → ℕ
held_key number = min number 65535

abbrev pub held_kind : Kind → Kind
held_kind Other = Other
held_kind (Put key value) = Put (held_key key) value
held_kind (Get key) = Get (held_key key)

abbrev pub held_request : Request → Request
held_request q = record { client = q.client; id = q.id; kind = held_kind q.kind }

abbrev pub held_batch : Batch → Batch
held_batch b = record { count = b.count; reqs = map held_request b.reqs }

abbrev pub held_proposal : Proposal → Proposal
held_proposal p = record { message = p.message; seq = p.seq; deps = held_set p.deps; batch = held_batch p.batch }

abbrev pub held : Call → Call
held (propose phase p) = propose phase (held_proposal p)
held (reply m) = reply m
held (prepare m) = prepare m
held (log status at) = log status at
held (try at) = try at
held (lead_at at) = lead_at at
