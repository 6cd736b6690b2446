-- What a call puts out.
use Rattle.std.specs.Prelude.{List, ◌++◌, length, replicate, ℕ, ◌-◌}
use Rattle.base.specs.declared.status.Status.TheVariants.{Null}
use Rattle.deps.specs.Sets.{empty_set}
use Rattle.deps.specs.Batches.{no_op}
use Rattle.table.specs.Place.{place_of}
use Rattle.table.specs.declared.place.Place.{Place}
use Rattle.slots.specs.declared.slot.Slot.{Slot}
use Rattle.outcomes.specs.declared.output.What.{What}
use Rattle.outcomes.specs.declared.output.What.TheVariants.{Nothing, Log, CommitNotice, ExpPrepareReply}
use Rattle.outcomes.specs.declared.output.Record.{Record}
use Rattle.outcomes.specs.declared.output.Output.{Output}

-- the slot's place and its values: ballot, status, sequence, dependencies, batch
abbrev pub record_of : What → Place → Slot → Record
record_of what at s =
    record {
      what = what;
      at = at;
      ballot = s.ballot;
      status = s.status;
      seq = s.seq;
      deps = s.deps;
      batch = s.batch;
    }

abbrev pub no_record : Record
no_record =
    record {
      what = Nothing;
      at = place_of 0 0;
      ballot = 0;
      status = Null;
      seq = 0;
      deps = empty_set;
      batch = no_op;
    }

-- a record for the log
abbrev pub log_of : Place → Slot → Record
log_of at s = record_of Log at s

-- a broadcast
abbrev pub notice_of : Place → Slot → Record
notice_of at s = record_of CommitNotice at s

-- a reply to the peer, that names the ballot it was asked with
abbrev pub reply_of : ℕ → ℕ → Place → Slot → Record
reply_of peer asked at s = record_of (ExpPrepareReply peer asked) at s

-- the records of a call in their order, at most two
abbrev pub output_of : List Record → Output
output_of l = record { count = length l; records = l ++ replicate (2 - length l) no_record }
