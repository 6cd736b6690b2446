-- A slot, and what is done to one.
use Rattle.std.specs.Prelude.{List, [], Bool, true, false, ◌&&◌, leb, eqb, ℕ, suc, replicate, set}
use Rattle.base.specs.declared.status.Status.{Status}
use Rattle.base.specs.declared.status.Status.TheVariants.{Null, Committed, Executed}
use Rattle.base.specs.Status.{rank_of}
use Rattle.base.specs.Marks.{marks_fit}
use Rattle.deps.specs.Sets.{set_of, empty_set, set_fits}
use Rattle.deps.specs.Batches.{no_op, batch_fits}
use Rattle.deps.specs.declared.sets.DepSet.{DepSet}
use Rattle.deps.specs.declared.batches.Batch.{Batch}
use Rattle.slots.specs.declared.slot.Slot.{Slot}

-- ballot 0, Null, sequence 0, nothing else
abbrev pub null_slot : Slot
null_slot =
    record {
      ballot = 0;
      status = Null;
      seq = 0;
      deps = empty_set;
      batch = no_op;
      source = 0;
      led = false;
      marks = replicate 7 false;
    }

-- what is read past the slots, where there is not even a row
abbrev pub blank_slot : Slot
blank_slot =
    record {
      ballot = 0;
      status = Null;
      seq = 0;
      deps = set_of [];
      batch = record { count = 0; reqs = [] };
      source = 0;
      led = false;
      marks = [];
    }

-- ballot, status, sequence, dependencies and batch stored
abbrev pub stored_with : Slot → ℕ → Status → ℕ → DepSet → Batch → Slot
stored_with s ballot status seq deps batch =
    record {
      ballot = ballot;
      status = status;
      seq = seq;
      deps = deps;
      batch = batch;
      source = s.source;
      led = s.led;
      marks = s.marks;
    }

-- the values as they stand, with this source, lead and marks
abbrev pub standing : Slot → ℕ → Bool → List Bool → Slot
standing s source led marks =
    record {
      ballot = s.ballot;
      status = s.status;
      seq = s.seq;
      deps = s.deps;
      batch = s.batch;
      source = source;
      led = led;
      marks = marks;
    }

-- the source is 0 for none, p + 1 for the peer p
abbrev pub heard_from : Slot → ℕ → Slot
heard_from s peer = standing s (suc peer) s.led s.marks

-- led, no accept marks
abbrev pub leading : Slot → Slot
leading s = standing s s.source true (replicate 7 false)

-- the peer marked
abbrev pub with_mark : Slot → ℕ → Slot
with_mark s peer = standing s s.source s.led (set s.marks peer true)

abbrev pub committed : Slot → Slot
committed s = stored_with s s.ballot Committed s.seq s.deps s.batch

-- a slot has run when it is Executed
abbrev pub is_executed : Slot → Bool
is_executed s = eqb (rank_of s.status) (rank_of Executed)

abbrev pub executed : Slot → Slot
executed s = stored_with s s.ballot Executed s.seq s.deps s.batch

-- source, dependencies, batch and marks within the bounds of n rows; else refusal 1
unfoldable pub slot_fits : ℕ → Slot → Bool
slot_fits n s = leb s.source n && (set_fits n s.deps && (batch_fits s.batch && marks_fit n s.marks))
