-- The output in bytes: how long it is.
use mathlib.Core.Path.{◌≡◌, refl}
use lib.ListN.{length, length-append}
use Rattle.base.specs.declared.status.Status.{Status}
use Rattle.table.specs.declared.place.Place.{Place}
use Rattle.outcomes.specs.declared.output.What.{What}
use Rattle.outcomes.specs.declared.output.Record.{Record}
use Rattle.outcomes.specs.declared.output.Output.{Output}
use Rattle.layout.proofs.NumberLaws.{number_length}
use Rattle.output_bytes.specs.Output.{output_width, tag_bytes, record_bytes, output_bytes}
use Rattle.slot_bytes.proofs.SlotLaws.{contents_length}

pub tag_length : (what : What) (at : Place) (status : Status) → length (tag_bytes what at status) ≡ 5
unfolding tag_bytes
tag_length what at status = refl

pub record_length : (r : Record) → length (record_bytes r) ≡ 145
unfolding record_bytes
record_length r = simp (length-append, tag_length, number_length, contents_length)

pub output_length : (o : Output) → length (output_bytes o) ≡ output_width
unfolding output_bytes
output_length o = simp (length-append, record_length)
