-- Lead: marks the slot led, no accept marks.
use Rattle.std.specs.Prelude.{[]}
use Rattle.slots.specs.Slot.{leading}
use Rattle.table.specs.Table.{slot_of, put_at}
use Rattle.table.specs.declared.place.Place.{Place}
use Rattle.table.specs.declared.table.Table.{Table}
use Rattle.outcomes.specs.Outcome.{Handled, done, unless_refused}
use Rattle.outcomes.specs.Refusal.{lead_refusal}

unfoldable pub lead_slot : Table → Place → Handled
lead_slot t at = unless_refused (lead_refusal t at) (done (put_at t at (leading (slot_of t at))) [])
