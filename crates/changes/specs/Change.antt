-- What a handler makes of a table.
use Rattle.std.specs.Prelude.{◌≡◌, List, [], true, ℕ, ◌<◌, ◌≤◌, length}
use Rattle.base.specs.declared.answer.Answer.TheVariants.{Done, Ignored, Refused}
use Rattle.deps.specs.declared.batches.Batch.{Batch}
use Rattle.slots.specs.Slot.{null_slot}
use Rattle.slots.specs.declared.slot.Slot.{Slot}
use Rattle.table.specs.Table.{put_at, nulls_to, stored_at}
use Rattle.table.specs.declared.place.Place.{Place}
use Rattle.table.specs.declared.table.Table.{Table}
use Rattle.outcomes.specs.Output.{output_of}
use Rattle.outcomes.specs.Outcome.{Handled, outcome_of}
use Rattle.outcomes.specs.declared.outcome.Outcome.{Outcome}
use Rattle.outcomes.specs.declared.output.Record.{Record}
use Rattle.changes.specs.View.{view_of}
use Rattle.changes.specs.declared.view.View.{View}
use Rattle.changes.specs.declared.change.Change.{Change}
use Rattle.changes.specs.declared.change.Extent.{Extent}
use Rattle.changes.specs.declared.change.Extent.TheVariants as Extents

-- null slots up to the column first; then the slot, and with it the keys
abbrev pub changed_table : Extent → Table → Place → Slot → Table
changed_table Extents.Nothing t at s = t
changed_table Extents.Nulls t at s = nulls_to t at
changed_table Extents.Slot t at s = put_at (nulls_to t at) at s
changed_table Extents.Keys t at s = stored_at (nulls_to t at) at s

abbrev pub changed : Table → Place → Change → Outcome
changed t at c = record { answer = c.answer; table = changed_table c.extent t at c.slot; output = c.output }

-- of the four in order: what has one has those before it
abbrev pub reach_of : Extent → ℕ
reach_of Extents.Nothing = 0
reach_of Extents.Nulls = 1
reach_of Extents.Slot = 2
reach_of Extents.Keys = 3

-- what changes is inside the table's seven rows of 32
abbrev pub Inside : Extent → Place → Type 0
Inside Extents.Nothing at = Unit
Inside Extents.Nulls at = (at.row < 7) × (at.col < 32)
Inside Extents.Slot at = (at.row < 7) × (at.col < 32)
Inside Extents.Keys at = (at.row < 7) × (at.col < 32)

abbrev pub refusing : ℕ → Change
refusing number = record { slot = null_slot; output = output_of []; answer = Refused number; extent = Extents.Nothing }

abbrev pub ignoring : Extent → Change
ignoring extent = record { slot = null_slot; output = output_of []; answer = Ignored; extent = extent }

-- done: the slot, and the records put out
abbrev pub doing : Extent → Slot → List Record → Change
doing extent s records = record { slot = s; output = output_of records; answer = Done; extent = extent }

-- within the bounds there are at most seven rows
abbrev pub Seven : View → Type 0
Seven v = v.within ≡ true → v.config.n ≤ 7

-- the change makes of every table that looks so what the entry makes of it
pub record Makes (entry : Table → Handled) (v : View) (at : Place) (b : Batch) (c : Change) : Type 0 where
  pub inside : Inside c.extent at
  pub same : (t : Table) → length t.lens ≡ 7 → view_of t at b ≡ v → changed t at c ≡ outcome_of t (entry t)

-- whatever the batch that the view was made for
abbrev pub MakesForAny : (Table → Handled) → View → Place → Change → Type 0
MakesForAny entry v at c = (b : Batch) → Makes entry v at b c
