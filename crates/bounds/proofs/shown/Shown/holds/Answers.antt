-- `bounds::shown::Shown::holds` meets its contract: rows of the table's lengths have the place.
use Rattle.table.specs.Table.{holds}
use Rattle.bounds.proofs.shown.Shown.holds.Goals as goal

pub returns-clause-value : goal.returns-clause-value
unfolding holds
returns-clause-value g c = rw c.lens.ensures at c.is_in.ensures.value
