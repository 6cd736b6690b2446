-- `visit` and `rows` call each other: each visit adds a slot, so that what is not seen falls.
use Prim.Native.Nat.{◌+◌, ◌*◌, ◌≤◌}
use Rattle.leads.proofs.SearchLaws.{room, PassedTo}
use Rattle.leads.proofs.search.+rows_visit.Given as goal

abbrev pub decreases-rows : goal.decreases-rows
decreases-rows l = 2 * room l.seen.now 7 + 1

abbrev pub decreases-visit : goal.decreases-visit
decreases-visit l = 2 * room l.seen.now 7

abbrev pub invariant-rows-loop-row : goal.invariant-rows-loop-row
invariant-rows-loop-row l = (l.row ≤ 7) × PassedTo l.deps l.i l.row l.initial.seen l.seen
