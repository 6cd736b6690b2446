-- `keys::columns::Keys::identify` meets its contract: joined so far are the keys that the requests passed name.
use mathlib.Core.Path.{◌≡◌}
use Rattle.deps.specs.Sets.{empty_set}
use Rattle.deps.specs.Batches.{key_named}
use Rattle.keys.specs.Columns.{join_key}
use Rattle.base.proofs.Loops.{folded}
use Rattle.keys.proofs.columns.Keys.identify.Given as goal

abbrev pub invariant-loop-request : goal.invariant-loop-request
invariant-loop-request l = l.out ≡ folded (join_key l.fn.self) key_named empty_set l.request-items l.request-index
