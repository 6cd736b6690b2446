-- `keys::columns::Keys::refresh` meets its contract: raised so far are the keys that the requests passed put.
use mathlib.Core.Path.{◌≡◌}
use Rattle.keys.specs.Columns.{key_entered, raise_key}
use Rattle.base.proofs.Loops.{folded}
use Rattle.keys.proofs.columns.Keys.refresh.Given as goal

abbrev pub invariant-loop-request : goal.invariant-loop-request
invariant-loop-request l = l.out ≡ folded (raise_key l.fn.row l.fn.col) key_entered l.fn.self l.request-items l.request-index
