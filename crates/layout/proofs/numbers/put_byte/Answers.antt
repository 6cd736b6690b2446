-- `layout::numbers::put_byte` meets its contract: one store is one byte laid.
use mathlib.Core.Path.{refl}
use Rattle.layout.specs.Numbers.{lay}
use Rattle.layout.proofs.numbers.put_byte.Goals as goal

pub returns : goal.returns
unfolding lay
returns c = refl
