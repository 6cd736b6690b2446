-- Null < PreAccepting < Accepting < Committed < Executed.
use Rattle.std.specs.Prelude.{ℕ}
use Rattle.base.specs.declared.status.Status.{Status}
use Rattle.base.specs.declared.status.Status.TheVariants.{Null, PreAccepting, Accepting, Committed, Executed}

-- a status's place in that order, which is also its byte
abbrev pub rank_of : Status → ℕ
rank_of Null = 0
rank_of PreAccepting = 1
rank_of Accepting = 2
rank_of Committed = 3
rank_of Executed = 4
