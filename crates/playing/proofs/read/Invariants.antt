-- The loop ends, since each turn that goes on fills a byte of the room at least.
use Rattle.std.proofs.Common.{◌-◌, ◌≤◌, length}
use Rattle.playing.proofs.read.Given as goal

abbrev pub invariant-loop-count : goal.invariant-loop-count
invariant-loop-count g l = l.count ≤ length l.room

abbrev pub decreases-loop-count : goal.decreases-loop-count
decreases-loop-count g l = length l.room - l.count
