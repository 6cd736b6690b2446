use mathlib.Core.Path.{◌≡◌}
use Prim.Native.Nat.{◌+◌, ◌-◌}
use lib.ListN.{length}
use lib.Seq.{sets}
use Rattle.trace.specs.Turn.{left_of, left_text, Going}
use Rattle.trace.proofs.run.turns.Given as goal

abbrev pub invariant-loop-run : goal.invariant-loop-run
invariant-loop-run l =
    Going l.trace (length l.text) l.run
    × (length l.text ≡ length l.initial.text)
    × (sets l.text l.run.end (left_text l.trace l.run) ≡ sets l.initial.text l.initial.run.end (left_text l.trace l.initial.run))
    × (l.run.end + length (left_text l.trace l.run) ≡ l.initial.run.end + length (left_text l.trace l.initial.run))
    × ((left_of l.trace l.run).table ≡ (left_of l.trace l.initial.run).table)

abbrev pub decreases-loop-run : goal.decreases-loop-run
decreases-loop-run l = length l.trace - l.run.at
