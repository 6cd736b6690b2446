use mathlib.Core.List.{flat_map}
use native.Mathlib.Omega.{arith}
use Rattle.lines.specs.Line.{slot_text, slots_text}
use Rattle.lines.proofs.Writing.{begun, each_fits, each_more, each_done}
use Rattle.lines.proofs.text.Text.put_slots.Goals as goal

pub loop-entry-init : goal.loop-entry-init
unfolding flat_map
loop-entry-init c = begun c.args.self.now

pub put_pair-requires : goal.put_pair-requires
unfolding slots_text
put_pair-requires c =
    let o = c.loop-entry in
    rw (c.from.ensures, c.from-in-loop-entry.ensures) (each_fits slot_text c.args.ran.now o.entry-index o.invariant (omega arith) c.requires)

pub loop-entry-preserved : goal.loop-entry-preserved
loop-entry-preserved c =
    let o = c.loop-entry in
    each_more slot_text c.args.ran.now o.entry-index o.invariant (omega arith) (rw (c.from.ensures, c.from-in-loop-entry.ensures) at c.put_pair.ensures)

pub returns : goal.returns
unfolding slots_text
returns c = let o = c.loop-entry in each_done slot_text c.args.ran.now o.entry-index o.invariant (omega arith)
