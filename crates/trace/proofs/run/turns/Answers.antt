use mathlib.Core.Path.{◌≡◌, ap, sym, ◌∙◌}
use Prim.Native.Nat.{◌<◌, ◌≤◌}
use native.Mathlib.Omega.{arith}
use lib.ListN.{length}
use lib.Seq.{length-sets}
use Rattle.groups.specs.Numbers.{Bytes}
use Rattle.trace.specs.declared.turn.Run.{Run}
use Rattle.trace.specs.Turn.{turn_text}
use Rattle.trace.proofs.TurnLaws.{list_turn, length_turn, table_turn, table_ended, text_ended}
use Rattle.trace.proofs.GoingLaws.{going_turn, at_rises}
use Rattle.trace.proofs.run.turns.Goals as goal

pub loop-run-smaller : goal.loop-run-smaller
loop-run-smaller c =
    let r = c.turn-run in
    let l = c.loop-run in
    let s = c.args.trace.now in
    let h : l.run.at < length s = omega (arith, l.invariant.0.rest, c.loop-run-test.true) in
    let bytes : Bytes s = λ i. omega (arith, c.type_inv.trace i) in
    let rises = at_rises s bytes (length l.text) l.run l.invariant.0 h in
    omega (arith, rises, h, ap (λ (x : Run). x.at) r.ensures.result)

pub loop-run-preserved : goal.loop-run-preserved
loop-run-preserved c =
    let r = c.turn-run in
    let l = c.loop-run in
    let s = c.args.trace.now in
    let h : l.run.at < length s = omega (arith, l.invariant.0.rest, c.loop-run-test.true) in
    let bytes : Bytes s = λ i. omega (arith, c.type_inv.trace i) in
    let k : l.run.events < length s = omega (arith, l.invariant.0.counted, h) in
    let e = r.ensures.result in
    let f = r.ensures.list in
    let long : length r.new.text ≡ length l.text = ap length f ∙ length-sets l.text l.run.end (turn_text s l.run) in (
      rw (long, e) (going_turn s bytes (length l.text) l.run l.invariant.0 h),
      long ∙ l.invariant.1,
      rw (f, e) (list_turn s l.run h k l.text ∙ l.invariant.2),
      rw e (length_turn s l.run h k ∙ l.invariant.3),
      rw e (sym (table_turn s l.run h k) ∙ l.invariant.4),
    )

pub returns : goal.returns
returns c =
    let l = c.loop-run in
    let s = c.args.trace.now in
    let h : length s ≤ l.run.at = omega (arith, l.invariant.0.rest, c.loop-run-test.false) in
    let none = text_ended s l.run h in
    record {
      ended = record {
        table = sym (table_ended s l.run h) ∙ l.invariant.4;
        end = omega (arith, l.invariant.3, ap length none);
        fits = l.invariant.0.fits;
        bars = omega (arith, l.invariant.0.bars, l.invariant.1);
      };
      list = rw none at l.invariant.2;
    }
