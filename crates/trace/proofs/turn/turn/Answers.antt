use mathlib.Core.Path.{refl, ap}
use Prim.Native.Nat.{◌<◌}
use native.Mathlib.Omega.{arith}
use lib.ListN.{length, length-take}
use Rattle.bounds.proofs.BoundLaws.{table_fits_each}
use Rattle.groups.proofs.ToldLaws.{refusal_some}
use Rattle.trace.specs.Turn.{next_by}
use Rattle.trace.proofs.GoingLaws.{turn_room}
use Rattle.trace.proofs.EventLaws.{turn_stopped, text_stopped, ran_fits, text_went, turn_went}
use Rattle.trace.proofs.turn.turn.Goals as goal

pub next_at-next-requires : goal.next_at-next-requires
next_at-next-requires c = (table_fits_each c.args.run.table c.requires.table_value).config_fits.seven

pub returns-in-Err : goal.returns-in-Err
returns-in-Err c =
    let s = c.args.trace.now in
    let run = c.args.run in
    let r = next_by s run in
    let t = c.next_at-next.ensures in
    let e = rw c.in-Err.is at t.event in
    let h : 0 < r.refusal = omega (arith, e, refusal_some c.in-Err.refusal) in
    let x = rw (← e, t.at) at c.stop.ensures in
    record {
      result = turn_stopped s run r refl h c.stop.result x.result;
      list = rw (text_stopped s run r refl h) at x.list;
    }

pub slice_bounds-order-end : goal.slice_bounds-order-end
slice_bounds-order-end c =
    let s = c.args.trace.now in
    let n = rw c.in-Ok.is at c.next_at-next.ensures.event in
    let d = c.step-did in
    let did = rw n.0 at d.ensures in
    ran_fits s c.args.run (next_by s c.args.run) refl d.result d.new.order did.result did.list

pub slice_bounds-ran-end : goal.slice_bounds-ran-end
slice_bounds-ran-end c =
    let s = c.args.trace.now in
    let n = rw c.in-Ok.is at c.next_at-next.ensures.event in
    let d = c.step-did in
    let did = rw n.0 at d.ensures in
    let fits = ran_fits s c.args.run (next_by s c.args.run) refl d.result d.new.order did.result did.list in
    omega (arith, fits, length-take d.result.ran d.new.order)

pub put_line-end-requires : goal.put_line-end-requires
put_line-end-requires c =
    let s = c.args.trace.now in
    let n = rw c.in-Ok.is at c.next_at-next.ensures.event in
    let d = c.step-did in
    let did = rw n.0 at d.ensures in
    let t = text_went s c.args.run (next_by s c.args.run) refl d.result d.new.order did.result did.list n.1 in
    omega (arith, ap length t, turn_room s c.args.run, c.requires.end_in_bounds)

pub returns : goal.returns
returns c =
    let s = c.args.trace.now in
    let run = c.args.run in
    let told = c.next_at-next.ensures in
    let n = rw c.in-Ok.is at told.event in
    let d = c.step-did in
    let did = rw n.0 at d.ensures in
    let p = c.put_line-end in
    record {
      result = rw (told.at, told.rest) (turn_went s run (next_by s run) refl d.result d.new.order did.result did.list n.1 p.result p.ensures.value);
      list = rw (text_went s run (next_by s run) refl d.result d.new.order did.result did.list n.1) at p.ensures.text_after;
    }
