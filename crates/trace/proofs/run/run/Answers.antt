use mathlib.Core.Path.{refl}
use Prim.Native.Nat.{◌<◌}
use native.Mathlib.Omega.{arith}
use Rattle.base.proofs.Tests.{passed, failed}
use Rattle.groups.proofs.ToldLaws.{refusal_some}
use Rattle.reading.specs.Events.{header_of}
use Rattle.trace.proofs.RunLaws.{run_short, run_is, trace_long, trace_unread, trace_outside, trace_opened}
use Rattle.trace.proofs.run.run.Goals as goal

pub returns-then-text-lt-ROOM : goal.returns-then-text-lt-ROOM
returns-then-text-lt-ROOM c =
    let short = run_short c.args.trace.now c.args.text.now c.if-text-lt-ROOM.true in
    record { result = rw c.no_table.ensures short.0; list = short.1 }

pub returns-then-trace-gt-LIMIT : goal.returns-then-trace-gt-LIMIT
returns-then-trace-gt-LIMIT c =
    let s = c.args.trace.now in
    let x = c.refuse.ensures in
    let is = run_is s c.args.text.now (omega arith) _ (trace_long s (omega arith)) c.refuse.result _ x.result x.list in
    record { result = is.0; list = is.1 }

pub returns-in-Err : goal.returns-in-Err
returns-in-Err c =
    let s = c.args.trace.now in
    let h = header_of s in
    let e = c.in-Err.ensures in
    let l : 0 < h.cursor.refusal = omega (arith, e, refusal_some c.in-Err.refusal) in
    let x = rw (← e) at c.refuse-in-Err.ensures in
    let is = run_is s c.args.text.now (omega arith) _ (trace_unread s (omega arith) h refl l) c.refuse-in-Err.result _ x.result x.list in
    record { result = is.0; list = is.1 }

pub returns-then-not-fits : goal.returns-then-not-fits
returns-then-not-fits c =
    let s = c.args.trace.now in
    let n = c.in-Ok.ensures in
    let x = c.refuse-then-not-fits.ensures in
    let fails = rw n.0 at (failed c.fits.ensures c.if-not-fits.true) in
    let is =
    run_is s c.args.text.now (omega arith) _ (trace_outside s (omega arith) (header_of s) refl n.1 fails) c.refuse-then-not-fits.result _ x.result x.list in
    record { result = is.0; list = is.1 }

pub returns : goal.returns
returns c =
    let s = c.args.trace.now in
    let n = c.in-Ok.ensures in
    let x = rw n.0 at c.events.ensures in
    let passes = rw n.0 at (passed c.fits.ensures c.if-not-fits.false) in
    let is =
    run_is s c.args.text.now (omega arith) _ (trace_opened s (omega arith) (header_of s) refl n.1 passes) c.events.result _ x.result x.list in
    record { result = is.0; list = is.1 }
