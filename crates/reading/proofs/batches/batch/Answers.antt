use mathlib.Core.List.{List}
use Prim.Native.Nat.{ℕ}
use native.Mathlib.Omega.{arith}
use Rattle.deps.specs.Batches.{batch_of}
use Rattle.groups.specs.Numbers.{Cursor}
use Rattle.groups.specs.Told.{standing}
use Rattle.groups.proofs.CursorLaws.{within_most}
use Rattle.groups.proofs.ToldLaws.{passed_on, then_took}
use Rattle.reading.specs.Batches.{requests_from, batch_from}
use Rattle.reading.specs.Held.{held_batch}
use Rattle.reading.proofs.LoopLaws.{request_read, request_refused, requests_read}
use Rattle.reading.proofs.batches.batch.Goals as goal

pub loop-preserved : goal.loop-preserved
loop-preserved c =
    let l = c.loop in
    rw c.with-batch.ensures
    (request_read c.in_ok-count.count c.number_within.new.self l.batch l.counter l.cursor c.request.new.cursor l.invariant c.loop-test.true c.in_ok-request.request c.in_ok-request.ensures)

pub returns-in_err-request : goal.returns-in_err-request
unfolding batch_from
returns-in_err-request c =
    let l = c.loop in
    let r = c.from_residual-in_err-request in
    let many = c.in_ok-count.count in
    let t = c.in_ok-count.ensures in
    let q = request_refused many c.number_within.new.self l.batch l.counter l.cursor c.request.new.cursor l.invariant c.loop-test.true c.in_err-request.field-0.0 c.in_err-request.ensures in
    passed_on (then_took (λ (s : List ℕ) (d : Cursor). l.batch) (λ (s : List ℕ) (d : Cursor). (requests_from many s d).cursor) t q) r.result r.ensures.1
    (rw t.told.0)

pub returns : goal.returns
unfolding batch_from
returns c =
    let l = c.loop in
    let k = c.args.cursor.now in
    let many = c.in_ok-count.count in
    let t = c.in_ok-count.ensures in
    let q =
    requests_read many c.number_within.new.self l.batch l.counter l.cursor l.cursor l.invariant c.loop-test.false (omega (arith, t.told.0, within_most 0 4 k.trace.now (standing k.place))) in
    rw (← t.told.0)
    (then_took (λ (s : List ℕ) (d : Cursor). held_batch (batch_of (requests_from many s d).requests)) (λ (s : List ℕ) (d : Cursor). (requests_from many s d).cursor) t q)
