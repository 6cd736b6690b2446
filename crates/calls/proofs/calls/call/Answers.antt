-- `calls::calls::call` meets its contract: lengths first, then bytes that stand for nothing, then what the handler makes of a table that looks like the image's.
use mathlib.Core.Path.{sym}
use borrow.Author.Tests.{le-leb, lt-leb, eq-eqb, ne_eqb}
use Rattle.calls.specs.Calls.{call_long, on_image}
use Rattle.changes.proofs.ViewLaws.{seven_seen}
use Rattle.image.specs.Tables.{table_at}
use Rattle.in_place.proofs.ViewLaws.{seven_rows}
use Rattle.base.proofs.Tests.{passed, failed}
use Rattle.calls.proofs.calls.call.Goals as goal

pub decide-change-requires : goal.decide-change-requires
decide-change-requires c = rw c.look_at-view.ensures (seven_seen _ _ _)

pub returns : goal.returns
unfolding on_image call_long
returns c =
    let l = c.args.image.now in
    let f = eq-eqb _ _ c.if-image-ne-WIDTH.false in
    let g = le-leb _ _ c.if-out-lt-WIDTH.false in
    let h = c.if-not-known.false in
    let i = passed c.is_known.ensures c.if-not-is_known.false in
    let e = c.decide-change.ensures.same (table_at l) (seven_rows l) (sym c.look_at-view.ensures) in
    let s = c.settle_at.ensures in
    record { result = rw (f, g, h, i, ← e) s.result; table = rw (f, g, h, i, ← e) s.table; bytes = rw (f, g, h, i, ← e) s.bytes }
