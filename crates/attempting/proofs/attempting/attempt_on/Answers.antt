-- `attempting::attempting::attempt_on` meets its contract: lengths first, then refusal 8, then bytes that stand for nothing, then the attempt on the
-- table that the image is.
use mathlib.Core.Path.{ap, ◌∙◌}
use lib.ListN.{length}
use borrow.Author.Tests.{le-leb, eq-eqb}
use Rattle.base.proofs.Tests.{passed}
use Rattle.table.specs.Place.{place_of}
use Rattle.table.specs.declared.table.Table.{Table}
use Rattle.attempts.specs.Attempt.{attempt_of, attempt_order}
use Rattle.attempting.specs.Attempting.{attempt_long, attempt_call}
use Rattle.attempting.proofs.attempting.attempt_on.Goals as goal

pub returns : goal.returns
unfolding attempt_call attempt_long
returns c =
    let a = c.args in
    let f = eq-eqb _ _ c.if-image-ne-WIDTH.false in
    let g = le-leb _ _ c.if-ran-lt8.false in
    let h = le-leb _ _ c.if-order-lt224.false in
    let i = passed c.is_known.ensures c.if-not-is_known.false in
    let e = c.attempt-tried.ensures.result ∙ ap (λ (u : Table). attempt_of u (place_of a.row a.col) (length a.order.now)) c.table_at.ensures in
    let o = c.attempt-tried.ensures.list ∙ ap (λ (u : Table). attempt_order u (place_of a.row a.col) a.order.now) c.table_at.ensures in
    let s = c.settle.ensures in
    record { result = rw (f, g, h, i, ← e) s.result; table = rw (f, g, h, i, ← e) s.table; list = rw (f, g, h, i) o; count = rw (f, g, h, i, ← e) s.count }
