use mathlib.Core.Path.{◌≡◌, ap, ◌∙◌}
use native.Mathlib.Omega.{arith}
use lib.ListN.{length}
use lib.Seq.{length-sets}
use Rattle.lines.proofs.RoomLaws.{bars_room}
use Rattle.trace.proofs.RunLaws.{can_begin, events_list}
use Rattle.trace.proofs.run.events.Goals as goal

pub turns-ended-requires-clause-going : goal.turns-ended-requires-clause-going
turns-ended-requires-clause-going c =
    let a = c.args in
    rw (c.empty.ensures, c.rest_from.ensures)
    (can_begin a.trace.now a.config a.at (length a.text.now) c.requires.config_value c.requires.trace_len_bound c.requires.text_room_in_bounds)

pub put_bars-end-requires-clause-table_in_bounds : goal.put_bars-end-requires-clause-table_in_bounds
put_bars-end-requires-clause-table_in_bounds c =
    let r = c.turns-ended in
    let w = r.ensures.ended in
    let long : length r.new.text ≡ length c.args.text.now = ap length r.ensures.list ∙ simp length-sets in
    omega (arith, long, w.bars, bars_room r.result.table w.fits)

pub returns-clause-list : goal.returns-clause-list
returns-clause-list c =
    let a = c.args in
    let s = a.trace.now in
    let p = c.put_bars-end in
    let r = c.turns-ended in
    let w = rw (c.empty.ensures, c.rest_from.ensures) at r.ensures.ended in
    let list = rw c.empty.ensures at r.ensures.list in
    p.ensures.text_after ∙ rw list (events_list s a.config a.at (length a.text.now) r.result w a.text.now)
