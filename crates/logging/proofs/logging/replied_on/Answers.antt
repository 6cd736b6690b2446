-- `logging::logging::replied_on` meets its contract: refused by the place, or the change that was decided on the image's view.
use mathlib.Core.Path.{◌≡◌, refl, sym, ◌∙◌}
use Rattle.deps.specs.Batches.{no_op}
use Rattle.outcomes.specs.Refusal.{lead_refusal}
use Rattle.changes.specs.Change.{Seven, changed}
use Rattle.changes.proofs.ViewLaws.{lead_in, seven_seen, lead_seen, lead_inside}
use Rattle.image.specs.Tables.{table_at}
use Rattle.in_place.proofs.ViewLaws.{seven_rows}
use Rattle.logging.proofs.ReplyOnLaws.{reply_refused, reply_done}
use Rattle.logging.proofs.logging.replied_on.Goals as goal

pub returns-in-Err : goal.returns-in-Err
returns-in-Err c =
    let a = c.args in
    let t = table_at a.image.now in
    let seen : lead_in c.look_at-view.result a.at ≡ lead_refusal t a.at = lead_seen t a.at no_op c.look_at-view.result (sym c.look_at-view.ensures) in
    let e = reply_refused a.reply t a.at c.in-Err.refusal (c.in-Err.ensures ∙ seen) in
    record { result = rw e c.number.ensures; table = rw e refl; count = rw e refl; bytes = rw e refl }

pub replied-change-requires : goal.replied-change-requires
replied-change-requires c =
    let v = c.look_at-view.result in
    let seven : Seven v = rw c.look_at-view.ensures (seven_seen _ _ _) in
    let none : lead_in v c.args.at ≡ 0 = sym c.in_default.ensures in
    record { seven = seven; held_value = (lead_inside v seven c.args.at none).1 }

pub returns : goal.returns
returns c =
    let a = c.args in
    let l = a.image.now in
    let t = table_at l in
    let v = c.look_at-view.result in
    let seen : lead_in v a.at ≡ lead_refusal t a.at = lead_seen t a.at no_op v (sym c.look_at-view.ensures) in
    let none : lead_in v a.at ≡ 0 = sym c.in_default.ensures in
    let e = reply_done a.reply t a.at (changed t a.at c.replied-change.result) (sym seen ∙ none) (c.replied-change.ensures.same t (seven_rows l) (sym c.look_at-view.ensures)) in
    let s = c.settle_at.ensures in
    record { result = rw e s.result; table = rw e s.table; count = rw e c.put_ran.ensures; bytes = rw e s.bytes }
