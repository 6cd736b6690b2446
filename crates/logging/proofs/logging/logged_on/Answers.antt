-- `logging::logging::logged_on` meets its contract: lengths first, then the log status, then refusal 8, then bytes that stand for nothing, then the event,
-- in place or on the table.
use mathlib.Core.Path.{◌≡◌, refl, ap, sym, ◌∙◌}
use mathlib.Core.List.{List}
use mathlib.Core.Bool.{Bool, true, false}
use Prim.Native.Nat.{ℕ, ◌≤◌}
use borrow.Author.Tests.{le-leb}
use lib.ListN.{length}
use Rattle.base.proofs.Tests.{passed}
use Rattle.std.proofs.Common.{Result, Ok, Err, cond}
use Rattle.base.specs.LogStatus.{is_status, status_of, status_from}
use Rattle.base.specs.declared.refusals.Refusal.{Refusal}
use Rattle.base.specs.declared.refusals.Refusal.TheVariants.{Unreadable}
use Rattle.base.specs.declared.log_status.LogStatus.{LogStatus}
use Rattle.logged.specs.declared.replies.Reply.TheVariants.{PreAccept, Accept}
use Rattle.table.specs.Place.{place_of}
use Rattle.image.specs.Tables.{table_at, image_known}
use Rattle.logging.specs.Logging.{event_on, log_call, log_long}
use Rattle.logging.proofs.LoggingLaws.{long_each}
use Rattle.logging.proofs.ReplyOnLaws.{reply_called}
use Rattle.logging.proofs.logging.logged_on.Goals as goal

-- a number that stands for a log status
stands : (number : ℕ) (s : LogStatus) → Ok s ≡ status_from number → (is_status number ≡ true) × (s ≡ status_of number)
stands number s e = go (is_status number) refl e
  where
    go : (b : Bool) → is_status number ≡ b → ◌≡◌ {A = Result LogStatus Refusal} (Ok s) (cond b (Ok (status_of number)) (Err Unreadable)) → (is_status number ≡ true) × (s ≡ status_of number)
    go true f g = (f, cc)
    go false f g = absurd (cc)

-- the event by what was logged, where nothing is tested any more
by_status : (row col status : ℕ) (image order ran out : List ℕ) {s : LogStatus} {long known : Bool}
    → long ≡ log_long image ran out → long ≡ true → Ok s ≡ status_from status → 224 ≤ length order → known ≡ image_known image → known ≡ true
    → log_call row col status image order ran out ≡ event_on (place_of row col) s image order ran out
unfolding log_call
by_status row col status image order ran out e f g l i j =
    let h = stands status _ g in
    rw (passed e f, h.0, le-leb _ _ l, passed i j, h.1) refl

pub is_known-requires : goal.is_known-requires
is_known-requires c = (long_each _ _ _ (passed c.is_long.ensures c.if-not-is_long.false)).image_long

pub replied_on-requires : goal.replied_on-requires
replied_on-requires c =
    let h = long_each _ _ _ (passed c.is_long.ensures c.if-not-is_long.false) in
    record { image_len = h.image_long; image_value = passed c.is_known.ensures c.if-not-is_known.false; ran_width_in_bounds = h.ran_long; output_width_in_bounds = h.out_long }

pub replied_on-requires-in-Accepting : goal.replied_on-requires-in-Accepting
replied_on-requires-in-Accepting c =
    let h = long_each _ _ _ (passed c.is_long.ensures c.if-not-is_long.false) in
    record { image_len = h.image_long; image_value = passed c.is_known.ensures c.if-not-is_known.false; ran_width_in_bounds = h.ran_long; output_width_in_bounds = h.out_long }

pub committed_on-requires : goal.committed_on-requires
committed_on-requires c =
    let h = long_each _ _ _ (passed c.is_long.ensures c.if-not-is_long.false) in
    record { image_len = h.image_long; ran_width_in_bounds = h.ran_long; output_width_in_bounds = h.out_long }

pub returns-in-PreAccepting : goal.returns-in-PreAccepting
returns-in-PreAccepting c =
    let a = c.args in
    let h =
    by_status a.row a.col a.status a.image.now a.order.now a.ran.now a.out.now c.is_long.ensures c.if-not-is_long.false (ap Ok (sym c.in-PreAccepting.is) ∙ c.in-Ok.ensures)
    c.if-order-lt224.false c.is_known.ensures c.if-not-is_known.false
    ∙ reply_called PreAccept (table_at a.image.now) (place_of a.row a.col) a.image.now a.order.now a.ran.now a.out.now refl c.if-order-lt224.false
    in
    let w = c.replied_on.ensures in
    record { result = rw h w.result; table = rw h w.table; list = rw h refl; count = rw h w.count; bytes = rw h w.bytes }

pub returns-in-Accepting : goal.returns-in-Accepting
returns-in-Accepting c =
    let a = c.args in
    let h =
    by_status a.row a.col a.status a.image.now a.order.now a.ran.now a.out.now c.is_long.ensures c.if-not-is_long.false (ap Ok (sym c.in-Accepting.is) ∙ c.in-Ok.ensures)
    c.if-order-lt224.false c.is_known.ensures c.if-not-is_known.false
    ∙ reply_called Accept (table_at a.image.now) (place_of a.row a.col) a.image.now a.order.now a.ran.now a.out.now refl c.if-order-lt224.false
    in
    let w = c.replied_on-in-Accepting.ensures in
    record { result = rw h w.result; table = rw h w.table; list = rw h refl; count = rw h w.count; bytes = rw h w.bytes }

pub returns-in-Committed : goal.returns-in-Committed
returns-in-Committed c =
    let a = c.args in
    let h =
    by_status a.row a.col a.status a.image.now a.order.now a.ran.now a.out.now c.is_long.ensures c.if-not-is_long.false (ap Ok (sym c.in-Committed.is) ∙ c.in-Ok.ensures)
    c.if-order-lt224.false c.is_known.ensures c.if-not-is_known.false
    in
    let w = c.committed_on.ensures in
    record { result = rw h w.result; table = rw h w.table; list = rw h w.list; count = rw h w.count; bytes = rw h w.bytes }
