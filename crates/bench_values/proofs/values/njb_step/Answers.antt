-- The image's length, its bytes, the bounds, what is read of the trace, and then the event.
use mathlib.Core.Path.{◌≡◌, refl, sym, ◌∙◌}
use mathlib.Core.List.{List}
use mathlib.Core.Bool.{true}
use Prim.Native.Nat.{ℕ}
use native.Mathlib.Omega.{arith}
use borrow.Author.Tests.{eq-eqb, ne_eqb}
use Rattle.base.proofs.Tests.{passed, failed}
use Rattle.bounds.specs.Bounds.{table_fits}
use Rattle.bounds.proofs.BoundLaws.{table_fits_each}
use Rattle.calls.specs.Calls.{image_long}
use Rattle.image.specs.Tables.{table_at, image_known}
use Rattle.groups.proofs.ToldLaws.{refusal_some}
use Rattle.reading.specs.Events.{event_in}
use Rattle.bench_values.specs.Values.{first_in, read_code, values_code}
use Rattle.bench_values.proofs.ValuesLaws.{unread, read_on}
use Rattle.bench_values.proofs.values.njb_step.Goals as goal

-- the table is within the bounds, and what is read of the trace decides
past : (image trace : List ℕ) (times : ℕ) → image_long image ≡ true → image_known image ≡ true → table_fits (table_at image) ≡ true
    → values_code image trace times ≡ read_code times (table_at image) (first_in trace (table_at image))
unfolding values_code
past image trace times long known fits = rw (long, known, fits)

pub returns-then-image-ne-WIDTH : goal.returns-then-image-ne-WIDTH
unfolding values_code
returns-then-image-ne-WIDTH c = rw (ne_eqb _ _ c.if-image-ne-WIDTH.true)

pub returns-then-not-is_known : goal.returns-then-not-is_known
unfolding values_code
returns-then-not-is_known c = rw (c.number.ensures, eq-eqb _ _ c.if-image-ne-WIDTH.false, failed c.is_known.ensures c.if-not-is_known.true)

pub returns-then-not-fits : goal.returns-then-not-fits
unfolding values_code
returns-then-not-fits c =
    let f = rw c.table_at-table.ensures at (failed c.fits.ensures c.if-not-fits.true) in
    rw (c.number-then-not-fits.ensures, eq-eqb _ _ c.if-image-ne-WIDTH.false, passed c.is_known.ensures c.if-not-is_known.false, f)

pub event-requires : goal.event-requires
event-requires c = (table_fits_each c.table_at-table.result (passed c.fits.ensures c.if-not-fits.false)).config_fits.seven

pub returns-in-Err : goal.returns-in-Err
returns-in-Err c =
    let a = c.args in
    let t = table_at a.image.now in
    let fits = rw c.table_at-table.ensures at (passed c.fits.ensures c.if-not-fits.false) in
    let told = rw (c.table_at-table.ensures, c.on-cursor.ensures) at c.in-Err.ensures.told in
    rw (c.number-in-Err.ensures, ← told)
    (unread t a.trace.now (event_in (first_in a.trace.now t)) refl a.times (omega (arith, told, refusal_some c.in-Err.refusal))
    ∙ sym (past a.image.now a.trace.now a.times (eq-eqb _ _ c.if-image-ne-WIDTH.false) (passed c.is_known.ensures c.if-not-is_known.false) fits))

pub returns-in-Ok : goal.returns-in-Ok
returns-in-Ok c =
    let a = c.args in
    let t = table_at a.image.now in
    let fits = rw c.table_at-table.ensures at (passed c.fits.ensures c.if-not-fits.false) in
    let told = rw (c.table_at-table.ensures, c.on-cursor.ensures) at c.in-Ok.ensures.told in
    let made = rw (c.table_at-table.ensures, told.0) at c.again.ensures in
    read_on t a.trace.now (event_in (first_in a.trace.now t)) refl a.times c.again.result told.1 made
    ∙ sym (past a.image.now a.trace.now a.times (eq-eqb _ _ c.if-image-ne-WIDTH.false) (passed c.is_known.ensures c.if-not-is_known.false) fits)
