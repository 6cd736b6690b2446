-- That the room for the text is enough: an event takes at least three bytes of the trace, its line at most 50 of the text and 5
-- for each slot run, and a slot that runs does not wait any more.
use mathlib.Core.Path.{◌≡◌, refl}
use mathlib.Core.List.{List, []}
use mathlib.Core.Bool.{Bool, true, false, cond}
use Prim.Native.Nat.{ℕ, ◌+◌, ◌*◌, ◌<◌, ◌≤◌}
use native.Mathlib.Omega.{arith}
use borrow.Author.Tests.{eqb-true}
use lib.ListN.{length}
use Rattle.base.specs.declared.answer.Answer.TheVariants.{Refused}
use Rattle.bounds.proofs.BoundLaws.{table_fits_each}
use Rattle.steps.specs.Step.{answer_to, slots_run}
use Rattle.steps.proofs.KeepLaws.{step_sized, step_keeps}
use Rattle.steps.proofs.RoomLaws.{step_room, ran_most, slots_run_lem, slots_run_byte}
use Rattle.groups.specs.Numbers.{Bytes}
use Rattle.groups.specs.Cursor.{goes_on}
use Rattle.reading.specs.Events.{Found}
use Rattle.reading.proofs.FormatLaws.{event_takes}
use Rattle.lines.proofs.RoomLaws.{line_room}
use Rattle.trace.specs.Turn.{refusal_text, stopped_run, event_text, went_on, found_by, turn_of, turn_text, Going}
use Rattle.trace.specs.declared.turn.Run.{Run}

pub refusal_room : (run : Run) (refusal : ℕ) → length (refusal_text run refusal) ≤ 50
refusal_room run refusal = line_room (run.events + 1) (Refused refusal) [] (λ i l. absurd (omega arith))

event_room : (run : Run) (x : Found) → length (event_text run x) ≤ 50 + 5 * length (slots_run run.table x.call)
event_room run x =
    line_room (run.events + 1) (answer_to run.table x.call) (slots_run run.table x.call) (λ i l. slots_run_byte run.table x.call i)

-- no line is longer
pub turn_room : (s : List ℕ) (run : Run) → length (turn_text s run) ≤ 1170
unfolding turn_text
turn_room s run = go (goes_on (found_by s run).cursor)
  where
    go : (b : Bool) → length (cond b (event_text run (found_by s run)) (refusal_text run (found_by s run).cursor.refusal)) ≤ 1170
    go true =
        let t = run.table in
        let k = (found_by s run).call in
        omega (arith, event_room run (found_by s run), slots_run_lem t k, ran_most t k)
    go false = omega (arith, refusal_room run (found_by s run).cursor.refusal)

module _ (s : List ℕ) (bytes : Bytes s) (room : ℕ) (run : Run) (w : Going s room run) (h : run.at < length s) where
  goes_on_lem : (found_by s run).cursor.refusal ≡ 0 → Going s room (went_on s run (found_by s run))
  goes_on_lem z =
      let t = run.table in
      let k = (found_by s run).call in
      let within = (table_fits_each t w.fits).config_fits in
      let takes = event_takes s bytes t.config.n within.seven (record { at = run.at; refusal = 0 }) z in
      let sized = step_sized t k (record { rows = w.rows; columns = w.columns }) in
      let text = event_room run (found_by s run) in
      let long = slots_run_lem t k in
      let most = ran_most t k in
      let waits = step_room t k in
      let line = w.line h in
      let counted = w.counted in
      record {
        rows = sized.rows;
        columns = sized.columns;
        fits = step_keeps t k (record { rows = w.rows; columns = w.columns }) w.fits;
        rest = refl;
        counted = omega arith;
        bars = omega arith;
        line = λ l. omega arith;
      }

  stops : (refusal : ℕ) → Going s room (stopped_run (length s) run refusal)
  stops refusal =
      let text = refusal_room run refusal in
      let line = w.line h in
      let counted = w.counted in
      record {
        rows = w.rows;
        columns = w.columns;
        fits = w.fits;
        rest = omega arith;
        counted = omega arith;
        bars = omega arith;
        line = λ l. absurd (omega arith);
      }

  pub going_turn : Going s room (turn_of s run)
  unfolding turn_of
  going_turn = go (goes_on (found_by s run).cursor) refl
    where
      go : (b : Bool) → goes_on (found_by s run).cursor ≡ b
          → Going s room (cond b (went_on s run (found_by s run)) (stopped_run (length s) run (found_by s run).cursor.refusal))
      go true e = goes_on_lem (eqb-true (found_by s run).cursor.refusal 0 e)
      go false e = stops (found_by s run).cursor.refusal

  at_or : (b : Bool) → goes_on (found_by s run).cursor ≡ b
      → run.at < (cond b (went_on s run (found_by s run)) (stopped_run (length s) run (found_by s run).cursor.refusal)).at
  at_or true e =
      let within = (table_fits_each run.table w.fits).config_fits in
      omega (arith, (event_takes s bytes run.table.config.n within.seven (record { at = run.at; refusal = 0 }) (eqb-true (found_by s run).cursor.refusal 0 e)).0)
  at_or false e = h

  -- each event brings the run further
  pub at_rises : run.at < (turn_of s run).at
  unfolding turn_of
  at_rises = at_or (goes_on (found_by s run).cursor) refl
