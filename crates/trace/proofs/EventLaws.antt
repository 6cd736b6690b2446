-- One event of a run as it is read, done and written: what each return of a turn says.
use mathlib.Core.Path.{◌≡◌, ap, ◌∙◌}
use mathlib.Core.List.{List}
use Prim.Native.Nat.{ℕ, ◌+◌, ◌<◌, ◌≤◌}
use native.Mathlib.Omega.{arith}
use borrow.Author.Tests.{eq-eqb, ne_eqb}
use lib.ListN.{length, take, replicate, length-take}
use Rattle.logged.specs.declared.logged.LogOutcome.{LogOutcome}
use Rattle.steps.specs.Calls.{call_of}
use Rattle.steps.specs.Step.{step_of, step_order}
use Rattle.steps.proofs.RoomLaws.{slots_run_lem}
use Rattle.reading.specs.Held.{held}
use Rattle.reader.specs.Reader.{rest_from}
use Rattle.reader.specs.Next.{Next, next_at}
use Rattle.reading.proofs.HeldLaws.{call_back, read_held, read_held_order}
use Rattle.lines.specs.Line.{line_text}
use Rattle.trace.specs.Turn.{refusal_text, stopped_run, event_text, found_by, next_by, turn_of, turn_text}
use Rattle.trace.specs.declared.turn.Run.{Run}

module _ (s : List ℕ) (run : Run) (r : Next) (e : r ≡ next_by s run) where
  found_refusal : (found_by s run).cursor.refusal ≡ r.refusal
  unfolding next_at
  found_refusal = rw e

  -- ---- an event that cannot be read

  pub turn_stopped : 0 < r.refusal → (x : Run) → x ≡ stopped_run r.at run r.refusal → x ≡ turn_of s run
  unfolding turn_of next_at
  turn_stopped h x f =
      let n = ne_eqb (found_by s run).cursor.refusal 0 (λ z. omega (arith, found_refusal)) in
      let at-end : r.at ≡ length s = rw (e, n) in
      rw (n, found_refusal, ← at-end) f

  pub text_stopped : 0 < r.refusal → refusal_text run r.refusal ≡ turn_text s run
  unfolding turn_text
  text_stopped h =
      let n = ne_eqb (found_by s run).cursor.refusal 0 (λ z. omega (arith, found_refusal)) in
      rw (n, found_refusal)

  -- ---- one that can

  call_is : call_of r.event ≡ held (found_by s run).call
  unfolding next_at
  call_is = rw e (call_back (held (found_by s run).call))

  module _ (did : LogOutcome) (order : List ℕ) (d : did ≡ step_of run.table (call_of r.event) 224)
      (o : order ≡ step_order run.table (call_of r.event) (replicate 224 0)) where
    did_is : did ≡ step_of run.table (found_by s run).call 224
    did_is =
        rw call_is at d ∙ read_held run.table.config.n s (record { at = run.at; refusal = 0 }) run.table 224

    order_is : order ≡ step_order run.table (found_by s run).call (replicate 224 0)
    order_is =
        rw call_is at o ∙ read_held_order run.table.config.n s (record { at = run.at; refusal = 0 }) run.table (replicate 224 0)

    -- the list has all that ran
    pub ran_fits : did.ran ≤ length order
    ran_fits =
        let t = run.table in
        let k = (found_by s run).call in
        rw (order_is, did_is) (omega (arith, length-take (step_of t k 224).ran (step_order t k (replicate 224 0)), slots_run_lem t k))

    pub line_is : line_text (run.events + 1) did.outcome.answer (take did.ran order) ≡ event_text run (found_by s run)
    line_is = rw (order_is, did_is)

    module _ (h : r.refusal ≡ 0) where
      pub text_went : line_text (run.events + 1) did.outcome.answer (take did.ran order) ≡ turn_text s run
      unfolding turn_text
      text_went = rw (eq-eqb (found_by s run).cursor.refusal 0 (found_refusal ∙ h)) line_is

      pub turn_went : (end : ℕ) → end ≡ run.end + length (line_text (run.events + 1) did.outcome.answer (take did.ran order))
          → record { table = did.outcome.table; at = r.at; rest = r.rest; events = run.events + 1; end = end } ≡ turn_of s run
      unfolding turn_of next_at
      turn_went end f =
          let g : end ≡ run.end + length (event_text run (found_by s run)) = f ∙ ap (λ (l : List ℕ). run.end + length l) line_is in
          let z = eq-eqb (found_by s run).cursor.refusal 0 (found_refusal ∙ h) in
          let at : r.at ≡ (found_by s run).cursor.at = rw (e, z) in
          let rest : r.rest ≡ rest_from s (found_by s run).cursor.at = rw (e, z) in
          rw (z, g, did_is, at, rest)
