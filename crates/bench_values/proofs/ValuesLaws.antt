-- What is answered after so many times; and once the table is read, by what is read of the trace.
use mathlib.Core.Path.{◌≡◌, refl, ap, sym, ◌∙◌}
use mathlib.Core.List.{List}
use Prim.Native.Nat.{ℕ, zero, suc, ◌<◌}
use native.Mathlib.Omega.{arith}
use borrow.Author.Tests.{eq-eqb, ne_eqb}
use Rattle.base.specs.Answer.{number_of}
use Rattle.table.specs.declared.table.Table.{Table}
use Rattle.logged.specs.declared.logged.LogOutcome.{LogOutcome}
use Rattle.steps.specs.Calls.{Call, call_of}
use Rattle.steps.specs.Step.{answer_to}
use Rattle.reading.specs.Held.{held}
use Rattle.reading.specs.Events.{event_in}
use Rattle.reading.specs.Events.{EventRead}
use Rattle.reading.proofs.HeldLaws.{call_back, read_held}
use Rattle.bench_values.specs.Values.{number_after, first_in, read_code}

pub after_some : (t : Table) (call : Call) (times : ℕ) → (times ≡ 0 → ⊥) → number_after times t call ≡ number_of (answer_to t call)
after_some t call zero h = absurd (h refl)
after_some t call (suc times) h = refl

module _ (t : Table) (s : List ℕ) (r : EventRead) (e : r ≡ event_in (first_in s t)) where
  refusal_is : (first_in s t).cursor.refusal ≡ r.cursor.refusal
  refusal_is = rw e

  pub unread : (times : ℕ) → 0 < r.cursor.refusal → r.cursor.refusal ≡ read_code times t (first_in s t)
  unread times h =
      let n = ne_eqb (first_in s t).cursor.refusal 0 (λ z. omega (arith, refusal_is)) in
      rw n (sym refusal_is)

  call_is : call_of r.event ≡ held (first_in s t).call
  call_is = rw e (call_back (held (first_in s t).call))

  -- what the values that are held do is what the numbers of the trace do
  number_held : (times : ℕ) → number_after times t (held (first_in s t).call) ≡ number_after times t (first_in s t).call
  number_held zero = refl
  number_held (suc times) =
      ap (λ (d : LogOutcome). number_of d.outcome.answer) (read_held t.config.n s (record { at = 0; refusal = 0 }) t 224)

  pub read_on : (times x : ℕ) → r.cursor.refusal ≡ 0 → x ≡ number_after times t (call_of r.event) → x ≡ read_code times t (first_in s t)
  read_on times x h f =
      let z = eq-eqb (first_in s t).cursor.refusal 0 (refusal_is ∙ h) in
      rw z (rw call_is at f ∙ number_held times)
