-- What the functions that read a trace answer, by what is read of it.
use Rattle.std.specs.Prelude.{◌≡◌, ℕ, List, Result, Ok, Err}
use Rattle.std.specs.Borrow.{Bor}
use Rattle.base.specs.Refusals.{refusal_number}
use Rattle.base.specs.declared.refusals.Refusal.{Refusal}
use Rattle.groups.specs.Numbers.{Cursor, Number, read, stopped}
use Rattle.groups.specs.declared.numbers.Number as Held
use Rattle.groups.specs.declared.cursor.Cursor as Reader

-- a number at a place
abbrev pub numbered : Result Held.Number Refusal → Number
numbered (Ok n) = read n.value n.next
numbered (Err refusal) = stopped (refusal_number refusal)

-- the place of a cursor, or the refusal that it met
abbrev pub standing : Result ℕ Refusal → Cursor
standing (Ok at) = record { at = at; refusal = 0 }
standing (Err refusal) = record { at = 0; refusal = refusal_number refusal }

abbrev pub cursor_on : Bor (List ℕ) → ℕ → Reader.Cursor
cursor_on trace at = record { trace = trace; place = Ok at }

-- the value, where nothing was refused, or the refusal
abbrev pub Tells : {A : Type 0} → Result A Refusal → A → ℕ → Type 0
Tells (Ok answer) value refusal = (answer ≡ value) × (refusal ≡ 0)
Tells (Err answer) value refusal = refusal ≡ refusal_number answer

-- a cursor that was read from: its trace is the same, it stands after what was read or at the refusal, and that is told
pub record Took {A : Type 0} (before : Reader.Cursor) (answer : Result A Refusal) (now : Reader.Cursor) (value : A) (next : Cursor) : Type 0 where
  pub trace : now.trace ≡ before.trace
  pub place : standing now.place ≡ next
  pub told : Tells answer value next.refusal
