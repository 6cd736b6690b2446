-- The next event of a trace, the place after it and what is left there.
use Rattle.std.specs.Prelude.{◌≡◌, List, ℕ}
use Rattle.steps.specs.declared.event.Event.{Event}
use Rattle.groups.specs.Told.{Tells}
use Rattle.reading.specs.Events.{EventRead}
use Rattle.reader.specs.Reader.{event_at, place_after, rest_from}
use Rattle.reader.specs.declared.next.Next as Held

-- what was read, the refusal, of which 0 is none, the place of what comes next, and how many bytes there are from there on; with a
-- refusal the event stands for nothing, and the place is the trace's end
pub record Next : Type 0 where
  pub event : Event
  pub refusal : ℕ
  pub at : ℕ
  pub rest : ℕ

abbrev pub next_of : EventRead → ℕ → ℕ → Next
next_of x at rest = record { event = x.event; refusal = x.cursor.refusal; at = at; rest = rest }

-- at: where what was read has its end
abbrev pub ended_at : List ℕ → EventRead → ℕ → Next
ended_at s x at = next_of x at (rest_from s at)

abbrev pub next_read : List ℕ → EventRead → Next
next_read s x = ended_at s x (place_after s x.cursor)

-- n: the population
unfoldable pub next_at : ℕ → List ℕ → ℕ → Next
next_at n s at = next_read s (event_at n s at)

-- a `Next` of the code: the event or the refusal, and of either the place and what is left
pub record NextTold (told : Held.Next) (x : Next) : Type 0 where
  pub event : Tells told.event x.event x.refusal
  pub at : told.at ≡ x.at
  pub rest : told.rest ≡ x.rest
