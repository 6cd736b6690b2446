-- A trace and a place in it: the event that stands there, the place of what comes next, and how much comes.
use Rattle.std.specs.Prelude.{List, cond, ℕ, ◌-◌, length}
use Rattle.std.specs.Borrow.{Bor}
use Rattle.groups.specs.Numbers.{Cursor}
use Rattle.groups.specs.Cursor.{goes_on}
use Rattle.groups.specs.Told.{cursor_on}
use Rattle.reading.specs.Events.{EventRead, event_from, event_in}
use Rattle.reader.specs.declared.reader.Reader.{Reader}

-- n: the population
abbrev pub event_at : ℕ → List ℕ → ℕ → EventRead
event_at n s at = event_in (event_from n s (record { at = at; refusal = 0 }))

-- after a refusal the rest is not read: the trace's end
abbrev pub place_after : List ℕ → Cursor → ℕ
place_after s c = cond (goes_on c) c.at (length s)

-- the bytes from a place on
abbrev pub rest_from : List ℕ → ℕ → ℕ
rest_from s at = length s - at

abbrev pub reader_on : Bor (List ℕ) → ℕ → Reader
reader_on trace at = record { cursor = cursor_on trace at }
