-- A trace: what each event is answered and which slots it runs, the table after the last, and the text that says so.
use Rattle.std.specs.Prelude.{List, [], ◌∷◌, ◌++◌, cond, ℕ, zero, suc, ltb, leb, length}
use Rattle.base.specs.Refusals.{outside_bounds, too_long}
use Rattle.base.specs.Config.{config_fits}
use Rattle.base.specs.declared.answer.Answer.{Answer}
use Rattle.base.specs.declared.answer.Answer.TheVariants.{Refused}
use Rattle.base.specs.declared.config.Config.{Config}
use Rattle.table.specs.Table.{empty_table}
use Rattle.table.specs.declared.table.Table.{Table}
use Rattle.steps.specs.Calls.{Call}
use Rattle.steps.specs.Step.{answer_to, after, slots_run}
use Rattle.groups.specs.Cursor.{goes_on}
use Rattle.reading.specs.Events.{header_of, Found, event_from}
use Rattle.reading.specs.Events.{HeaderRead}
use Rattle.lines.specs.Line.{line_text}
use Rattle.lines.specs.Bars.{bars_text}

-- ---- the events

-- what is said of an event
pub record Said : Type 0 where
  pub answer : Answer
  pub slots : List ℕ

abbrev pub said_of : Table → Call → Said
said_of t call = record { answer = answer_to t call; slots = slots_run t call }

abbrev pub refused_with : ℕ → Said
refused_with number = record { answer = Refused number; slots = [] }

-- what is said of events in their order, and the table after them
pub record Played : Type 0 where
  pub said : List Said
  pub table : Table

abbrev pub ended : Table → Played
ended t = record { said = []; table = t }

abbrev pub first : Said → Played → Played
first x p = record { said = x ∷ p.said; table = p.table }

-- the event at a place
abbrev pub found_at : List ℕ → Table → ℕ → Found
found_at s t at = event_from t.config.n s (record { at = at; refusal = 0 })

-- from a place on, at most so many; after a 9 or 10 the rest is not read
unfoldable pub played_from : ℕ → List ℕ → Table → ℕ → Played
played_from zero s t at = ended t
played_from (suc many) s t at =
    cond (ltb at (length s))
    (cond (goes_on (found_at s t at).cursor)
    (first (said_of t (found_at s t at).call) (played_from many s (after t (found_at s t at).call) (found_at s t at).cursor.at))
    (first (refused_with (found_at s t at).cursor.refusal) (ended t)))
    (ended t)

-- ---- a whole trace: refused, or played from an empty table on; it has no more events than bytes

pub data Trace : Type 0 where
  refused : ℕ → Trace
  played : Played → Trace

-- from a place on
abbrev pub opened_trace : List ℕ → Config → ℕ → Trace
opened_trace s config at = played (played_from (length s) s (empty_table config) at)

abbrev pub from_config : List ℕ → HeaderRead → Trace
from_config s h = cond (config_fits h.config) (opened_trace s h.config h.cursor.at) (refused outside_bounds)

abbrev pub from_header : List ℕ → HeaderRead → Trace
from_header s h = cond (goes_on h.cursor) (from_config s h) (refused h.cursor.refusal)

unfoldable pub trace_of : List ℕ → Trace
trace_of s = cond (leb (length s) 65536) (from_header s (header_of s)) (refused too_long)

-- ---- its text: a line for each event, numbered on from a number, and then the bars

unfoldable pub said_text : ℕ → List Said → List ℕ
said_text number [] = []
said_text number (x ∷ rest) = line_text number x.answer x.slots ++ said_text (suc number) rest

abbrev pub refused_text : ℕ → List ℕ
refused_text number = line_text 0 (Refused number) []

abbrev pub text_of : Trace → List ℕ
text_of (refused number) = refused_text number
text_of (played p) = said_text 1 p.said ++ bars_text p.table
