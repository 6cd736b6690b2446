-- One event of a run, as far as it has come; nobody has to believe it, the run is said in Trace.
use Rattle.std.specs.Prelude.{◌≡◌, List, [], true, cond, ℕ, ◌+◌, ◌*◌, ◌-◌, ◌<◌, ◌≤◌, length}
use Rattle.base.specs.declared.answer.Answer.TheVariants.{Refused}
use Rattle.bounds.specs.Bounds.{table_fits}
use Rattle.attempts.specs.Attempt.{unrun}
use Rattle.steps.specs.Step.{answer_to, after, slots_run}
use Rattle.groups.specs.Cursor.{goes_on}
use Rattle.reading.specs.Events.{Found}
use Rattle.reader.specs.Reader.{rest_from}
use Rattle.reader.specs.Next.{Next, next_at}
use Rattle.lines.specs.Line.{line_text}
use Rattle.trace.specs.Trace.{Played, found_at, played_from, said_text}
use Rattle.trace.specs.declared.turn.Run.{Run}

abbrev pub refusal_text : Run → ℕ → List ℕ
refusal_text run refusal = line_text (run.events + 1) (Refused refusal) []

-- at the trace's end, which is size
abbrev pub stopped_run : ℕ → Run → ℕ → Run
stopped_run size run refusal =
    record {
      table = run.table;
      at = size;
      rest = 0;
      events = run.events + 1;
      end = run.end + length (refusal_text run refusal);
    }

abbrev pub event_text : Run → Found → List ℕ
event_text run x = line_text (run.events + 1) (answer_to run.table x.call) (slots_run run.table x.call)

abbrev pub went_on : List ℕ → Run → Found → Run
went_on s run x =
    record {
      table = after run.table x.call;
      at = x.cursor.at;
      rest = rest_from s x.cursor.at;
      events = run.events + 1;
      end = run.end + length (event_text run x);
    }

abbrev pub found_by : List ℕ → Run → Found
found_by s run = found_at s run.table run.at

-- as it is read
abbrev pub next_by : List ℕ → Run → Next
next_by s run = next_at run.table.config.n s run.at

unfoldable pub turn_of : List ℕ → Run → Run
turn_of s run =
    cond (goes_on (found_by s run).cursor) (went_on s run (found_by s run)) (stopped_run (length s) run (found_by s run).cursor.refusal)

unfoldable pub turn_text : List ℕ → Run → List ℕ
turn_text s run =
    cond (goes_on (found_by s run).cursor) (event_text run (found_by s run)) (refusal_text run (found_by s run).cursor.refusal)

-- ---- what is left of a run

abbrev pub left_of : List ℕ → Run → Played
left_of s run = played_from (length s - run.events) s run.table run.at

abbrev pub left_text : List ℕ → Run → List ℕ
left_text s run = said_text (run.events + 1) (left_of s run).said

-- a run that can go on: 19 bytes of text for each byte that is left, 5 for each slot that has not run, and a line
pub record Going (s : List ℕ) (room : ℕ) (run : Run) : Type 0 where
  pub rows : length run.table.lens ≡ 7
  pub columns : length run.table.keys.cols ≡ 256
  pub fits : table_fits run.table ≡ true
  pub rest : run.rest ≡ rest_from s run.at
  pub counted : run.events ≤ run.at
  pub bars : run.end + 100 ≤ room
  pub line : run.at < length s → run.end + 19 * (length s - run.at) + 5 * unrun run.table + 1300 ≤ room

-- one that is over
pub record Ended (s : List ℕ) (begun : Run) (room : ℕ) (run : Run) : Type 0 where
  pub table : run.table ≡ (left_of s begun).table
  pub end : run.end ≡ begun.end + length (left_text s begun)
  pub fits : table_fits run.table ≡ true
  pub bars : run.end + 100 ≤ room
