-- One event on the table of an image, so many times.
use Rattle.std.specs.Prelude.{List, cond, ◌&&◌, ℕ, zero, suc}
use Rattle.base.specs.Answer.{number_of}
use Rattle.base.specs.Refusals.{outside_bounds}
use Rattle.bounds.specs.Bounds.{table_fits}
use Rattle.table.specs.declared.table.Table.{Table}
use Rattle.steps.specs.Calls.{Call}
use Rattle.steps.specs.Step.{answer_to}
use Rattle.groups.specs.Cursor.{goes_on}
use Rattle.reading.specs.Events.{Found, event_from}
use Rattle.image.specs.Tables.{table_at, image_known}
use Rattle.calls.specs.Calls.{short, image_long}

-- each time on the table as it was, so that the last answer is that of any time
abbrev pub number_after : ℕ → Table → Call → ℕ
number_after zero t call = 0
number_after (suc times) t call = number_of (answer_to t call)

-- the event at the first byte
abbrev pub first_in : List ℕ → Table → Found
first_in s t = event_from t.config.n s (record { at = 0; refusal = 0 })

abbrev pub read_code : ℕ → Table → Found → ℕ
read_code times t x = cond (goes_on x.cursor) (number_after times t x.call) x.cursor.refusal

unfoldable pub values_code : List ℕ → List ℕ → ℕ → ℕ
values_code image trace times =
    cond (image_long image)
    (cond (image_known image && table_fits (table_at image)) (read_code times (table_at image) (first_in trace (table_at image))) outside_bounds)
    short
