-- A log event on an image: the table read, the event, then the table, what goes out and the number of slots run written.
use Rattle.std.specs.Prelude.{List, Bool, cond, ◌&&◌, ℕ, leb, length}
use Rattle.base.specs.Refusals.{unreadable, short_order, outside_bounds}
use Rattle.base.specs.declared.log_status.LogStatus.{LogStatus}
use Rattle.table.specs.Place.{place_of}
use Rattle.table.specs.declared.place.Place.{Place}
use Rattle.table.specs.declared.table.Table.{Table}
use Rattle.outcomes.specs.Refusal.{lead_refusal}
use Rattle.image.specs.Tables.{table_at, image_known}
use Rattle.output_bytes.specs.Output.{output_width}
use Rattle.base.specs.LogStatus.{is_status, status_of}
use Rattle.logged.specs.Logged.{reply_status, logged_or, logged_of, logged_order}
use Rattle.logged.specs.declared.logged.LogOutcome.{LogOutcome}
use Rattle.logged.specs.declared.replies.Reply.{Reply}
use Rattle.calls.specs.Calls.{short, enough, image_long, settled}
use Rattle.attempting.specs.Attempting.{ran_width, settled_ran}

-- the number that a call returns, and what it leaves in the image, the order list, ran and out
pub record LogCalled : Type 0 where
  pub code : ℕ
  pub image : List ℕ
  pub order : List ℕ
  pub ran : List ℕ
  pub out : List ℕ

abbrev pub unchanged : ℕ → List ℕ → List ℕ → List ℕ → List ℕ → LogCalled
unchanged code image order ran out = record { code = code; image = image; order = order; ran = ran; out = out }

-- a refusal writes nothing
abbrev pub settled_log : LogOutcome → List ℕ → List ℕ → List ℕ → List ℕ → LogCalled
settled_log l image order ran out =
    record {
      code = (settled l.outcome image out).code;
      image = (settled l.outcome image out).image;
      order = order;
      ran = settled_ran l.outcome.answer l.ran ran;
      out = (settled l.outcome image out).out;
    }

-- the event on the table that the image is
abbrev pub event_on : Place → LogStatus → List ℕ → List ℕ → List ℕ → List ℕ → LogCalled
event_on at status image order ran out =
    settled_log (logged_of (table_at image) at status (length order)) image (logged_order (table_at image) at status order) ran out

abbrev pub on_table : ℕ → ℕ → ℕ → List ℕ → List ℕ → List ℕ → List ℕ → LogCalled
on_table row col status image order ran out = event_on (place_of row col) (status_of status) image order ran out

-- one where only replies go out, with an order list that is long enough
abbrev pub reply_on : Reply → Table → Place → LogOutcome
reply_on reply t at = logged_or (lead_refusal t at) (reply_status reply) t at

unfoldable pub log_long : List ℕ → List ℕ → List ℕ → Bool
log_long image ran out = image_long image && (enough ran_width ran && enough output_width out)

-- lengths first; then a number that stands for no log status; then refusal 8, which comes before a byte that stands for nothing; then the event
unfoldable pub log_call : ℕ → ℕ → ℕ → List ℕ → List ℕ → List ℕ → List ℕ → LogCalled
log_call row col status image order ran out =
    cond (log_long image ran out)
    (cond (is_status status)
    (cond (leb 224 (length order))
    (cond (image_known image) (on_table row col status image order ran out) (unchanged outside_bounds image order ran out))
    (unchanged short_order image order ran out))
    (unchanged unreadable image order ran out))
    (unchanged short image order ran out)
