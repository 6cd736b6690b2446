-- The attempt on an image: the table read, the attempt, the table and the number of slots run written.
use Rattle.std.specs.Prelude.{List, Bool, cond, ◌&&◌, ℕ, leb, length}
use Rattle.base.specs.Answer.{number_of}
use Rattle.base.specs.Refusals.{short_order, outside_bounds}
use Rattle.base.specs.declared.answer.Answer.{Answer}
use Rattle.table.specs.Place.{place_of}
use Rattle.layout.specs.Numbers.{word_bytes}
use Rattle.image.specs.Tables.{table_at, image_known}
use Rattle.attempts.specs.Attempt.{attempt_of, attempt_order}
use Rattle.attempts.specs.declared.attempt.Attempted.{Attempted}
use Rattle.calls.specs.Calls.{short, enough, image_long, image_with, laid_with}

-- the number that a call returns, and what it leaves in the image, the order list and ran
pub record AttemptCalled : Type 0 where
  pub code : ℕ
  pub image : List ℕ
  pub order : List ℕ
  pub ran : List ℕ

abbrev pub unchanged : ℕ → List ℕ → List ℕ → List ℕ → AttemptCalled
unchanged code image order ran = record { code = code; image = image; order = order; ran = ran }

-- the number of slots run, a word
abbrev pub ran_width : ℕ
ran_width = 8

-- how many slots have run; a refusal writes nothing
abbrev pub settled_ran : Answer → ℕ → List ℕ → List ℕ
settled_ran answer many ran = laid_with answer (word_bytes many) ran

abbrev pub settled : Attempted → List ℕ → List ℕ → List ℕ → AttemptCalled
settled a image order ran =
    record { code = number_of a.answer; image = image_with a.answer a.table image; order = order; ran = settled_ran a.answer a.ran ran }

-- the attempt on the table that the image is
abbrev pub on_table : ℕ → ℕ → List ℕ → List ℕ → List ℕ → AttemptCalled
on_table row col image order ran =
    settled (attempt_of (table_at image) (place_of row col) (length order)) image (attempt_order (table_at image) (place_of row col) order) ran

unfoldable pub attempt_long : List ℕ → List ℕ → Bool
attempt_long image ran = image_long image && enough ran_width ran

-- lengths first; then refusal 8, which comes before a byte that stands for nothing; then the attempt
unfoldable pub attempt_call : ℕ → ℕ → List ℕ → List ℕ → List ℕ → AttemptCalled
attempt_call row col image order ran =
    cond (attempt_long image ran)
    (cond (leb 224 (length order))
    (cond (image_known image) (on_table row col image order ran) (unchanged outside_bounds image order ran))
    (unchanged short_order image order ran))
    (unchanged short image order ran)
