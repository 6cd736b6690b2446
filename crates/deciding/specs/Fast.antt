-- The fast decision on slices.
use Rattle.std.specs.Prelude.{List, Bool, false, ◌&&◌, ℕ, ltb, drop}
use Rattle.base.specs.declared.config.Config.{Config}
use Rattle.votes.specs.declared.answer.Decision.{Decision}
use Rattle.decisions.specs.Fast.{fast_answer}
use Rattle.octets.specs.Marks.{mark_of, marks_at}
use Rattle.calls.specs.Calls.{enough}
use Rattle.passed.specs.Slices.{marks_known}
use Rattle.passed.specs.Sevens.{words_at, sets_at}
use Rattle.deciding.specs.Answers.{contents_width, if_known, code_if, bytes_if}

unfoldable pub fast_long : List ℕ → List ℕ → List ℕ → Bool
fast_long replies silent out = enough 112 replies && (enough 7 silent && enough (contents_width false) out)

-- avoided and every mark is 0 or 1
abbrev pub fast_known : ℕ → List ℕ → List ℕ → Bool
fast_known avoided replies silent = ltb avoided 2 && (marks_known replies && marks_known silent)

-- the replies: 7 marks, 7 sequences of 8 bytes, 7 dependency sets of 7
abbrev pub fast_read : Config → ℕ → List ℕ → List ℕ → Decision
fast_read c avoided replies silent =
    fast_answer c (mark_of avoided) (marks_at replies) (words_at (drop 7 replies)) (sets_at (drop 63 replies)) (marks_at silent)

unfoldable pub fast_decided : Config → ℕ → List ℕ → List ℕ → Decision
fast_decided c avoided replies silent = if_known (fast_known avoided replies silent) (fast_read c avoided replies silent)

abbrev pub fast_code : Config → ℕ → List ℕ → List ℕ → List ℕ → ℕ
fast_code c avoided replies silent out = code_if (fast_long replies silent out) (fast_decided c avoided replies silent)

abbrev pub fast_bytes : Config → ℕ → List ℕ → List ℕ → List ℕ → List ℕ
fast_bytes c avoided replies silent out = bytes_if (fast_long replies silent out) false (fast_decided c avoided replies silent) out
