-- The recovery choices on slices.
use Rattle.std.specs.Prelude.{List, Bool, true, ◌&&◌, ℕ, ◌+◌, ◌*◌, drop}
use Rattle.base.specs.Below.{all_below}
use Rattle.base.specs.declared.config.Config.{Config}
use Rattle.votes.specs.declared.answer.Decision.{Decision}
use Rattle.recovering.specs.Recovery.{choice_answer}
use Rattle.recovering.specs.declared.recovery.Prepare.{Prepare}
use Rattle.recovering.specs.declared.recovery.Rule.{Rule}
use Rattle.octets.specs.Marks.{marks_at}
use Rattle.octets.specs.Known.{each_below}
use Rattle.calls.specs.Calls.{enough}
use Rattle.passed.specs.Slices.{marks_known}
use Rattle.passed.specs.Sevens.{words_at, sets_at, statuses_at, batches_at}
use Rattle.deciding.specs.Answers.{contents_width, if_known, code_if, bytes_if}

abbrev pub prepare_of : ℕ → ℕ → ℕ → Prepare
prepare_of row highest default = record { row = row; highest = highest; default = default }

unfoldable pub choice_long : List ℕ → List ℕ → List ℕ → Bool
choice_long acks votes out = enough 7 acks && (enough 882 votes && enough (contents_width true) out)

-- a batch's kinds are 27 bytes apart, the first at 17: each is 0, 1 or 2
abbrev pub kinds_in : List ℕ → ℕ → Bool
kinds_in votes i = each_below 4 27 3 (drop (119 + 109 * i + 17) votes)

unfoldable pub kinds_known : List ℕ → Bool
kinds_known votes = all_below 7 (kinds_in votes)

-- every mark is 0 or 1, every status 0 to 4, every kind 0 to 2
abbrev pub votes_known : List ℕ → List ℕ → Bool
votes_known acks votes = marks_known acks && (marks_known votes && (each_below 7 1 5 (drop 7 votes) && kinds_known votes))

-- the votes: 7 marks, 7 statuses, 7 sequences of 8 bytes, 7 dependency sets of 7, 7 batches of 109
abbrev pub choice_read : Rule → Config → Prepare → List ℕ → List ℕ → Decision
choice_read rule c p acks votes =
    choice_answer rule c p (marks_at acks) (marks_at votes) (statuses_at (drop 7 votes)) (words_at (drop 14 votes)) (sets_at (drop 70 votes)) (batches_at (drop 119 votes))

unfoldable pub choice_decided : Rule → Config → Prepare → List ℕ → List ℕ → Decision
choice_decided rule c p acks votes = if_known (votes_known acks votes) (choice_read rule c p acks votes)

abbrev pub choice_code : Rule → Config → Prepare → List ℕ → List ℕ → List ℕ → ℕ
choice_code rule c p acks votes out = code_if (choice_long acks votes out) (choice_decided rule c p acks votes)

abbrev pub choice_bytes : Rule → Config → Prepare → List ℕ → List ℕ → List ℕ → List ℕ
choice_bytes rule c p acks votes out = bytes_if (choice_long acks votes out) true (choice_decided rule c p acks votes) out
