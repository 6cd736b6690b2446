-- The recovery choice, the Rust's and the paper's.
use Rattle.std.specs.Prelude.{List, Bool, cond, not, ◌&&◌, ltb, leb, eqb, get_or, ℕ, ◌-◌, ◌/◌, Option, None}
use Rattle.base.specs.Below.{list_below}
use Rattle.base.specs.Marks.{marked, count_of}
use Rattle.base.specs.Status.{rank_of}
use Rattle.base.specs.declared.config.Config.{Config}
use Rattle.deps.specs.declared.batches.Batch.{Batch}
use Rattle.base.specs.declared.status.Status.{Status}
use Rattle.base.specs.declared.status.Status.TheVariants.{Null, PreAccepting, Accepting, Committed}
use Rattle.votes.specs.Contents.{no_op_contents, entries_of}
use Rattle.votes.specs.Answer.{unless_refused}
use Rattle.votes.specs.declared.answer.Decision.{Decision}
use Rattle.votes.specs.declared.answer.Decision.TheVariants as decision
use Rattle.votes.specs.Holder.{highest_below, or_else}
use Rattle.votes.specs.Identical.{first_enough}
use Rattle.votes.specs.declared.contents.Contents.{Contents}
use Rattle.refusing.specs.Refusal.{both_fit, refusal_of}
use Rattle.recovering.specs.declared.recovery.Rule.{Rule}
use Rattle.recovering.specs.declared.recovery.Rule.TheVariants.{Rust, Paper}
use Rattle.recovering.specs.declared.recovery.Prepare.{Prepare}
use Rattle.recovering.specs.declared.recovery.Counts.{Counts}

-- a vote of the status wanted
abbrev pub is_vote : Status → Bool → Status → Bool
is_vote wanted voted status = voted && eqb (rank_of wanted) (rank_of status)

abbrev pub vote_at : Status → List Bool → List Status → ℕ → Bool
vote_at wanted voted statuses r = is_vote wanted (marked voted r) (get_or statuses r Null)

-- the highest-numbered of them
unfoldable pub highest_vote : Status → List Bool → List Status → Option ℕ
highest_vote wanted voted statuses = highest_below 7 (vote_at wanted voted statuses)

-- the PreAccepting votes not from the row
abbrev pub not_row : Bool → ℕ → ℕ → Bool
not_row such r row = such && not (eqb r row)

abbrev pub such_at : ℕ → List Bool → List Status → ℕ → Bool
such_at row voted statuses r = not_row (vote_at PreAccepting voted statuses r) r row

unfoldable pub such_votes : ℕ → List Bool → List Status → List Bool
such_votes row voted statuses = list_below 7 (such_at row voted statuses)

-- the Rust: at least simple − 1 of them, at least simple of these identical; the paper: at least ⌊N/2⌋ identical in the place of both
abbrev pub counts_of : Rule → Config → Counts
counts_of Rust c = record { there = c.simple - 1; identical = c.simple }
counts_of Paper c = record { there = c.n / 2; identical = c.n / 2 }

-- if the highest ballot is the row's default ballot: the first of enough identical ones
unfoldable pub group_by : Counts → Prepare → List Bool → List Status → List Contents → Option ℕ
group_by k p voted statuses entries =
    cond (eqb p.highest p.default)
    (cond (leb k.there (count_of (such_votes p.row voted statuses)))
    (first_enough entries (such_votes p.row voted statuses) k.identical)
    None)
    None

unfoldable pub choice_by : Counts → Config → Prepare → List Bool → List Bool → List Status → List Contents → Decision
choice_by k c p acks voted statuses entries =
    cond (ltb (count_of acks) c.simple) decision.Wait
    (or_else (highest_vote Committed voted statuses) entries decision.Committed
    (or_else (highest_vote Accepting voted statuses) entries decision.Accepting
    (or_else (group_by k p voted statuses entries) entries decision.Accepting
    (or_else (highest_vote PreAccepting voted statuses) entries decision.PreAccepting
    (decision.PreAccepting no_op_contents)))))

-- the row, and every replica that acked or voted, is below n
abbrev pub named_fit : ℕ → ℕ → List Bool → List Bool → Bool
named_fit n row acks voted = ltb row n && both_fit n acks voted

unfoldable pub answer_by : Rule → Config → Prepare → List Bool → List Bool → List Status → List Contents → Decision
answer_by rule c p acks voted statuses entries =
    unless_refused (refusal_of c (named_fit c.n p.row acks voted) voted entries) (choice_by (counts_of rule c) c p acks voted statuses entries)

abbrev pub choice_answer : Rule → Config → Prepare → List Bool → List Bool → List Status → List ℕ → List (List ℕ) → List Batch → Decision
choice_answer rule c p acks voted statuses seqs deps batches = answer_by rule c p acks voted statuses (entries_of seqs deps batches)
