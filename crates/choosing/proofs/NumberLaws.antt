-- What a choice on slices can be, and its numbers: a refusal is 1 to 6, everything else is above 100.
use mathlib.Core.List.{List}
use mathlib.Core.Bool.{Bool}
use Prim.Native.Nat.{ℕ, ◌≤◌}
use native.Mathlib.Omega.{arith}
use lib.Dec.{ltb}
use Rattle.base.specs.declared.config.Config.{Config}
use Rattle.base.specs.Marks.{count_of}
use Rattle.base.specs.Refusals.{outside_bounds}
use Rattle.base.specs.declared.status.Status.{Status}
use Rattle.base.specs.declared.status.Status.TheVariants.{PreAccepting, Accepting, Committed}
use Rattle.std.specs.Prelude.{Option}
use Rattle.votes.specs.declared.answer.Decision.{Decision}
use Rattle.votes.specs.declared.answer.Decision.TheVariants as decision
use Rattle.votes.specs.Holder.{or_else}
use Rattle.votes.specs.Contents.{no_op_contents}
use Rattle.refusing.specs.Refusal.{refusal_of}
use Rattle.recovering.specs.Recovery.{highest_vote, group_by, choice_by, named_fit, counts_of, answer_by}
use Rattle.votes.specs.declared.contents.Contents.{Contents}
use Rattle.votes.proofs.HolderLaws.{or_else_has}
use Rattle.recovering.specs.declared.recovery.Counts.{Counts}
use Rattle.recovering.specs.declared.recovery.Prepare.{Prepare}
use Rattle.recovering.specs.declared.recovery.Rule.{Rule}
use Rattle.deciding.proofs.NumberLaws.{either, unless, at_most_six, Numbered}
use Rattle.choosing.specs.Recovery.{votes_known, choice_read, choice_decided}

-- ---- what holds of every answer that a choice gives holds of the choice

module _ (P : Decision → Type 0) (waits : P decision.Wait) (commits : (x : Contents) → P (decision.Committed x)) (accepts : (x : Contents) → P (decision.Accepting x)) (refuses : (k : ℕ) → 1 ≤ k → k ≤ 6 → P (decision.Refused k)) (c : Config) (starts : (x : Contents) → P (decision.PreAccepting x)) where
  choice_is : (k : Counts) (p : Prepare) (acks voted : List Bool) (statuses : List Status) (entries : List Contents) → P (choice_by k c p acks voted statuses entries)
  unfolding choice_by
  choice_is k p acks voted statuses entries =
      let group = group_by k p voted statuses entries in
      let by : Status → Option ℕ = λ s. highest_vote s voted statuses in
      let last = or_else (by PreAccepting) entries decision.PreAccepting (decision.PreAccepting no_op_contents) in
      let third = or_else group entries decision.Accepting last in
      let second = or_else (by Accepting) entries decision.Accepting third in
      let first = or_else (by Committed) entries decision.Committed second in
      either P (ltb (count_of acks) c.simple) decision.Wait first waits
      (or_else_has P (by Committed) entries decision.Committed second commits
      (or_else_has P (by Accepting) entries decision.Accepting third accepts
      (or_else_has P group entries decision.Accepting last accepts
      (or_else_has P (by PreAccepting) entries decision.PreAccepting (decision.PreAccepting no_op_contents) starts (starts _)))))

  choice_answer_is : (rule : Rule) (p : Prepare) (acks voted : List Bool) (statuses : List Status) (entries : List Contents) → P (answer_by rule c p acks voted statuses entries)
  unfolding answer_by
  choice_answer_is rule p acks voted statuses entries =
      let named = named_fit c.n p.row acks voted in
      let counts = counts_of rule c in
      unless P (refusal_of c named voted entries) (choice_by counts c p acks voted statuses entries) (at_most_six c named voted entries) refuses (choice_is counts p acks voted statuses entries)

  pub choice_every : (rule : Rule) (p : Prepare) (acks votes : List ℕ) → P (choice_decided rule c p acks votes)
  unfolding choice_decided
  choice_every rule p acks votes =
      either P (votes_known acks votes) (choice_read rule c p acks votes) (decision.Refused outside_bounds) (choice_answer_is _ _ _ _ _ _) (refuses 1 (omega arith) (omega arith))

-- ---- the numbers

pub choice_numbered : (c : Config) (rule : Rule) (p : Prepare) (acks votes : List ℕ) → Numbered (choice_decided rule c p acks votes)
unfolding Numbered
choice_numbered c = choice_every Numbered tt (λ x. tt) (λ x. tt) (λ k l m. (l, m)) c (λ x. tt)
