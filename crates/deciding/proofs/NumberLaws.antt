-- What a decision on slices can be, and its numbers: a refusal is 1 to 6, everything else is above 100.
use mathlib.Core.List.{List}
use mathlib.Core.Bool.{Bool, true, false, cond}
use Prim.Native.Nat.{ℕ, zero, suc, ◌≤◌}
use native.Mathlib.Omega.{arith}
use lib.Dec.{ltb}
use Rattle.base.specs.declared.config.Config.{Config}
use Rattle.base.specs.Config.{config_fits}
use Rattle.base.specs.Marks.{count_of}
use Rattle.base.specs.Refusals.{outside_bounds, no_replica, bad_dependency, bad_batch, over_limit}
use Rattle.votes.specs.Answer.{unless_refused}
use Rattle.votes.specs.declared.answer.Decision.{Decision}
use Rattle.votes.specs.declared.answer.Decision.TheVariants.{Wait, Committed, Accepting, PreAccepting, Refused}
use Rattle.votes.specs.Holder.{or_else}
use Rattle.votes.specs.Identical.{first_enough}
use Rattle.refusing.specs.Refusal.{both_fit, deps_fit, batch_fit, sequence_fit, parts_fit, refusal_of}
use Rattle.decisions.specs.Fast.{joined, possible, fast_decision, replies_of, fast_answer}
use Rattle.votes.specs.declared.contents.Contents.{Contents}
use Rattle.votes.proofs.HolderLaws.{or_else_has}
use Rattle.deciding.specs.Codes.{code_of}
use Rattle.deciding.specs.Fast.{fast_known, fast_read, fast_decided}

-- ---- what a test and a refusal keep

pub either : {A : Type 0} (P : A → Type 0) (b : Bool) (x y : A) → P x → P y → P (cond b x y)
either P true x y h k = h
either P false x y h k = k

pub unless : (P : Decision → Type 0) (k : ℕ) (d : Decision) → k ≤ 6 → ((i : ℕ) → 1 ≤ i → i ≤ 6 → P (Refused i)) → P d → P (unless_refused k d)
unless P zero d l f h = h
unless P (suc k) d l f h = f (suc k) (omega arith) l

pub at_most_six : (c : Config) (named : Bool) (listed : List Bool) (entries : List Contents) → refusal_of c named listed entries ≤ 6
unfolding refusal_of
at_most_six c named listed entries = go (config_fits c) named (fits (deps_fit c.n)) (fits batch_fit) (fits sequence_fit)
  where
    fits : (Contents → Bool) → Bool
    fits part_fits = parts_fit part_fits listed entries

    go : (a b d e f : Bool) → cond a (cond b (cond d (cond e (cond f 0 over_limit) bad_batch) bad_dependency) no_replica) outside_bounds ≤ 6
    go false b d e f = omega arith
    go true false d e f = omega arith
    go true true false e f = omega arith
    go true true true false f = omega arith
    go true true true true false = omega arith
    go true true true true true = omega arith

-- ---- what holds of every answer that a decision gives holds of the decision

module _ (P : Decision → Type 0) (waits : P Wait) (commits : (x : Contents) → P (Committed x)) (accepts : (x : Contents) → P (Accepting x)) (refuses : (k : ℕ) → 1 ≤ k → k ≤ 6 → P (Refused k)) (c : Config) where
  fast_is : (avoided : Bool) (replied : List Bool) (entries : List Contents) (silent : List Bool) → P (fast_decision c avoided replied entries silent)
  unfolding fast_decision
  fast_is avoided replied entries silent =
      let slow = Accepting (joined replied entries) in
      let rest = cond (ltb (possible c replied entries silent) c.sup) slow Wait in
      let first = first_enough entries replied c.sup in
      let fast = or_else first entries Committed rest in
      either P (ltb (count_of replied) c.simple) Wait (cond avoided slow fast) waits
      (either P avoided slow fast (accepts _)
      (or_else_has P first entries Committed rest commits
      (either P (ltb (possible c replied entries silent) c.sup) slow Wait (accepts _) waits)))

  fast_answer_is : (avoided : Bool) (replied : List Bool) (seqs : List ℕ) (deps : List (List ℕ)) (silent : List Bool) → P (fast_answer c avoided replied seqs deps silent)
  unfolding fast_answer
  fast_answer_is avoided replied seqs deps silent =
      let entries = replies_of seqs deps in
      let named = both_fit c.n replied silent in
      unless P (refusal_of c named replied entries) (fast_decision c avoided replied entries silent) (at_most_six c named replied entries) refuses (fast_is avoided replied entries silent)

  pub fast_every : (avoided : ℕ) (replies silent : List ℕ) → P (fast_decided c avoided replies silent)
  unfolding fast_decided
  fast_every avoided replies silent =
      either P (fast_known avoided replies silent) (fast_read c avoided replies silent) (Refused outside_bounds) (fast_answer_is _ _ _ _ _) (refuses 1 (omega arith) (omega arith))

-- ---- the numbers

unfoldable pub Numbered : Decision → Type 0
Numbered Wait = Unit
Numbered (Committed x) = Unit
Numbered (Accepting x) = Unit
Numbered (PreAccepting x) = Unit
Numbered (Refused k) = (1 ≤ k) × (k ≤ 6)

pub some_number : (d : Decision) → Numbered d → 1 ≤ code_of d
unfolding Numbered code_of
some_number Wait h = omega arith
some_number (Committed x) h = omega arith
some_number (Accepting x) h = omega arith
some_number (PreAccepting x) h = omega arith
some_number (Refused k) h = h.0

pub fast_numbered : (c : Config) (avoided : ℕ) (replies silent : List ℕ) → Numbered (fast_decided c avoided replies silent)
unfolding Numbered
fast_numbered = fast_every Numbered tt (λ x. tt) (λ x. tt) (λ k l m. (l, m))

-- the fast decision pre-accepts nothing: 106 at most
pub fast_at_most : (c : Config) (avoided : ℕ) (replies silent : List ℕ) → code_of (fast_decided c avoided replies silent) ≤ 106
unfolding code_of
fast_at_most = fast_every (λ d. code_of d ≤ 106) (omega arith) (λ x. omega arith) (λ x. omega arith) (λ k l m. omega arith)
