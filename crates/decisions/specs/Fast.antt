-- The fast decision.
use Rattle.std.specs.Prelude.{List, Bool, cond, not, ◌&&◌, ltb, eqb, replicate, ℕ, zero, suc, ◌+◌, ◌-◌}
use Rattle.base.specs.Below.{count_below}
use Rattle.base.specs.Marks.{marked, count_of}
use Rattle.deps.specs.Batches.{no_op}
use Rattle.base.specs.declared.config.Config.{Config}
use Rattle.votes.specs.Contents.{none, said_by, join_of, entries_of}
use Rattle.votes.specs.Answer.{unless_refused}
use Rattle.votes.specs.declared.answer.Decision.{Decision}
use Rattle.votes.specs.declared.answer.Decision.TheVariants.{Wait, Committed, Accepting}
use Rattle.votes.specs.Holder.{or_else}
use Rattle.votes.specs.Identical.{first_enough, most_equals}
use Rattle.votes.specs.declared.contents.Contents.{Contents}
use Rattle.refusing.specs.Refusal.{both_fit, refusal_of}

-- the union of the dependencies and the greatest sequence of those listed among 0, 1, .., n - 1
unfoldable pub joined_below : ℕ → List Bool → List Contents → Contents
joined_below zero listed entries = none
joined_below (suc n) listed entries = cond (marked listed n) (join_of (joined_below n listed entries) (said_by entries n)) (joined_below n listed entries)

abbrev pub joined : List Bool → List Contents → Contents
joined listed entries = joined_below 7 listed entries

-- silent, not acked and not myself
abbrev pub is_gone : Bool → Bool → Bool → Bool
is_gone silent acked mine = silent && (not acked && not mine)

abbrev pub gone_at : ℕ → List Bool → List Bool → ℕ → Bool
gone_at own replied silent r = is_gone (marked silent r) (marked replied r) (eqb r own)

unfoldable pub gone_count : ℕ → List Bool → List Bool → ℕ
gone_count own replied silent = count_below 7 (gone_at own replied silent)

-- the most that what occurs most often could still come to
abbrev pub possible : Config → List Bool → List Contents → List Bool → ℕ
possible c replied entries silent = most_equals entries replied + (c.n - gone_count c.own replied silent - count_of replied)

-- a replica is acked exactly when it has a reply
unfoldable pub fast_decision : Config → Bool → List Bool → List Contents → List Bool → Decision
fast_decision c avoided replied entries silent =
    cond (ltb (count_of replied) c.simple) Wait
    (cond avoided (Accepting (joined replied entries))
    (or_else (first_enough entries replied c.sup) entries Committed
    (cond (ltb (possible c replied entries silent) c.sup) (Accepting (joined replied entries)) Wait)))

-- a reply has no batch
abbrev pub replies_of : List ℕ → List (List ℕ) → List Contents
replies_of seqs deps = entries_of seqs deps (replicate 7 no_op)

unfoldable pub fast_answer : Config → Bool → List Bool → List ℕ → List (List ℕ) → List Bool → Decision
fast_answer c avoided replied seqs deps silent =
    unless_refused (refusal_of c (both_fit c.n replied silent) replied (replies_of seqs deps)) (fast_decision c avoided replied (replies_of seqs deps) silent)
