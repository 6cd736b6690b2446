-- The recovery choice: who decides, and how the two rules differ.
use mathlib.Core.Path.{◌≡◌, refl, ap, sym, ◌∙◌}
use mathlib.Core.List.{List}
use mathlib.Core.Bool.{Bool, true, false, cond, true≢false}
use Prim.Native.Nat.{ℕ, ◌<◌, ◌≤◌}
use lib.Dec.{ltb, leb, eqb}
use borrow.Author.Tests.{lt-ltb, le-ltb, le-leb, lt-leb, eq-eqb, ne_eqb, eqb-true, leb-true, ltb-true, ltb-false}
use native.Mathlib.Omega.{arith}
use Rattle.base.specs.Marks.{marked, count_of}
use Rattle.base.proofs.Loops.{both_true}
use Rattle.base.specs.declared.config.Config.{Config}
use Rattle.base.specs.declared.status.Status.{Status}
use Rattle.base.specs.declared.status.Status.TheVariants as status
use Rattle.votes.specs.Contents.{said_by, no_op_contents}
use Rattle.std.specs.Prelude.{Option, None, Some}
use Rattle.votes.specs.declared.answer.Decision.{Decision}
use Rattle.votes.specs.declared.answer.Decision.TheVariants as decision
use Rattle.votes.specs.Holder.{Inside, or_else}
use Rattle.votes.specs.Identical.{occurrences, has_enough, first_enough}
use Rattle.refusing.specs.Refusal.{refusal_of}
use Rattle.recovering.specs.Recovery.{vote_at, highest_vote, such_votes, counts_of, group_by, choice_by, named_fit, answer_by}
use Rattle.votes.specs.declared.contents.Contents.{Contents}
use Rattle.recovering.specs.declared.recovery.Rule.{Rule}
use Rattle.recovering.specs.declared.recovery.Rule.TheVariants.{Rust, Paper}
use Rattle.recovering.specs.declared.recovery.Prepare.{Prepare}
use Rattle.recovering.specs.declared.recovery.Counts.{Counts}
use Rattle.votes.proofs.HolderLaws.{Lowest, lowest_is, is_lowest, Highest, is_highest, all_fail_highest, highest_inside, or_else_has}
use Rattle.votes.proofs.IdenticalLaws.{first_inside, at_most_listed}
use Rattle.votes.proofs.AnswerLaws.{goes_on, refused_by}

pub vote_inside : (wanted : Status) (voted : List Bool) (statuses : List Status) → Inside (highest_vote wanted voted statuses)
unfolding highest_vote
vote_inside wanted voted statuses = highest_inside (vote_at wanted voted statuses)

-- ---- the group, stage by stage

module _ (k : Counts) (p : Prepare) (voted : List Bool) (statuses : List Status) (entries : List Contents) where
  abbrev such : List Bool
  such = such_votes p.row voted statuses

  abbrev group : Option ℕ
  group = group_by k p voted statuses entries

  pub group_other_ballot : (p.highest ≡ p.default → ⊥) → group ≡ None
  unfolding group_by
  group_other_ballot h = rw (ne_eqb p.highest p.default h)

  pub group_few : p.highest ≡ p.default → count_of such < k.there → group ≡ None
  unfolding group_by
  group_few e h = rw (eq-eqb p.highest p.default e, lt-leb k.there (count_of such) h)

  pub group_first : p.highest ≡ p.default → k.there ≤ count_of such → group ≡ first_enough entries such k.identical
  unfolding group_by
  group_first e h = rw (eq-eqb p.highest p.default e, le-leb k.there (count_of such) h)

  pub group_inside : Inside group
  unfolding group_by
  group_inside = go (eqb p.highest p.default) (leb k.there (count_of such))
    where
      go : (a b : Bool) → Inside (cond a (cond b (first_enough entries such k.identical) None) None)
      go true true = first_inside entries such k.identical
      go true false = tt
      go false b = tt

  -- exactly when there is a group, and whose
  pub record Grouped (r : ℕ) : Type 0 where
    pub ballot : p.highest ≡ p.default
    pub there : k.there ≤ count_of such
    pub first : Lowest 7 (has_enough entries such k.identical) r

  pub group_when : (r : ℕ) → Grouped r → group ≡ Some r
  unfolding first_enough
  group_when r w = group_first w.ballot w.there ∙ is_lowest 7 (has_enough entries such k.identical) r w.first

  pub when_group : (r : ℕ) → group ≡ Some r → Grouped r
  unfolding group_by first_enough
  when_group r e = go (eqb p.highest p.default) refl (leb k.there (count_of such)) refl e
    where
      go : (a : Bool) → eqb p.highest p.default ≡ a → (b : Bool) → leb k.there (count_of such) ≡ b
          → cond a (cond b (first_enough entries such k.identical) None) None ≡ Some r → Grouped r
      go true f true g h = record { ballot = eqb-true p.highest p.default f; there = leb-true k.there (count_of such) g; first = lowest_is 7 (has_enough entries such k.identical) r h }
      go true f false g h = cc
      go false f b g h = cc

  -- enough identical votes are there only if so many votes are: the Rust's first count never decides
  pub first_count_implied : (r : ℕ) → k.there ≤ k.identical → Lowest 7 (has_enough entries such k.identical) r → k.there ≤ count_of such
  first_count_implied r l w =
      let s = both_true (marked such r) _ w.passes in
      omega (arith, leb-true k.identical (occurrences entries such r) s.1, at_most_listed entries such r)

-- ---- the choice

abbrev GoesOn : Decision → Type 0
GoesOn d = goes_on d ≡ true

module _ (k : Counts) (c : Config) (p : Prepare) (acks voted : List Bool) (statuses : List Status) (entries : List Contents) where
  abbrev pub choice : Decision
  choice = choice_by k c p acks voted statuses entries

  abbrev vote : Status → Option ℕ
  vote wanted = highest_vote wanted voted statuses

  abbrev pub start_over : Decision
  start_over = or_else (vote status.PreAccepting) entries decision.PreAccepting (decision.PreAccepting no_op_contents)

  abbrev pub grouped : Decision
  grouped = or_else (group_by k p voted statuses entries) entries decision.Accepting start_over

  abbrev pub accepted : Decision
  accepted = or_else (vote status.Accepting) entries decision.Accepting grouped

  pub choice_few : count_of acks < c.simple → choice ≡ decision.Wait
  unfolding choice_by
  choice_few h = rw (lt-ltb (count_of acks) c.simple h)

  pub choice_open : c.simple ≤ count_of acks → choice ≡ or_else (vote status.Committed) entries decision.Committed accepted
  unfolding choice_by
  choice_open h = rw (le-ltb (count_of acks) c.simple h)

  -- ---- the highest-numbered Committed vote wins, then the highest-numbered Accepting one

  abbrev NoVote : Status → Type 0
  NoVote wanted = (q : ℕ) → q < 7 → vote_at wanted voted statuses q ≡ false

  abbrev HighestVote : Status → ℕ → Type 0
  HighestVote wanted r = Highest 7 (vote_at wanted voted statuses) r

  voter : (wanted : Status) (r : ℕ) → HighestVote wanted r → vote wanted ≡ Some r
  unfolding highest_vote
  voter wanted r w = is_highest 7 (vote_at wanted voted statuses) r w

  no_voter : (wanted : Status) → NoVote wanted → vote wanted ≡ None
  unfolding highest_vote
  no_voter wanted h = all_fail_highest 7 (vote_at wanted voted statuses) h

  pub choice_committed : c.simple ≤ count_of acks → (r : ℕ) → HighestVote status.Committed r → choice ≡ decision.Committed (said_by entries r)
  choice_committed h r w = choice_open h ∙ ap (λ (x : Option ℕ). or_else x entries decision.Committed accepted) (voter status.Committed r w)

  past_committed : c.simple ≤ count_of acks → NoVote status.Committed → choice ≡ accepted
  past_committed h n = choice_open h ∙ ap (λ (x : Option ℕ). or_else x entries decision.Committed accepted) (no_voter status.Committed n)

  pub choice_accepting : c.simple ≤ count_of acks → NoVote status.Committed → (r : ℕ) → HighestVote status.Accepting r → choice ≡ decision.Accepting (said_by entries r)
  choice_accepting h n r w = past_committed h n ∙ ap (λ (x : Option ℕ). or_else x entries decision.Accepting grouped) (voter status.Accepting r w)

  past_accepting : c.simple ≤ count_of acks → NoVote status.Committed → NoVote status.Accepting → choice ≡ grouped
  past_accepting h n m = past_committed h n ∙ ap (λ (x : Option ℕ). or_else x entries decision.Accepting grouped) (no_voter status.Accepting m)

  -- then enough identical votes, then the highest-numbered PreAccepting vote, then the no-op

  pub choice_grouped : c.simple ≤ count_of acks → NoVote status.Committed → NoVote status.Accepting → (r : ℕ) → Grouped k p voted statuses entries r → choice ≡ decision.Accepting (said_by entries r)
  choice_grouped h n m r w = past_accepting h n m ∙ ap (λ (x : Option ℕ). or_else x entries decision.Accepting start_over) (group_when k p voted statuses entries r w)

  past_group : c.simple ≤ count_of acks → NoVote status.Committed → NoVote status.Accepting → group_by k p voted statuses entries ≡ None → choice ≡ start_over
  past_group h n m g = past_accepting h n m ∙ ap (λ (x : Option ℕ). or_else x entries decision.Accepting start_over) g

  pub choice_over : c.simple ≤ count_of acks → NoVote status.Committed → NoVote status.Accepting → group_by k p voted statuses entries ≡ None → (r : ℕ) → HighestVote status.PreAccepting r → choice ≡ decision.PreAccepting (said_by entries r)
  choice_over h n m g r w = past_group h n m g ∙ ap (λ (x : Option ℕ). or_else x entries decision.PreAccepting (decision.PreAccepting no_op_contents)) (voter status.PreAccepting r w)

  pub choice_no_op : c.simple ≤ count_of acks → NoVote status.Committed → NoVote status.Accepting → group_by k p voted statuses entries ≡ None → NoVote status.PreAccepting → choice ≡ decision.PreAccepting no_op_contents
  choice_no_op h n m g q = past_group h n m g ∙ ap (λ (x : Option ℕ). or_else x entries decision.PreAccepting (decision.PreAccepting no_op_contents)) (no_voter status.PreAccepting q)

  -- it waits exactly when too few have acked, and is never itself a refusal

  choice_goes_on : c.simple ≤ count_of acks → goes_on choice ≡ true
  choice_goes_on h =
      rw (choice_open h)
      (or_else_has GoesOn (vote status.Committed) entries decision.Committed accepted (λ x. refl)
      (or_else_has GoesOn (vote status.Accepting) entries decision.Accepting grouped (λ x. refl)
      (or_else_has GoesOn (group_by k p voted statuses entries) entries decision.Accepting start_over (λ x. refl)
      (or_else_has GoesOn (vote status.PreAccepting) entries decision.PreAccepting (decision.PreAccepting no_op_contents) (λ x. refl) refl))))

  few_or_goes_on : (P : Type 0) → (count_of acks < c.simple → P) → (goes_on choice ≡ true → P) → P
  few_or_goes_on P f g = go (ltb (count_of acks) c.simple) refl
    where
      go : (b : Bool) → ltb (count_of acks) c.simple ≡ b → P
      go true e = f (ltb-true (count_of acks) c.simple e)
      go false e = g (choice_goes_on (ltb-false (count_of acks) c.simple e))

  pub choice_waits : choice ≡ decision.Wait → count_of acks < c.simple
  choice_waits e = few_or_goes_on (count_of acks < c.simple) (λ l. l) (λ g. absurd (true≢false (sym g ∙ ap goes_on e)))

  choice_never_refuses : (j : ℕ) → choice ≡ decision.Refused j → ⊥
  choice_never_refuses j e = few_or_goes_on ⊥ (λ l. let f = choice_few l in cc) (λ g. true≢false (sym g ∙ ap goes_on e))

-- so the entries refuse exactly by the number of the refusal
pub choice_refused : (rule : Rule) (c : Config) (p : Prepare) (acks voted : List Bool) (statuses : List Status) (entries : List Contents) (m : ℕ)
    → answer_by rule c p acks voted statuses entries ≡ decision.Refused m
    → (0 < refusal_of c (named_fit c.n p.row acks voted) voted entries) × (refusal_of c (named_fit c.n p.row acks voted) voted entries ≡ m)
unfolding answer_by
choice_refused rule c p acks voted statuses entries m e = refused_by _ _ m (choice_never_refuses (counts_of rule c) c p acks voted statuses entries) e

-- ---- the two rules differ in the count alone

pub rules_differ_in_count : (c : Config) (p : Prepare) (acks voted : List Bool) (statuses : List Status) (entries : List Contents)
    → group_by (counts_of Rust c) p voted statuses entries ≡ group_by (counts_of Paper c) p voted statuses entries
    → answer_by Rust c p acks voted statuses entries ≡ answer_by Paper c p acks voted statuses entries
unfolding answer_by choice_by
rules_differ_in_count c p acks voted statuses entries e = rw e
