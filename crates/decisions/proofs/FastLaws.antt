-- The fast decision: what its loops gather, and each of its answers exactly when.
use mathlib.Core.Path.{◌≡◌, refl, ap, sym, ◌∙◌}
use mathlib.Core.List.{List}
use mathlib.Core.Bool.{Bool, true, false, not, cond, true≢false}
use mathlib.Core.Logic.{◌⊎◌, inl, inr, ⊎_elim}
use Prim.Native.Nat.{ℕ, ◌+◌, ◌<◌, ◌≤◌}
use native.Mathlib.Numerals.{add-one}
use native.Mathlib.Omega.{arith}
use lib.Dec.{ltb}
use borrow.Author.Tests.{lt-ltb, le-ltb, le-leb, ltb-true, ltb-false, leb-true}
use Rattle.base.specs.Marks.{marked, count_of, marks_fit}
use Rattle.base.specs.declared.config.Config.{Config}
use Rattle.base.proofs.Loops.{both_true}
use Rattle.base.proofs.MarkLaws.{marks_fit_each, two_counts}
use Rattle.votes.specs.Contents.{none, said_by, join_of}
use Rattle.std.specs.Prelude.{Option, None, Some}
use Rattle.votes.specs.declared.answer.Decision.{Decision}
use Rattle.votes.specs.declared.answer.Decision.TheVariants.{Wait, Committed, Accepting, Refused}
use Rattle.votes.specs.Holder.{lowest_below, or_else}
use Rattle.votes.specs.Identical.{occurrences, has_enough, first_enough}
use Rattle.refusing.specs.Refusal.{both_fit, refusal_of}
use Rattle.decisions.specs.Fast.{joined_below, joined, gone_at, gone_count, possible, fast_decision, replies_of, fast_answer}
use Rattle.votes.specs.declared.contents.Contents.{Contents}
use Rattle.votes.proofs.AnswerLaws.{refused_by}
use Rattle.votes.proofs.HolderLaws.{Lowest, lowest_is, is_lowest, lowest_nobody, all_fail_lowest}

-- ---- the union of the dependencies and the greatest sequence, turn by turn

pub joined_none : (listed : List Bool) (entries : List Contents) → none ≡ joined_below 0 listed entries
unfolding joined_below
joined_none listed entries = refl

pub joined_in : (listed : List Bool) (entries : List Contents) (r : ℕ) (all : Contents) → marked listed r ≡ true → all ≡ joined_below r listed entries → join_of all (said_by entries r) ≡ joined_below (r + 1) listed entries
unfolding joined_below
joined_in listed entries r all h e = rw (add-one r, h, e)

pub joined_out : (listed : List Bool) (entries : List Contents) (r : ℕ) (all : Contents) → marked listed r ≡ false → all ≡ joined_below r listed entries → all ≡ joined_below (r + 1) listed entries
unfolding joined_below
joined_out listed entries r all h e = rw (add-one r, h, e)

-- ---- those who acked and those who are gone are at most N, so what may still come is no less than nothing

pub heard_at_most : (n own : ℕ) (replied silent : List Bool) → marks_fit n replied ≡ true → marks_fit n silent ≡ true → gone_count own replied silent + count_of replied ≤ n
unfolding gone_count count_of
heard_at_most n own replied silent f g =
    omega (
      arith,
      two_counts (gone_at own replied silent) (marked replied) n 7
          (λ i l h. marks_fit_each n silent g i l (both_true (marked silent i) _ h).0)
          (λ i l h. marks_fit_each n replied f i l h)
          (λ i h k. clash i (both_true (not (marked replied i)) _ (both_true (marked silent i) _ h).1).0 k),
    )
  where
    clash : (i : ℕ) → not (marked replied i) ≡ true → marked replied i ≡ true → ⊥
    clash i h k = let z : not (marked replied i) ≡ false = rw k in true≢false (sym h ∙ z)

-- ---- each answer

module _ (c : Config) (avoided : Bool) (replied : List Bool) (entries : List Contents) (silent : List Bool) where
  abbrev pub answer : Decision
  answer = fast_decision c avoided replied entries silent

  abbrev pub slow_path : Decision
  slow_path = Accepting (joined replied entries)

  -- where nobody has enough
  abbrev pub later : Decision
  later = cond (ltb (possible c replied entries silent) c.sup) slow_path Wait

  pub fast_few : count_of replied < c.simple → answer ≡ Wait
  unfolding fast_decision
  fast_few h = rw (lt-ltb (count_of replied) c.simple h)

  pub fast_avoided : c.simple ≤ count_of replied → avoided ≡ true → answer ≡ slow_path
  unfolding fast_decision
  fast_avoided h a = rw (le-ltb (count_of replied) c.simple h, a)

  pub fast_open : c.simple ≤ count_of replied → avoided ≡ false → answer ≡ or_else (first_enough entries replied c.sup) entries Committed later
  unfolding fast_decision
  fast_open h a = rw (le-ltb (count_of replied) c.simple h, a)

  -- as whoever is first with enough decides
  open_by : c.simple ≤ count_of replied → avoided ≡ false → (h : Option ℕ) → first_enough entries replied c.sup ≡ h → answer ≡ or_else h entries Committed later
  open_by l a h e = fast_open l a ∙ ap (λ (x : Option ℕ). or_else x entries Committed later) e

  pub later_slow : possible c replied entries silent < c.sup → later ≡ slow_path
  later_slow h = rw (lt-ltb (possible c replied entries silent) c.sup h)

  pub later_wait : c.sup ≤ possible c replied entries silent → later ≡ Wait
  later_wait h = rw (le-ltb (possible c replied entries silent) c.sup h)

  -- ---- and each exactly when

  -- what a replica says occurs at least super times
  abbrev pub Enough : ℕ → Type 0
  Enough r = (marked replied r ≡ true) × (c.sup ≤ occurrences entries replied r)

  abbrev pub NoneEnough : Type 0
  NoneEnough = (r : ℕ) → r < 7 → Enough r → ⊥

  -- the lowest replica whose words occur at least super times
  pub record FirstEnough (r : ℕ) : Type 0 where
    pub one : r < 7
    pub enough : Enough r
    pub lowest : (q : ℕ) → q < r → Enough q → ⊥

  enough_passes : (r : ℕ) → Enough r → has_enough entries replied c.sup r ≡ true
  enough_passes r e = rw e.0 (le-leb c.sup (occurrences entries replied r) e.1)

  passes_enough : (r : ℕ) → has_enough entries replied c.sup r ≡ true → Enough r
  passes_enough r h = let s = both_true (marked replied r) _ h in (s.0, leb-true c.sup (occurrences entries replied r) s.1)

  fails_not : (r : ℕ) → (Enough r → ⊥) → has_enough entries replied c.sup r ≡ false
  fails_not r h = go (has_enough entries replied c.sup r) refl
    where
      go : (b : Bool) → has_enough entries replied c.sup r ≡ b → has_enough entries replied c.sup r ≡ false
      go true e = absurd (h (passes_enough r e))
      go false e = e

  not_fails : (r : ℕ) → has_enough entries replied c.sup r ≡ false → Enough r → ⊥
  not_fails r h e = true≢false (sym (enough_passes r e) ∙ h)

  first_of : (r : ℕ) → lowest_below 7 (has_enough entries replied c.sup) ≡ Some r → FirstEnough r
  first_of r e =
      let w = lowest_is 7 (has_enough entries replied c.sup) r e in
      record { one = w.below; enough = passes_enough r w.passes; lowest = λ q k. not_fails q (w.first q k) }

  -- the five ways that a decision can go
  pub data Way : Type 0 where
    few : count_of replied < c.simple → answer ≡ Wait → Way
    avoids : c.simple ≤ count_of replied → avoided ≡ true → answer ≡ slow_path → Way
    commits : c.simple ≤ count_of replied → avoided ≡ false → (r : ℕ) → FirstEnough r → answer ≡ Committed (said_by entries r) → Way
    slows : c.simple ≤ count_of replied → avoided ≡ false → NoneEnough → possible c replied entries silent < c.sup → answer ≡ slow_path → Way
    waits : c.simple ≤ count_of replied → avoided ≡ false → NoneEnough → c.sup ≤ possible c replied entries silent → answer ≡ Wait → Way

  first_way : c.simple ≤ count_of replied → avoided ≡ false → (h : Option ℕ) → first_enough entries replied c.sup ≡ h → Way
  unfolding first_enough
  first_way l a (Some r) e = commits l a r (first_of r e) (open_by l a (Some r) e)
  first_way l a None e = go (ltb (possible c replied entries silent) c.sup) refl
    where
      none : NoneEnough
      none r k = not_fails r (lowest_nobody 7 (has_enough entries replied c.sup) e r k)

      is_later : answer ≡ later
      is_later = open_by l a None e

      go : (b : Bool) → ltb (possible c replied entries silent) c.sup ≡ b → Way
      go true f = let k = ltb-true (possible c replied entries silent) c.sup f in slows l a none k (is_later ∙ later_slow k)
      go false f = let k = ltb-false (possible c replied entries silent) c.sup f in waits l a none k (is_later ∙ later_wait k)

  pub way : Way
  way = go (ltb (count_of replied) c.simple) refl avoided refl
    where
      go : (b : Bool) → ltb (count_of replied) c.simple ≡ b → (v : Bool) → avoided ≡ v → Way
      go true e v f = let l = ltb-true (count_of replied) c.simple e in few l (fast_few l)
      go false e true f = let l = ltb-false (count_of replied) c.simple e in avoids l f (fast_avoided l f)
      go false e false f = first_way (ltb-false (count_of replied) c.simple e) f (first_enough entries replied c.sup) refl

  nobody : NoneEnough → first_enough entries replied c.sup ≡ None
  unfolding first_enough
  nobody h = all_fail_lowest 7 (has_enough entries replied c.sup) (λ r l. fails_not r (h r l))

  -- Committed exactly when what some replica says occurs at least super times, with the lowest such replica's words
  pub record Commits (x : Contents) : Type 0 where
    pub heard : c.simple ≤ count_of replied
    pub allowed : avoided ≡ false
    pub holder : ℕ
    pub first : FirstEnough holder
    pub words : x ≡ said_by entries holder

  pub committed_when : (x : Contents) → Commits x → answer ≡ Committed x
  unfolding first_enough
  committed_when x w =
      let l : Lowest 7 (has_enough entries replied c.sup) w.holder = record { below = w.first.one; passes = enough_passes w.holder w.first.enough; first = λ q k. fails_not q (w.first.lowest q k) } in
      open_by w.heard w.allowed (Some w.holder) (is_lowest 7 (has_enough entries replied c.sup) w.holder l)
      ∙ ap Committed (sym w.words)

  pub when_committed : (x : Contents) → answer ≡ Committed x → Commits x
  when_committed x e = go way
    where
      go : Way → Commits x
      go (few l f) = cc
      go (avoids l a f) = cc
      go (commits l a r w f) = record { heard = l; allowed = a; holder = r; first = w; words = cc }
      go (slows l a n k f) = cc
      go (waits l a n k f) = cc

  -- one such replica is enough for there to be a lowest
  pub some_first : (r : ℕ) → r < 7 → Enough r → (q : ℕ) × FirstEnough q
  unfolding first_enough
  some_first r l h = go (lowest_below 7 (has_enough entries replied c.sup)) refl
    where
      go : (x : Option ℕ) → lowest_below 7 (has_enough entries replied c.sup) ≡ x → (q : ℕ) × FirstEnough q
      go None e = absurd (not_fails r (lowest_nobody 7 (has_enough entries replied c.sup) e r l) h)
      go (Some q) e = (q, first_of q e)

  -- Accepting exactly when the fast path is avoided, or no words occur often enough and none could any more
  abbrev pub Accepts : Type 0
  Accepts = (c.simple ≤ count_of replied) × ((avoided ≡ true) ⊎ ((avoided ≡ false) × NoneEnough × (possible c replied entries silent < c.sup)))

  pub accepting_when : Accepts → answer ≡ Accepting (joined replied entries)
  accepting_when w =
      ⊎_elim
      (λ a. fast_avoided w.0 a)
      (λ a. open_by w.0 a.0 None (nobody a.1) ∙ later_slow a.2)
      w.1

  pub when_accepting : (x : Contents) → answer ≡ Accepting x → Accepts × (x ≡ joined replied entries)
  when_accepting x e = go way
    where
      go : Way → Accepts × (x ≡ joined replied entries)
      go (few l f) = cc
      go (avoids l a f) = ((l, inl a), cc)
      go (commits l a r w f) = cc
      go (slows l a n k f) = ((l, inr (a, n, k)), cc)
      go (waits l a n k f) = cc

  -- Wait exactly when too few have acked, or no words occur often enough and some still could
  abbrev pub Waits : Type 0
  Waits = (count_of replied < c.simple) ⊎ ((c.simple ≤ count_of replied) × (avoided ≡ false) × NoneEnough × (c.sup ≤ possible c replied entries silent))

  pub wait_when : Waits → answer ≡ Wait
  wait_when w =
      ⊎_elim
      (λ l. fast_few l)
      (λ a. open_by a.0 a.1 None (nobody a.2) ∙ later_wait a.3)
      w

  pub when_wait : answer ≡ Wait → Waits
  when_wait e = go way
    where
      go : Way → Waits
      go (few l f) = inl l
      go (avoids l a f) = cc
      go (commits l a r w f) = cc
      go (slows l a n k f) = cc
      go (waits l a n k f) = inr (l, a, n, k)

  -- it is never itself a refusal
  never_refuses : (j : ℕ) → answer ≡ Refused j → ⊥
  never_refuses j e = go way
    where
      go : Way → ⊥
      go (few l f) = cc
      go (avoids l a f) = cc
      go (commits l a r w f) = cc
      go (slows l a n k f) = cc
      go (waits l a n k f) = cc

-- so the entry refuses exactly by the number of the refusal
pub fast_refused : (c : Config) (avoided : Bool) (replied : List Bool) (seqs : List ℕ) (deps : List (List ℕ)) (silent : List Bool) (m : ℕ)
    → fast_answer c avoided replied seqs deps silent ≡ Refused m
    → (0 < refusal_of c (both_fit c.n replied silent) replied (replies_of seqs deps)) × (refusal_of c (both_fit c.n replied silent) replied (replies_of seqs deps) ≡ m)
unfolding fast_answer
fast_refused c avoided replied seqs deps silent m e = refused_by _ _ m (never_refuses c avoided replied (replies_of seqs deps) silent) e
