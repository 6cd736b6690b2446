-- What a run is made of: moves of two kinds, an alteration that keeps what is committed, and an attempt that runs slots.
-- A table reached by moves from an empty one satisfies what Reached says.
use mathlib.Core.Path.{◌≡◌, refl, sym, subst}
use mathlib.Core.List.{List, [], ◌++◌, append-nil, append_assoc}
use mathlib.Core.Logic.{◌⊎◌, inl, inr, ⊎_elim}
use mathlib.Core.Bool.{true, false}
use Prim.Native.Nat.{ℕ, ◌/◌, ◌%◌, ◌≤◌, ◌<◌}
use native.Mathlib.Omega.{arith}
use borrow.Author.Tests.{eqb-true, le-leb}
use lib.ListN.{get_or}
use Rattle.base.specs.Status.{rank_of}
use Rattle.base.proofs.Loops.{both_true}
use Rattle.table.specs.Table.{bar_of, slot_no}
use Rattle.table.specs.declared.table.Table.{Table}
use Rattle.leads.specs.Depends.{number_in, Depends, named, earlier, here, step}
use Rattle.leads.proofs.PathLaws.{leads_on}
use Rattle.order.specs.Listed.{Has, Once, none, Precedes}
use Rattle.order.specs.Paper.{Mates}
use Rattle.order.proofs.ListLaws.{clash, split, has_none, has_or, has_left, has_right, has_either, once_both, precedes_none, precedes_has, precedes_either, precedes_second, precedes_left, precedes_right, precedes_across}
use Rattle.attempts.specs.Reads.{is_held_no, has_run, deps_of, seqs_of}
use Rattle.copies.specs.Copies.{holds_committed, Ran, LeadsTo, Sooner, Ordered}

-- ---- a slot

abbrev pub Committed : Table → ℕ → Type 0
Committed t i = holds_committed t i ≡ true

abbrev pub Below : Table → ℕ → Type 0
Below t i = i % 32 < bar_of t (i / 32)

-- a slot that has run is in the table and Executed
pub ran_held : (t : Table) (i : ℕ) → Ran t i → (is_held_no t i ≡ true) × (rank_of (slot_no t i).status ≡ 4)
ran_held t i r = let w = both_true _ _ r in (w.0, eqb-true _ _ w.1)

-- so it counts as committed
pub ran_committed : (t : Table) (i : ℕ) → Ran t i → Committed t i
ran_committed t i r = let w = ran_held t i r in rw w.0 (le-leb 3 (rank_of (slot_no t i).status) (omega (arith, w.1)))

-- slot i has the same sequence and dependencies
pub record Same (t u : Table) (i : ℕ) : Type 0 where
  pub seq : get_or (seqs_of t) i 0 ≡ get_or (seqs_of u) i 0
  pub deps : (row : ℕ) → row < 7 → number_in (deps_of t) i row ≡ number_in (deps_of u) i row

pub same_sym : {t u : Table} {i : ℕ} → Same t u i → Same u t i
same_sym s = record { seq = sym s.seq; deps = λ row l. sym (s.deps row l) }

-- ---- the moves

-- the contents of what is committed stay, what has run is what had run, and no bar falls
pub record Alters (t u : Table) : Type 0 where
  pub same : (i : ℕ) → Committed t i → Same t u i
  pub ran : (i : ℕ) → Ran t i → Ran u i
  pub unrun : (i : ℕ) → Ran u i → Ran t i
  pub bars : (row : ℕ) → bar_of t row ≤ bar_of u row

-- slot s and all that it leads to are below the bars; those that had not run are written and run
pub record Runs (t : Table) (s : ℕ) (w : List ℕ) (u : Table) : Type 0 where
  pub ready : (i : ℕ) → LeadsTo t s i → Below t i
  pub only : (i : ℕ) → Has i w → LeadsTo t s i × (has_run t i ≡ false)
  pub whole : (i : ℕ) → LeadsTo t s i → has_run t i ≡ false → Has i w
  pub once : Once w
  pub ordered : Ordered t w
  pub marked : (i : ℕ) → Has i w → Ran u i
  pub others : (i : ℕ) → (Has i w → ⊥) → has_run u i ≡ has_run t i
  pub deps : deps_of u ≡ deps_of t
  pub seqs : seqs_of u ≡ seqs_of t
  pub bars : (row : ℕ) → bar_of u row ≡ bar_of t row

pub data Move (t : Table) : List ℕ → Table → Type 0 where
  alters : {u : Table} → Alters t u → Move t [] u
  runs : {w : List ℕ} {u : Table} (s : ℕ) → Runs t s w u → Move t w u

-- any number of moves, with all that they write
pub data Moves (t : Table) : List ℕ → Table → Type 0 where
  still : Moves t [] t
  then : {w x : List ℕ} {u v : Table} → Moves t w u → Move u x v → Moves t (w ++ x) v

pub moves_one : {t u : Table} {w : List ℕ} → Move t w u → Moves t w u
moves_one m = then still m

pub moves_join : {t u v : Table} {w x : List ℕ} → Moves t w u → Moves u x v → Moves t (w ++ x) v
moves_join {w = w} p still = rw append-nil p
moves_join {w = w} p (then {w = a} {x = b} q m) = rw (← append_assoc w a b) (then (moves_join p q) m)

-- ---- paths

pub depends_same : {t u : Table} {i j : ℕ} → Same t u i → Depends (deps_of t) i j → Depends (deps_of u) i j
depends_same {i = i} {j = j} s (named l e) = named l (rw (← s.deps (j / 32) l) e)
depends_same s (earlier e f) = earlier e f

-- from slots that depend only on each other, and on which the tables are the same, paths are the same
pub leads_same : {t u : Table} (P : ℕ → Type 0) → ((i j : ℕ) → P i → Depends (deps_of t) i j → P j) → ((i : ℕ) → P i → Same t u i)
    → {i j : ℕ} → P i → LeadsTo t i j → LeadsTo u i j × P j
leads_same P closed same p (here e) = (here e, subst P e p)
leads_same {u = u} P closed same {i = i} p (step {j = k} d l) =
    let r = leads_same {u = u} P closed same (closed i k p d) l in
    (step (depends_same (same i p) d) r.0, r.1)

-- ---- what holds of a table that moves have reached, and of what they have written

pub record Reached (h : List ℕ) (t : Table) : Type 0 where
  pub ran : (i : ℕ) → Has i h → Ran t i
  pub listed : (i : ℕ) → Ran t i → Has i h
  pub once : Once h
  pub closed : (i j : ℕ) → Ran t i → Depends (deps_of t) i j → Ran t j
  pub low : (i : ℕ) → Ran t i → Below t i
  pub ordered : Ordered t h

-- nothing has run
pub reached_empty : (t : Table) → ((i : ℕ) → Ran t i → ⊥) → Reached [] t
reached_empty t unrun = record {
  ran = λ i m. absurd (has_none i m);
  listed = λ i r. absurd (unrun i r);
  once = none;
  closed = λ i j r d. absurd (unrun i r);
  low = λ i r. absurd (unrun i r);
  ordered = record { inner = λ i j m. absurd (has_none i m); outer = λ i j m. absurd (has_none i m); together = λ i j k m p. absurd (precedes_none i j p) };
}

-- all that a slot which has run leads to has run too
pub ran_leads : {h : List ℕ} {t : Table} → Reached h t → (i j : ℕ) → Ran t i → LeadsTo t i j → Ran t j
ran_leads {t = t} r i j x l = (leads_same {u = t} (Ran t) r.closed (λ _ _. record { seq = refl; deps = λ _ _. refl }) x l).1

-- what is ordered stays so where no slot that has run is altered
ordered_still : {h : List ℕ} {t u : Table} → Reached h t → ((i : ℕ) → Ran t i → Same t u i) → Ordered u h
ordered_still {h} {t} {u} r s = record {
  inner = λ i j m k p v. r.ordered.inner i j m k (back i j m p.0, back j i k p.1) (key i j m k v);
  outer = λ i j m k p n. r.ordered.outer i j m k (back i j m p) (λ q. n (forth j i k q));
  together = λ i j k mates p q.
      let m = precedes_has i j h p in
      let l = (precedes_has j k h q).1 in
      let w = r.ordered.together i j k (back i k m.0 mates.0, back k i l mates.1) p q in
      (forth i j m.0 w.0, forth j i m.1 w.1);
}
  where
    forth : (i j : ℕ) → Has i h → LeadsTo t i j → LeadsTo u i j
    forth i j m p = (leads_same {u = u} (Ran t) r.closed s (r.ran i m) p).0

    back : (i j : ℕ) → Has i h → LeadsTo u i j → LeadsTo t i j
    back i j m p = (leads_same {u = t} (Ran t) (λ x y a d. r.closed x y a (depends_same (same_sym (s x a)) d)) (λ x a. same_sym (s x a)) (r.ran i m) p).0

    key : (i j : ℕ) → Has i h → Has j h → Sooner (seqs_of u) i j → Sooner (seqs_of t) i j
    key i j m k v = rw ((s i (r.ran i m)).seq, (s j (r.ran j k)).seq) v

reached_alters : {h : List ℕ} {t u : Table} → Reached h t → Alters t u → Reached h u
reached_alters {h} {t} {u} r a = record {
  ran = λ i m. a.ran i (r.ran i m);
  listed = λ i x. r.listed i (a.unrun i x);
  once = r.once;
  closed = λ i j x d. a.ran j (r.closed i j (a.unrun i x) (depends_same (same_sym (same i (a.unrun i x))) d));
  low = λ i x. omega (arith, r.low i (a.unrun i x), a.bars (i / 32));
  ordered = ordered_still r same;
}
  where
    same : (i : ℕ) → Ran t i → Same t u i
    same i x = a.same i (ran_committed t i x)

module _ {h w : List ℕ} {t u : Table} {s : ℕ} (r : Reached h t) (d : Runs t s w u) where
  -- slots of before, and those that the attempt has written
  apart : (i : ℕ) → Has i h → Has i w → ⊥
  apart i m k = clash (has_run t i) (r.ran i m) (d.only i k).1

  still_run : (i : ℕ) → Ran t i → Ran u i
  still_run i x = rw (d.others i (apart i (r.listed i x))) x

  then_run : (i : ℕ) → Has i (h ++ w) → Ran u i
  then_run i m = ⊎_elim (λ k. still_run i (r.ran i k)) (d.marked i) (has_either i h w m)

  then_listed : (i : ℕ) → Ran u i → Has i (h ++ w)
  then_listed i x = ⊎_elim (λ k. has_right i h w k) (λ n. has_left i h w (r.listed i (rw (d.others i n) at x))) (has_or i w)

  -- the same paths and keys
  same : (i : ℕ) → Same t u i
  same i = record { seq = rw d.seqs refl; deps = λ row l. rw d.deps refl }

  old_order : Ordered u h
  old_order = ordered_still r (λ i _. same i)

  new_order : Ordered u w
  new_order = record {
    inner = λ i j. rw (d.deps, d.seqs) (d.ordered.inner i j);
    outer = λ i j. rw d.deps (d.ordered.outer i j);
    together = λ i j k. rw d.deps (d.ordered.together i j k);
  }

  -- a slot that had run leads to none that had not
  never : (i j : ℕ) → Has i h → Has j w → LeadsTo u i j → ⊥
  never i j m k p = apart j (r.listed j (ran_leads r i j (r.ran i m) (rw d.deps at p))) k

  run_inner : (i j : ℕ) → Has i h ⊎ Has i w → Has j h ⊎ Has j w → Mates (deps_of u) i j → Sooner (seqs_of u) i j → Precedes i j (h ++ w)
  run_inner i j (inl m) (inl k) p v = precedes_left i j h w (old_order.inner i j m k p v)
  run_inner i j (inl m) (inr k) p v = absurd (never i j m k p.0)
  run_inner i j (inr m) (inl k) p v = absurd (never j i k m p.1)
  run_inner i j (inr m) (inr k) p v = precedes_right i j h w (new_order.inner i j m k p v)

  run_outer : (i j : ℕ) → Has i h ⊎ Has i w → Has j h ⊎ Has j w → LeadsTo u i j → (LeadsTo u j i → ⊥) → Precedes j i (h ++ w)
  run_outer i j (inl m) (inl k) p n = precedes_left j i h w (old_order.outer i j m k p n)
  run_outer i j (inl m) (inr k) p n = absurd (never i j m k p)
  run_outer i j (inr m) (inl k) p n = precedes_across j i h w k m
  run_outer i j (inr m) (inr k) p n = precedes_right j i h w (new_order.outer i j m k p n)

  -- two slots stand in the one part or in the other
  earlier_part : (i j : ℕ) → Has j h → Precedes i j (h ++ w) → Precedes i j h
  earlier_part i j m p = ⊎_elim (λ q. q) (⊎_elim (λ q. absurd (apart j m q.1)) (λ q. absurd (apart j m (precedes_has i j w q).1))) (precedes_either i j h w p)

  later_part : (i j : ℕ) → Has i w → Precedes i j (h ++ w) → Precedes i j w
  later_part i j m p = precedes_second i j h w (λ k. apart i k m) p

  run_together : (i j k : ℕ) → Has i h ⊎ Has i w → Has k h ⊎ Has k w → Mates (deps_of u) i k → Precedes i j (h ++ w) → Precedes j k (h ++ w) → Mates (deps_of u) i j
  run_together i j k (inl m) (inl l) mates p q =
      let later = earlier_part j k l q in
      old_order.together i j k mates (earlier_part i j (precedes_has j k h later).0 p) later
  run_together i j k (inl m) (inr l) mates p q = absurd (never i k m l mates.0)
  run_together i j k (inr m) (inl l) mates p q = absurd (never k i l m mates.1)
  run_together i j k (inr m) (inr l) mates p q =
      let sooner = later_part i j m p in
      new_order.together i j k mates sooner (later_part j k (precedes_has i j w sooner).1 q)

  -- what a slot that was written depends on has run
  run_closed : (i j : ℕ) → Has i h ⊎ Has i w → Depends (deps_of t) i j → Ran u j
  run_closed i j (inl m) e = still_run j (r.closed i j (r.ran i m) e)
  run_closed i j (inr m) e = ⊎_elim (still_run j) (λ n. d.marked j (d.whole j (leads_on (d.only i m).0 e) n)) (split (has_run t j))

  run_low : (i : ℕ) → Has i h ⊎ Has i w → Below u i
  run_low i (inl m) = omega (arith, d.bars (i / 32), r.low i (r.ran i m))
  run_low i (inr m) = omega (arith, d.bars (i / 32), d.ready i (d.only i m).0)

  reached_runs : Reached (h ++ w) u
  reached_runs = record {
    ran = then_run;
    listed = then_listed;
    once = once_both h w r.once d.once apart;
    closed = λ i j x e. run_closed i j (has_either i h w (then_listed i x)) (rw d.deps at e);
    low = λ i x. run_low i (has_either i h w (then_listed i x));
    ordered = record {
      inner = λ i j m k. run_inner i j (has_either i h w m) (has_either j h w k);
      outer = λ i j m k. run_outer i j (has_either i h w m) (has_either j h w k);
      together = λ i j k mates p q. run_together i j k (has_either i h w (precedes_has i j (h ++ w) p).0) (has_either k h w (precedes_has j k (h ++ w) q).1) mates p q;
    };
  }

reached_move : {h w : List ℕ} {t u : Table} → Reached h t → Move t w u → Reached (h ++ w) u
reached_move {h} r (alters a) = rw append-nil (reached_alters r a)
reached_move r (runs s d) = reached_runs r d

pub reached_moves : {h : List ℕ} {t : Table} {w : List ℕ} {u : Table} → Reached h t → Moves t w u → Reached (h ++ w) u
reached_moves {h} r still = rw append-nil r
reached_moves {h} r (then {w = w} {x = x} p m) = rw (← append_assoc h w x) (reached_move (reached_moves r p) m)
