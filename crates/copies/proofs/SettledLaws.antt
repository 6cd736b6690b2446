-- What the tests say: equal contents, what is committed kept, two tables that agree.
use mathlib.Core.Path.{◌≡◌, sym, ◌∙◌}
use mathlib.Core.Bool.{Bool, true, false, not, true≢false, ◌&&◌, ◌||◌}
use Prim.Native.Nat.{ℕ, ◌/◌, ◌%◌, ◌<◌, ◌≤◌}
use native.Mathlib.Decide.{dec_lt}
use native.Mathlib.Omega.{arith}
use borrow.Author.Tests.{ltb-true, leb-true, eqb-true, eq-eqb}
use lib.ListN.{get_or-eq_default}
use Rattle.base.specs.Status.{rank_of}
use Rattle.base.specs.declared.status.Status.{Status}
use Rattle.base.specs.declared.status.Status.TheVariants.{Null, PreAccepting, Accepting, Committed, Executed}
use Rattle.base.proofs.Loops.{both_true, all_at}
use Rattle.deps.specs.Sets.{number, same_row, same_set}
use Rattle.deps.specs.declared.sets.DepSet.{DepSet}
use Rattle.votes.specs.Contents.{same_contents}
use Rattle.table.specs.Table.{len_of, slot_no}
use Rattle.table.specs.declared.table.Table.{Table}
use Rattle.attempts.specs.Reads.{is_held_no}
use Rattle.attempts.proofs.ReadLaws.{deps_number, seqs_at}
use Rattle.steps.proofs.KeepLaws.{Sized}
use Rattle.copies.specs.Copies.{holds_committed, same_slot, keeps_slot, keeps_committed, agrees_on, agree, Ran}
use Rattle.copies.proofs.Moves as moves
use Rattle.copies.proofs.Moves.{ran_held, ran_committed, Same, Alters}
use Rattle.copies.proofs.OrderLaws.{Agree}

-- one of two tests passes, and it is not the first
or_else_lem : (a b : Bool) → a ≡ true → (not a || b) ≡ true → b ≡ true
or_else_lem true b e h = h
or_else_lem false b e h = absurd (true≢false (sym e))

pub both_are : {a b : Bool} → a ≡ true → b ≡ true → (a && b) ≡ true
both_are p q = rw (p, q)

-- a slot in the table is one of 224
pub held_low : {t : Table} → Sized t → (i : ℕ) → is_held_no t i ≡ true → i < 224
held_low {t} s i h = elim (dec_lt (i / 32) 7) [
  | yes l ↦ omega arith
  | no n ↦ absurd (omega (arith, ltb-true (i % 32) (len_of t (i / 32)) h, get_or-eq_default t.lens 0 {n = i / 32} (omega (arith, s.rows))))
]

-- ---- equal contents

same_number : (a b : DepSet) → same_set a b ≡ true → (row : ℕ) → row < 7 → number a row ≡ number b row
unfolding same_set
same_number a b h row l = eqb-true (number a row) (number b row) (all_at (same_row a b) 7 h row l)

pub same_contents_lem : (t u : Table) (i : ℕ) → i < 224 → is_held_no t i ≡ true → is_held_no u i ≡ true → same_slot (slot_no t i) (slot_no u i) ≡ true → Same t u i
unfolding same_contents
same_contents_lem t u i l p q h =
    let w = both_true _ _ h in
    let v = both_true _ _ w.1 in
    record {
      seq = seqs_at t i l ∙ eqb-true _ _ w.0 ∙ sym (seqs_at u i l);
      deps = λ row m. deps_number t i row l m ∙ rw (p, q) (same_number (slot_no t i).deps (slot_no u i).deps v.0 row m) ∙ sym (deps_number u i row l m);
    }

-- ---- a status

rank_most : (s : Status) → rank_of s ≤ 4
rank_most Null = omega arith
rank_most PreAccepting = omega arith
rank_most Accepting = omega arith
rank_most Committed = omega arith
rank_most Executed = omega arith

-- ---- what is committed is kept

-- what the test says of a slot that is committed
record Kept (t u : Table) (i : ℕ) : Type 0 where
  held : is_held_no t i ≡ true
  still_held : is_held_no u i ≡ true
  settled : 3 ≤ rank_of (slot_no t i).status
  not_lower : rank_of (slot_no t i).status ≤ rank_of (slot_no u i).status
  same : Same t u i

module _ (t u : Table) (sized : Sized t) (keeps : keeps_committed t u ≡ true) where
  kept : (i : ℕ) → moves.Committed t i → Kept t u i
  unfolding keeps_committed
  kept i c =
      let h = both_true _ _ c in
      let l = held_low sized i h.0 in
      let w = both_true _ _ (or_else_lem (holds_committed t i) _ c (all_at (keeps_slot t u) 224 keeps i l)) in
      let v = both_true _ _ w.1 in
      record {
        held = h.0;
        still_held = w.0;
        settled = leb-true _ _ h.1;
        not_lower = leb-true _ _ v.0;
        same = same_contents_lem t u i l h.0 w.0 v.1;
      }

  still_run : (i : ℕ) → Ran t i → Ran u i
  still_run i r =
      let k = kept i (ran_committed t i r) in
      rw k.still_held (eq-eqb (rank_of (slot_no u i).status) 4 (omega (arith, (ran_held t i r).1, k.not_lower, rank_most (slot_no u i).status)))

  -- a call that runs nothing and moves no bar
  pub alters_slots : ((i : ℕ) → Ran u i → Ran t i) → u.bars ≡ t.bars → Alters t u
  alters_slots unrun bars = record {
    same = λ i c. (kept i c).same;
    ran = still_run;
    unrun = unrun;
    bars = λ row. rw bars (omega arith);
  }

-- ---- two tables agree

pub agree_same : (t u : Table) → Sized t → agree t u ≡ true → Agree t u
unfolding agree
agree_same t u sized a i c d =
    let h = both_true _ _ c in
    let l = held_low sized i h.0 in
    same_contents_lem t u i l h.0 (both_true _ _ d).0 (or_else_lem (holds_committed t i && holds_committed u i) (same_slot (slot_no t i) (slot_no u i)) (both_are c d) (all_at (agrees_on t u) 224 a i l))
