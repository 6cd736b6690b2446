-- The examples hold, by computing.
use mathlib.Core.Path.{◌≡◌, refl, ap, ap₂, ◌∙◌, subst, subst⁻¹}
use mathlib.Core.Bool.{true, false, ◌&&◌}
use mathlib.Core.List.{List, [], ◌∷◌, flat_map}
use mathlib.Core.Logic.{inl}
use Prim.Native.Nat.{ℕ}
use native.Mathlib.Omega.{arith}
use native.Mathlib.Nat.{suc-ne-zero}
use Rattle.base.specs.Below.{all_below}
use Rattle.base.specs.declared.status.Status.TheVariants.{Executed}
use Rattle.deps.specs.Sets.{same_set}
use Rattle.deps.specs.Batches.{same_request, same_batch}
use Rattle.votes.specs.Contents.{same_contents}
use Rattle.leads.specs.Depends.{named, Leads, here, step}
use Rattle.order.specs.Listed.{first, Once, Precedes, now_then}
use Rattle.order.proofs.ListLaws.{has_none, once_head, precedes_cases, precedes_none}
use Rattle.attempts.specs.Reads.{has_run, deps_of}
use Rattle.copies.specs.Copies.{begun, ends, history_of, is_steady, agree, comparable, Ran, SameOrder}
use Rattle.controls.specs.Examples.{crossing, one, two, Crosses, Met, ByArrival, again, Twice, other, Differ}
use Rattle.controls.proofs.CaseLaws.{Plays}
use Rattle.controls.proofs.CaseTables.{sets_with}
use Rattle.controls.proofs.TwiceCase.{alone_plays}
use Rattle.controls.proofs.CrossingCase.{crossed, crossed_sets, one_plays, other_plays}
use Rattle.controls.proofs.TwoCase.{closed, two_plays}

-- ---- the premises can be met

one_steady : is_steady one ≡ true
one_steady = one_plays.keeps

two_steady : is_steady two ≡ true
two_steady = two_plays.keeps

agreed : agree (crossed 2 Executed 1) (closed Executed 1) ≡ true
unfolding crossed closed all_below agree same_contents same_set same_batch same_request
agreed = refl

asked : comparable one two ≡ true
unfolding comparable
asked = ap₂ ◌&&◌ one_steady (ap₂ ◌&&◌ two_steady (ap₂ agree one_plays.leaves two_plays.leaves ∙ agreed))

there : Leads (sets_with 1 1) 0 32
unfolding sets_with
there = step {j = 32} (named (omega arith) refl) (here refl)

back : Leads (sets_with 1 1) 32 0
unfolding sets_with
back = step {j = 0} (named (omega arith) refl) (here refl)

crosses : {seq : ℕ} {w : List ℕ} → Plays (begun (crossing seq)) (crossing seq).calls w (crossed seq Executed 1) true → Crosses (crossing seq)
crosses {seq} p =
    let sets : deps_of (ends (crossing seq)) ≡ sets_with 1 1 = ap deps_of p.leaves ∙ crossed_sets seq Executed in
    record { there = subst⁻¹ (λ deps. Leads deps 0 32) sets there; back = subst⁻¹ (λ deps. Leads deps 32 0) sets back }

pub premises_met : Met
premises_met = record { asked = asked; crosses = crosses one_plays; one_ran = one_plays.wrote; two_ran = two_plays.wrote }

-- ---- by arrival

not_before : Precedes 32 0 (0 ∷ 32 ∷ []) → ⊥
not_before h =
    precedes_cases 32 0 0 (32 ∷ []) h (λ e _. absurd (suc-ne-zero 31 e))
    (λ l. precedes_cases 32 0 32 [] l (λ _ m. has_none 0 m) (precedes_none 32 0))

pub arrivals_differ : ByArrival
unfolding flat_map
arrivals_differ = record { one_arrived = refl; two_arrived = refl; not_same = λ same. not_before (same.0.1 (now_then refl (first refl))) }

-- ---- what is committed has to stay

again_unsteady : is_steady again ≡ false
again_unsteady = alone_plays.keeps

twice_not : Once (0 ∷ 0 ∷ []) → ⊥
twice_not h = once_head 0 (0 ∷ []) h (first refl)

pub runs_twice : Twice
runs_twice =
    record {
      unsteady = again_unsteady;
      ran_twice = alone_plays.wrote;
      not_claimed = λ c. twice_not (subst Once alone_plays.wrote c.once);
    }

-- ---- the copies have to agree

other_steady : is_steady other ≡ true
other_steady = other_plays.keeps

at_odds : agree (crossed 2 Executed 1) (crossed 1 Executed 1) ≡ false
unfolding crossed all_below agree same_contents same_set same_batch same_request
at_odds = refl

first_run : (seq : ℕ) → has_run (crossed seq Executed 1) 0 ≡ true
unfolding crossed
first_run seq = refl

second_run : (seq : ℕ) → has_run (crossed seq Executed 1) 32 ≡ true
unfolding crossed
second_run seq = refl

one_first : Ran (ends one) 0
one_first = ap (λ t. has_run t 0) one_plays.leaves ∙ first_run 2

one_second : Ran (ends one) 32
one_second = ap (λ t. has_run t 32) one_plays.leaves ∙ second_run 2

other_first : Ran (ends other) 0
other_first = ap (λ t. has_run t 0) other_plays.leaves ∙ first_run 1

other_second : Ran (ends other) 32
other_second = ap (λ t. has_run t 32) other_plays.leaves ∙ second_run 1

-- 1.0 is before 0.0 in the one history and not in the other
other_order : SameOrder 32 0 (history_of one) (history_of other) → ⊥
other_order same =
    not_before (subst (Precedes 32 0) other_plays.wrote
    (same.0.0 (subst⁻¹ (Precedes 32 0) one_plays.wrote (now_then refl (first refl)))))

pub orders_differ : Differ
orders_differ =
    record {
      one_steady = one_steady;
      other_steady = other_steady;
      at_odds = ap₂ agree one_plays.leaves other_plays.leaves ∙ at_odds;
      crosses = crosses other_plays;
      orders = (one_plays.wrote, other_plays.wrote);
      not_claimed = λ c. other_order (c.order 32 0 (inl (crosses one_plays).back) one_second one_first other_second other_first);
    }
