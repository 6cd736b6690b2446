-- The theorem on two copies: what specs/Copies.antt claims of any two copies that pass its test.
use mathlib.Core.Path.{◌≡◌}
use mathlib.Core.Logic.{⊎_elim}
use mathlib.Core.Bool.{true, ◌&&◌}
use Prim.Native.Nat.{ℕ}
use lib.Dec.{eqb}
use Rattle.base.proofs.Loops.{both_true}
use Rattle.copies.specs.Copies.{Copy, ends, history_of, is_steady, agree, comparable, Claimed, Claims}
use Rattle.copies.proofs.Moves.{Reached, ran_leads}
use Rattle.copies.proofs.OrderLaws.{agree_sym, same_order}
use Rattle.copies.proofs.SettledLaws.{agree_same}
use Rattle.copies.proofs.AttemptClaim.{all_or_nothing, each_all_or_nothing}
use Rattle.copies.proofs.RunLaws.{first_of, copy_sized, copy_reached, first_steady}

-- of one copy, whatever the other does
pub one_copy : (c : Copy) → is_steady c ≡ true → Claimed c
one_copy c s =
    let r = copy_reached c s in
    record {
      once = r.once;
      exactly = λ i. (r.ran i, r.listed i);
      ordered = r.ordered;
      whole = λ k. ran_leads (first k);
      attempts = λ k. all_or_nothing (first k) (copy_sized (first_of k c));
      logged = λ k. each_all_or_nothing (first k) (copy_sized (first_of k c));
    }
  where
    -- what holds after its first k events
    first : (k : ℕ) → Reached (history_of (first_of k c)) (ends (first_of k c))
    first k = copy_reached (first_of k c) (first_steady k c s)

pub two_copies : (a b : Copy) → comparable a b ≡ true → Claims a b
unfolding comparable
two_copies a b h =
    let x = both_true (eqb a.config.n b.config.n) (is_steady a && (is_steady b && agree (ends a) (ends b))) h in
    let w = both_true (is_steady a) (is_steady b && agree (ends a) (ends b)) x.1 in
    let v = both_true (is_steady b) (agree (ends a) (ends b)) w.1 in
    let r = copy_reached a w.0 in
    let s = copy_reached b v.0 in
    let same = agree_same (ends a) (ends b) (copy_sized a) v.1 in
    record {
      order = λ i j leads ai aj bi bj. ⊎_elim
          (λ l. same_order r s same i j l ai aj bi bj)
          (λ l. let o = same_order s r (agree_sym same) i j l bi bj ai aj in ((o.0.1, o.0.0), (o.1.1, o.1.0)))
          leads;
      first = one_copy a w.0;
      second = one_copy b v.0;
    }
