-- `choosing::recovery::kinds_known` meets its contract: the chain tests the kinds of every batch.
use mathlib.Core.Path.{◌≡◌, refl, ap, ◌∙◌}
use mathlib.Core.Bool.{Bool}
use Prim.Native.Nat.{ℕ, ◌+◌}
use native.Mathlib.Omega.{arith}
use borrow.Author.Tests.{tests}
use borrow.Author.Rules.{rules}
use Rattle.std.specs.List.{list_all, range_with_len}
use Rattle.std.proofs.lemmas.Iterator.{YieldsList-from_range}
use Rattle.std.proofs.lemmas.Iterator.Search.{all_from_yields_List}
use Rattle.std.proofs.lemmas.List.FromFn.{length-range_with_len, get_or-range_with_len}
use Rattle.base.specs.Below.{all_below}
use Rattle.base.proofs.Chains.{all_same, all_listed}
use Rattle.choosing.specs.Recovery.{kinds_in, kinds_known}
use Rattle.choosing.proofs.recovery.kinds_known.Goals as goal

all_range : (p : ℕ → Bool) (n : ℕ) → list_all p (range_with_len 0 n) ≡ all_below n p
all_range p n =
    all_listed p (range_with_len 0 n) 0
    ∙ rw (length-range_with_len 0 n) (all_same _ _ n (λ i l. let z : 0 + i ≡ i = omega arith in ap p (get_or-range_with_len 0 n i 0 l ∙ z)))

pub returns : goal.returns
unfolding kinds_known
returns c =
    all_from_yields_List (kinds_in c.args.votes.now) _ _ _ c.all.ensures.ran (YieldsList-from_range 0 7 7 refl refl) (λ x b q k. search (rules, tests))
    ∙ all_range (kinds_in c.args.votes.now) 7
