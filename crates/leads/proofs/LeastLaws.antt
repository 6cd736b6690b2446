-- The frontier of a slot is the least shut set that the slot is in; so a search from a shut set below it ends with it.
use mathlib.Core.Path.{◌≡◌, refl, sym, ap, ◌∙◌}
use mathlib.Core.List.{List}
use mathlib.Core.Logic.{⊎_elim}
use Prim.Native.Nat.{ℕ, suc, ◌+◌, ◌*◌, ◌/◌, ◌%◌, ◌≤◌, ◌<◌}
use native.Mathlib.Nat.{not-suc-le-zero}
use native.Mathlib.Omega.{arith}
use lib.Dec.{eqb}
use lib.ListN.{length, get_or, replicate}
use lib.Seq.{ext_get_or}
use borrow.Author.Tests.{eqb-true}
use Rattle.base.proofs.Lists.{replicate_at}
use Rattle.leads.specs.Depends.{Valid, Leads, here}
use Rattle.leads.specs.Frontier.{In, round, first, frontier}
use Rattle.leads.specs.Search.{Within, ShutAt, Shut, Visited, Start}
use Rattle.leads.proofs.PathLaws.{down_to}
use Rattle.leads.proofs.FrontierLaws.{rows_at_most, given_at_most, raised_at_most, round_length, round_at, rounds_keep, first_length, first_at, fixed_dep, frontier_fixed, frontier_length, frontier_own, over}
use Rattle.leads.proofs.SearchLaws.{shut_kept}

-- ---- in every shut set that the slot is in
first_within : (i : ℕ) (C : List ℕ) → In C i → Within (first i) C
first_within i C h = rows_at_most (first i) (λ q. get_or C q 0) (first_length i)
    (λ q lt. rw (first_at i q lt)
    (given_at_most (eqb q (i / 32)) (suc (i % 32)) (get_or C q 0) (λ e. omega (arith, ap (λ (x : ℕ). get_or C x 0) (eqb-true q (i / 32) e)))))

round_within : (deps F C : List ℕ) → Shut deps C → Within F C → Within (round deps F) C
unfolding Shut ShutAt
round_within deps F C s w = rows_at_most (round deps F) (λ q. get_or C q 0) (round_length deps F)
    (λ q lt. rw (round_at deps F q lt)
    (raised_at_most deps F q (get_or C q 0) (w q) (λ j h. s j (omega (arith, h, w (j / 32))) q lt)))

pub frontier_least : (deps : List ℕ) (i : ℕ) (C : List ℕ) → Shut deps C → In C i → Within (frontier deps i) C
unfolding frontier
frontier_least deps i C s h = rounds_keep deps (λ F. Within F C) (λ F. round_within deps F C s) 224 (first i) (first_within i C h)

module _ (deps : List ℕ) (v : Valid deps) where
  -- ---- and shut
  pub frontier_shut : (i : ℕ) → i < 224 → Shut deps (frontier deps i)
  unfolding Shut ShutAt
  frontier_shut i h j inside q lt = fixed_dep deps (frontier deps i) (frontier_length deps v i) (frontier_fixed deps v i h) j q lt inside

  -- ---- where a search may start
  pub start_none : (r : ℕ) → Start deps r 0 (replicate 7 0)
  unfolding Shut
  start_none r = record {
    shut = λ j h. absurd (not-suc-le-zero (rw (replicate_at {A = ℕ} 7 (j / 32) 0) at h));
    under = λ d le lt q. omega (arith, replicate_at {A = ℕ} 7 q 0);
  }

  over_all : (i j : ℕ) → i < 224 → Leads deps i j → Within (frontier deps j) (frontier deps i)
  over_all i j h l = rows_at_most (frontier deps j) (λ q. get_or (frontier deps i) q 0) (frontier_length deps v j) (over deps v i j h l)

  -- along a row the frontier only grows
  row_grows : (r c d : ℕ) → r < 7 → c ≤ d → d < 32 → Within (frontier deps (32 * r + c)) (frontier deps (32 * r + d))
  row_grows r c d hr le lt = over_all (32 * r + d) (32 * r + c) (omega arith) (down_to deps (32 * r + d) (32 * r + d) (32 * r + c) (omega arith) (omega arith) (here refl))

  pub start_at : (r c : ℕ) (F : List ℕ) → r < 7 → c < 32 → F ≡ frontier deps (32 * r + c) → Start deps r c F
  start_at r c F hr hc e = record {
    shut = rw e (frontier_shut (32 * r + c) (omega arith));
    under = λ d le lt. rw e (row_grows r c d hr le lt);
  }

  pub start_later : (r c d : ℕ) (F : List ℕ) → c ≤ d → Start deps r c F → Start deps r d F
  start_later r c d F le s = record { shut = s.shut; under = λ e h lt. s.under e (omega arith) lt }

  -- ---- the search ends with the frontier
  pub search_is : (r c : ℕ) (F G : List ℕ) → r < 7 → c < 32 → length G ≡ 7 → Start deps r c F → Visited deps r (c + 1) F G → G ≡ frontier deps (32 * r + c)
  unfolding Shut ShutAt
  search_is r c F G hr hc len s w =
      ext_get_or 0 G (frontier deps i) (len ∙ sym (frontier_length deps v i)) (λ q lt. omega (arith, in_it q, holds q))
    where
      i : ℕ
      i = 32 * r + c

      at_r : i / 32 ≡ r
      at_r = omega arith

      at_c : i % 32 ≡ c
      at_c = omega arith

      in_it : Within G (frontier deps i)
      in_it = w.grown.least (frontier deps i) (frontier_shut i (omega arith)) (s.under c (omega arith) hc)
          (omega (arith, rw (at_r, at_c) at (frontier_own deps v i (omega arith))))

      closed : Shut deps G
      closed j h = ⊎_elim (λ old. shut_kept deps F G j w.grown.kept (s.shut j old)) (λ x. x) (w.grown.shut j h)

      holds : Within (frontier deps i) G
      holds = frontier_least deps i G closed (rw (at_r, at_c) (omega (arith, w.done)))
