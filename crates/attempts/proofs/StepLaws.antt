-- The steps of an attempt, from the tests that they have passed.
use mathlib.Core.Path.{◌≡◌, refl, sym, ap, ◌∙◌}
use mathlib.Core.Bool.{Bool, true, false}
use mathlib.Core.List.{List}
use Prim.Native.Nat.{ℕ, ◌+◌, ◌-◌, ◌≤◌}
use native.Mathlib.Omega.{arith}
use lib.ListN.{length, replicate}
use lib.Seq.{sets}
use Rattle.base.specs.declared.answer.Answer.TheVariants.{Done, NotYet, Already}
use Rattle.bounds.specs.Bounds.{table_fits}
use Rattle.table.specs.Place.{index_of}
use Rattle.table.specs.declared.place.Place.{Place}
use Rattle.table.specs.declared.table.Table.{Table}
use Rattle.leads.specs.Depends.{Valid}
use Rattle.leads.specs.Frontier.{frontier}
use Rattle.leads.specs.Search.{Start}
use Rattle.leads.proofs.LeastLaws.{start_none, start_later}
use Rattle.order.specs.Listed.{how_many}
use Rattle.order.specs.Order.{order_of}
use Rattle.attempts.specs.Reads.{has_run, deps_of, seqs_of}
use Rattle.attempts.specs.Attempt.{reached, all_below_bars, waiting_in, ran_with, to_run, tried, attempt_on, order_on, unrun}
use Rattle.attempts.proofs.ReadLaws.{deps_valid}
use Rattle.attempts.proofs.WaitingLaws.{waiting_room}

module _ (t : Table) (at : Place) (from : ℕ) (list : List ℕ) where
  pub step_already : has_run t (index_of at) ≡ true → (tried Already t at ≡ attempt_on t at) × (list ≡ order_on t at from list)
  unfolding attempt_on order_on
  step_already e = (rw e refl, rw e refl)

  module _ (not-run : has_run t (index_of at) ≡ false) (deps F : List ℕ) (d : deps ≡ deps_of t) (f : F ≡ frontier deps (index_of at)) where
    is_reached : F ≡ reached t at
    unfolding reached
    is_reached = f ∙ ap (λ (x : List ℕ). frontier x (index_of at)) d

    pub step_notyet : all_below_bars t F ≡ false → (tried NotYet t at ≡ attempt_on t at) × (list ≡ order_on t at from list)
    unfolding attempt_on order_on
    step_notyet b =
        let e = ap (all_below_bars t) (sym is_reached) ∙ b in
        (rw (not-run, e) refl, rw (not-run, e) refl)

    module _ (seqs : List ℕ) (marks : List Bool) (s : seqs ≡ seqs_of t) (m : marks ≡ waiting_in t F) where
      is_to_run : marks ≡ to_run t at
      unfolding to_run
      is_to_run = m ∙ ap (waiting_in t) is_reached

      is_order : order_of deps seqs marks ≡ order_of (deps_of t) (seqs_of t) (to_run t at)
      is_order = rw (d, s, is_to_run) refl

      -- there is room in the list
      pub step_room : (entries : ℕ) → from + unrun t ≤ entries → from + how_many marks ≤ entries
      step_room entries room = omega (arith, ap how_many m, waiting_room t F)

      pub step_done : (end : ℕ) (after : Table) → all_below_bars t F ≡ true → end ≡ from + length (order_of deps seqs marks) → after ≡ ran_with t marks
          → (record { answer = Done; table = after; ran = end - from } ≡ attempt_on t at) × (sets list from (order_of deps seqs marks) ≡ order_on t at from list)
      unfolding attempt_on order_on
      step_done end after b e a =
          let below = ap (all_below_bars t) (sym is_reached) ∙ b in
          let many : end - from ≡ length (order_of (deps_of t) (seqs_of t) (to_run t at)) = omega (arith, ap length is_order) in
          (rw (not-run, below, many, a, is_to_run) refl, rw (not-run, below, is_order) refl)

-- the search may start with nothing seen
pub step_start : (t : Table) → table_fits t ≡ true → (deps : List ℕ) → deps ≡ deps_of t → (row col : ℕ) → Valid deps × Start deps row col (replicate 7 0)
step_start t h deps d row col =
    let v : Valid deps = rw d (deps_valid t h) in
    (v, start_later deps v row 0 col (replicate 7 0) (omega arith) (start_none deps v row))
