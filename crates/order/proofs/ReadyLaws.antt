-- The tests say what the rule says: leading, ready, in one component; and while a slot is to be written, one is ready.
use mathlib.Core.Path.{◌≡◌, refl, sym, ◌∙◌}
use mathlib.Core.Bool.{Bool, true, false, not, ◌&&◌, ◌||◌}
use mathlib.Core.List.{List}
use mathlib.Core.Logic.{⊎_elim}
use Prim.Native.Nat.{ℕ, zero, suc, ◌/◌, ◌%◌, ◌≤◌, ◌<◌}
use native.Mathlib.Nat.{not-suc-le-zero}
use native.Mathlib.Omega.{arith}
use lib.ListN.{get_or, length}
use lib.Seq.{ext_get_or}
use borrow.Author.Tests.{lt-ltb, ltb-true}
use Rattle.base.specs.Below.{all_below}
use Rattle.base.specs.Marks.{marked}
use Rattle.base.proofs.Loops.{both_true, all_at, all_each, some_fails}
use Rattle.leads.specs.Depends.{Valid, Leads}
use Rattle.leads.specs.Frontier.{frontier}
use Rattle.leads.proofs.FrontierLaws.{sum, sum_grows, frontier_length, frontier_sound, frontier_whole, over, component}
use Rattle.order.specs.Listed.{On}
use Rattle.order.specs.Rule.{Mate, Ready}
use Rattle.order.specs.Order.{leads_to, leads_back, is_ready, is_mate}
use Rattle.order.proofs.ListLaws.{clash, split, on_short}

-- ---- truth values

-- where a and b hold, c does
abbrev Given : Bool → Bool → Bool → Type 0
Given a b c = a ≡ true → b ≡ true → c ≡ true

implied : (a b c : Bool) → (not (a && b) || c) ≡ true → Given a b c
implied true true c e f g = e
implied true false c e f g = clash false g refl
implied false b c e f g = clash false f refl

implies : (a b c : Bool) → Given a b c → (not (a && b) || c) ≡ true
implies true true c f = f refl refl
implies true false c f = refl
implies false b c f = refl

denied : (a b c : Bool) → (not (a && b) || c) ≡ false → (a ≡ true) × (b ≡ true) × (c ≡ false)
denied true true c e = (refl, refl, e)
denied true false c e = clash true refl e
denied false b c e = clash true refl e

-- a slot to be written is one of the 224
pub on_slot : (todo : List Bool) → length todo ≤ 224 → (j : ℕ) → On todo j → j < 224
on_slot todo short j on = omega (arith, on_short todo j on)

module _ (deps : List ℕ) (v : Valid deps) where
  -- the test passes where slot i leads to slot j
  pub leads_is : (i j : ℕ) → i < 224 → Leads deps i j → leads_to deps i j ≡ true
  leads_is i j h l = lt-ltb (j % 32) (get_or (frontier deps i) (j / 32) 0) (frontier_whole deps v i j h l)

  -- and where it passes, it does
  pub is_leads : (i j : ℕ) → leads_to deps i j ≡ true → Leads deps i j
  is_leads i j e = frontier_sound deps v i j (ltb-true (j % 32) (get_or (frontier deps i) (j / 32) 0) e)

  -- where j leads to k and k not back, k's frontier is smaller
  smaller : (j k : ℕ) → j < 224 → k < 224 → Leads deps j k → (Leads deps k j → ⊥) → sum (frontier deps k) 7 < sum (frontier deps j) 7
  smaller j k hj hk l away = ⊎_elim
      (λ same. absurd (away ((component deps v j k hj hk).1
      (ext_get_or 0 (frontier deps j) (frontier deps k) (frontier_length deps v j ∙ sym (frontier_length deps v k))
      (λ r lt. same r (omega (arith, frontier_length deps v j))))).1))
      (λ lt. lt)
      (sum_grows (frontier deps k) (frontier deps j) 7 (over deps v j k hj l))

  module _ (todo : List Bool) (short : length todo ≤ 224) where
    -- the test passes where slot j is ready
    pub ready_is : (j : ℕ) → Ready deps todo j → is_ready deps todo j ≡ true
    ready_is j r =
        let back = all_each (leads_back deps todo j) 224
        (λ k lt. implies (marked todo k) (leads_to deps j k) (leads_to deps k j)
        (λ on to. leads_is k j lt (r.1 k on (is_leads j k to)))) in
        rw (r.0, back)

    -- and where it passes, slot j is
    pub is_ready_lem : (j : ℕ) → is_ready deps todo j ≡ true → Ready deps todo j
    is_ready_lem j e =
        let w = both_true (marked todo j) (all_below 224 (leads_back deps todo j)) e in (
          w.0,
          λ k on l. is_leads k j
              (implied (marked todo k) (leads_to deps j k) (leads_to deps k j)
              (all_at (leads_back deps todo j) 224 w.1 k (on_slot todo short k on)) on
              (leads_is j k (on_slot todo short j w.0) l)),
        )

    -- the test passes where slot k is to be written and in slot j's component
    pub mate_is : (j k : ℕ) → j < 224 → Mate deps todo j k → is_mate deps todo j k ≡ true
    mate_is j k h m = rw (m.0, leads_is j k h m.1, leads_is k j (on_slot todo short k m.0) m.2)

    -- and where it passes, slot k is
    pub is_mate_lem : (j k : ℕ) → is_mate deps todo j k ≡ true → Mate deps todo j k
    is_mate_lem j k e =
        let w = both_true (marked todo k) (leads_to deps j k && leads_to deps k j) e in
        let q = both_true (leads_to deps j k) (leads_to deps k j) w.1 in
        (w.0, is_leads j k q.0, is_leads k j q.1)

    ready_from : (n j : ℕ) → On todo j → sum (frontier deps j) 7 < n → (x : ℕ) × Ready deps todo x
    ready_from zero j on h = absurd (not-suc-le-zero h)
    ready_from (suc n) j on h = ⊎_elim
        (λ e. (j, is_ready_lem j (rw on e)))
        (λ e.
        let w = some_fails (leads_back deps todo j) 224 e in
        let k = w.0 in
        let d = denied (marked todo k) (leads_to deps j k) (leads_to deps k j) w.2 in
        let s = smaller j k (on_slot todo short j on) w.1 (is_leads j k d.1) (λ l. clash (leads_to deps k j) (leads_is k j w.1 l) d.2) in
        ready_from n k d.0 (omega (arith, s)))
        (split (all_below 224 (leads_back deps todo j)))

-- while a slot is to be written, one is ready: one with the smallest frontier leads only to slots that lead back
pub some_ready : (deps : List ℕ) (todo : List Bool) → Valid deps → length todo ≤ 224 → (j : ℕ) → On todo j → (x : ℕ) × Ready deps todo x
some_ready deps todo v short j on = ready_from deps v todo short (suc (sum (frontier deps j) 7)) j on (omega arith)
