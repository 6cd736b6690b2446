-- Frontiers and orders computed in few steps: a round that changes nothing is the last, and an order asks for few frontiers.
use mathlib.Core.Path.{◌≡◌, refl, ap, ◌∙◌, fun_ext}
use mathlib.Core.Bool.{Bool, true, false, cond, not, ◌&&◌, ◌||◌}
use mathlib.Core.List.{List, [], ◌∷◌, ◌++◌}
use Prim.Native.Nat.{ℕ, zero, suc}
use lib.Dec.{eqb}
use borrow.Author.Tests.{eqb-true}
use Rattle.base.specs.Below.{all_below}
use Rattle.base.specs.Marks.{marked}
use Rattle.leads.specs.Frontier.{is_in, round, rounds, first, frontier}
use Rattle.order.specs.Rule.{without}
use Rattle.order.specs.Order.{passing, sorted, component, with_first, order_in, order_of}

-- ---- a frontier

rounds_rest : (deps F : List ℕ) → round deps F ≡ F → (n : ℕ) → rounds deps n F ≡ F
unfolding rounds
rounds_rest deps F e zero = refl
rounds_rest deps F e (suc n) = ap (rounds deps n) e ∙ rounds_rest deps F e n

-- a second round changes nothing any more
pub record Rests (deps : List ℕ) (i : ℕ) (F : List ℕ) : Type 0 where
  pub once : round deps (first i) ≡ F
  pub again : round deps F ≡ F

pub frontier_rest : {deps : List ℕ} {i : ℕ} {F : List ℕ} → Rests deps i F → frontier deps i ≡ F
unfolding rounds frontier
frontier_rest {deps} {i} {F} r = ap (rounds deps 223) r.once ∙ rounds_rest deps F r.again 223

-- ---- an order, by the frontiers of the slots

abbrev back_by : (ℕ → List ℕ) → List Bool → ℕ → ℕ → Bool
back_by reach todo j k = not (marked todo k && is_in (reach j) k) || is_in (reach k) j

abbrev ready_by : (ℕ → List ℕ) → List Bool → ℕ → Bool
ready_by reach todo j = marked todo j && all_below 224 (back_by reach todo j)

abbrev mate_by : (ℕ → List ℕ) → List Bool → ℕ → ℕ → Bool
mate_by reach todo j k = marked todo k && (is_in (reach j) k && is_in (reach k) j)

unfoldable pub component_by : (ℕ → List ℕ) → List ℕ → List Bool → ℕ → List ℕ
component_by reach seq todo j = sorted seq (passing 224 (mate_by reach todo j))

unfoldable pub order_by : (ℕ → List ℕ) → List ℕ → ℕ → List Bool → List ℕ
order_by reach seq zero todo = []
order_by reach seq (suc n) todo =
    with_first (passing 224 (ready_by reach todo))
    (λ j. component_by reach seq todo j ++ order_by reach seq n (without todo (component_by reach seq todo j)))

order_by_lem : (deps seq : List ℕ) (n : ℕ) (todo : List Bool) → order_in deps seq n todo ≡ order_by (frontier deps) seq n todo
unfolding order_in component order_by component_by
order_by_lem deps seq zero todo = refl
order_by_lem deps seq (suc n) todo =
    ap (with_first (passing 224 (ready_by (frontier deps) todo)))
    (fun_ext (λ j. ap (λ L. component_by (frontier deps) seq todo j ++ L) (order_by_lem deps seq n (without todo (component_by (frontier deps) seq todo j)))))

-- ---- with some of the frontiers known

-- slots with their frontiers
pub data Known (deps : List ℕ) : List (ℕ × List ℕ) → Type 0 where
  none : Known deps []
  more : {i : ℕ} {F : List ℕ} {known : List (ℕ × List ℕ)} → frontier deps i ≡ F → Known deps known → Known deps ((i, F) ∷ known)

unfoldable pub reach_by : List (ℕ × List ℕ) → (ℕ → List ℕ) → ℕ → List ℕ
reach_by [] reach k = reach k
reach_by ((i, F) ∷ known) reach k = cond (eqb k i) F (reach_by known reach k)

reach_one : (deps F G : List ℕ) (i k : ℕ) (b : Bool) → eqb k i ≡ b → frontier deps i ≡ F → frontier deps k ≡ G → frontier deps k ≡ cond b F G
reach_one deps F G i k true e f g = ap (frontier deps) (eqb-true k i e) ∙ f
reach_one deps F G i k false e f g = g

reach_same : {deps : List ℕ} {known : List (ℕ × List ℕ)} → Known deps known → (k : ℕ) → frontier deps k ≡ reach_by known (frontier deps) k
unfolding reach_by
reach_same none k = refl
reach_same {deps} (more {i} {F} {known} e rest) k = reach_one deps F (reach_by known (frontier deps) k) i k (eqb k i) refl e (reach_same rest k)

pub order_known : {deps : List ℕ} {known : List (ℕ × List ℕ)} → Known deps known → (seq : List ℕ) (todo : List Bool)
    → order_of deps seq todo ≡ order_by (reach_by known (frontier deps)) seq 224 todo
unfolding order_of
order_known {deps} h seq todo = order_by_lem deps seq 224 todo ∙ ap (λ reach. order_by reach seq 224 todo) (fun_ext (reach_same h))
