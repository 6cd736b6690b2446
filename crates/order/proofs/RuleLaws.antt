-- Components and blocks, and that the rule admits one order.
use mathlib.Core.Path.{◌≡◌, refl, sym, ◌∙◌, subst}
use mathlib.Core.Bool.{Bool, false}
use mathlib.Core.List.{List}
use mathlib.Core.Logic.{⊎_elim}
use Prim.Native.Nat.{ℕ, ◌+◌, ◌<◌}
use native.Mathlib.Decide.{ℕ_discrete, dec_lt}
use native.Mathlib.Omega.{arith}
use lib.ListN.{set, length}
use lib.Seq.{get_or-set_other}
use Rattle.leads.specs.Depends.{Leads, here}
use Rattle.leads.proofs.PathLaws.{leads_trans}
use Rattle.order.specs.Listed.{On, how_many, Has, first, later, Once, none, more, Precedes, now_then, both_later}
use Rattle.order.specs.Paper.{Mates}
use Rattle.order.specs.Rule.{Mate, Ready, Lowest, Before, Block, over, then, without, Runs, done, next}
use Rattle.order.proofs.ListLaws.{still_other, still_on, has_none, has_cases, at_has, without_count}

-- ---- components

module _ {deps : List ℕ} where
  -- a slot is in its own component
  pub mates_self : {i : ℕ} → Mates deps i i
  mates_self = (here refl, here refl)

  -- and in that of every slot of it
  pub mates_back : {i j : ℕ} → Mates deps i j → Mates deps j i
  mates_back m = (m.1, m.0)

  -- two that share a slot are one component
  pub mates_trans : {i j k : ℕ} → Mates deps i j → Mates deps j k → Mates deps i k
  mates_trans m n = (leads_trans m.0 n.0, leads_trans n.1 m.1)

  -- with a slot all to be written that it leads to are ready
  pub ready_led : (S : List Bool) (i x : ℕ) → Ready deps S i → On S x → Leads deps i x → Ready deps S x
  ready_led S i x r on l = (on, λ k ok m. leads_trans (r.1 k ok (leads_trans l m)) l)

-- ---- what a block holds

-- two slots of which each is before the other, or is it, are one
before_both : (seq : List ℕ) (a b : ℕ) → Before seq a b → Before seq b a → a ≡ b
before_both seq a b p q = ⊎_elim
    (λ lt. ⊎_elim (λ gt. absurd (omega arith)) (λ e. absurd (omega (arith, e.0))) q)
    (λ e. ⊎_elim (λ gt. absurd (omega (arith, e.0))) (λ f. omega (arith, e.1, f.1)) q)
    p

-- the component after slot k of it is written
module _ {deps : List ℕ} {j : ℕ} (S : List Bool) (k x : ℕ) where
  pub mate_was : Mate deps (set S k false) j x → Mate deps S j x
  mate_was m = (still_on S k x m.0, m.1, m.2)

  pub mate_still : (x ≡ k → ⊥) → Mate deps S j x → Mate deps (set S k false) j x
  mate_still ne m = (get_or-set_other S k x false false ne ∙ m.0, m.1, m.2)

module _ (deps seq : List ℕ) (j : ℕ) where
  -- all in a block are of the component and to be written
  pub block_only : {S : List Bool} {B : List ℕ} → Block deps seq j S B → (x : ℕ) → Has x B → Mate deps S j x
  block_only (over f) x h = absurd (has_none x h)
  block_only (then {todo = S} {B = B} k m f b) x h = has_cases x k B h
      (λ e. subst (Mate deps S j) (sym e) m)
      (λ l. mate_was S k x (block_only b x l))

  -- and all such are in it
  pub block_all : {S : List Bool} {B : List ℕ} → Block deps seq j S B → (x : ℕ) → Mate deps S j x → Has x B
  block_all (over f) x m = absurd (f x m)
  block_all (then {todo = S} k n f b) x m = elim (ℕ_discrete x k) [
    | yes e ↦ first e
    | no ne ↦ later (block_all b x (mate_still S k x ne m))
  ]

  -- no slot is in it twice
  pub block_once : {S : List Bool} {B : List ℕ} → Block deps seq j S B → Once B
  block_once (over f) = none
  block_once (then {todo = S} k m f b) = more (λ h. still_other S k k (block_only b k h).0 refl) (block_once b)

  -- the marks left after it are fewer by as many as it holds
  pub block_count : {S : List Bool} {B : List ℕ} → Block deps seq j S B → how_many (without S B) + length B ≡ how_many S
  block_count {S} {B} b = without_count S B (block_once b) (λ x h. (block_only b x h).0)

  -- and it holds slot j
  pub block_some : {S : List Bool} {B : List ℕ} → Block deps seq j S B → On S j → 0 < length B
  block_some {B = B} b on = omega (arith, (at_has j B (block_all b j (on, here refl, here refl))).1)

  -- of two of its slots, the one that is to be written first stands first
  pub block_precedes : {S : List Bool} {B : List ℕ} → Block deps seq j S B → (i x : ℕ) → Mate deps S j i → Mate deps S j x → Before seq i x → (i ≡ x → ⊥) → Precedes i x B
  block_precedes (over f) i x m n w apart = absurd (f i m)
  block_precedes (then {todo = S} k o f b) i x m n w apart = elim (ℕ_discrete x k) [
    | yes e ↦ absurd (apart (before_both seq i x w (subst (λ (y : ℕ). Before seq y i) (sym e) (f i m))))
    | no ne ↦ elim (ℕ_discrete i k) [
      | yes e ↦ now_then e (block_all b x (mate_still S k x ne n))
      | no ni ↦ both_later (block_precedes b i x (mate_still S k i ni m) (mate_still S k x ne n) w apart)
    ]
  ]

-- ---- one order

lowest_one : (deps : List ℕ) (todo : List Bool) (i j : ℕ) → Lowest deps todo i → Lowest deps todo j → i ≡ j
lowest_one deps todo i j p q = elim (dec_lt i j) [
  | yes lt ↦ absurd (q.1 i lt p.0)
  | no ge ↦ elim (dec_lt j i) [
    | yes lt ↦ absurd (p.1 j lt q.0)
    | no le ↦ omega arith
  ]
]

module _ (deps seq : List ℕ) where
  block_one : (j : ℕ) {s t : List Bool} {B C : List ℕ} → s ≡ t → Block deps seq j s B → Block deps seq j t C → B ≡ C
  block_one j e (over f) (over g) = refl
  block_one j {s} e (over f) (then k m g c) = absurd (f k (subst (λ (x : List Bool). Mate deps x j k) (sym e) m))
  block_one j e (then k m f b) (over g) = absurd (g k (subst (λ (x : List Bool). Mate deps x j k) e m))
  block_one j e (then {todo = s} {B = B} k m f b) (then {todo = t} {B = C} x n g c) =
      let same : k ≡ x = before_both seq k x (f x (subst (λ (y : List Bool). Mate deps y j x) (sym e) n)) (g k (subst (λ (y : List Bool). Mate deps y j k) e m)) in
      let rest : B ≡ C = block_one j (cc) b c in
      cc

  runs_one : {s t : List Bool} {L M : List ℕ} → s ≡ t → Runs deps seq s L → Runs deps seq t M → L ≡ M
  runs_one e (done f) (done g) = refl
  runs_one e (done f) (next j low b r) = absurd (f j (subst (λ (x : List Bool). On x j) (sym e) low.0.0))
  runs_one e (next j low b r) (done g) = absurd (g j (subst (λ (x : List Bool). On x j) e low.0.0))
  runs_one e (next {todo = s} j {B = B} {L = L} low b r) (next {todo = t} i {B = C} {L = M} low' b' r') =
      let same : i ≡ j = lowest_one deps s i j (subst (λ (x : List Bool). Lowest deps x i) (sym e) low') low in
      let blocks : B ≡ C = block_one j e b (subst (λ (x : ℕ). Block deps seq x t C) same b') in
      let rest : L ≡ M = runs_one (cc) r r' in
      cc

  -- the rule admits one order
  pub runs_single : (todo : List Bool) (L M : List ℕ) → Runs deps seq todo L → Runs deps seq todo M → L ≡ M
  runs_single todo L M p q = runs_one refl p q
