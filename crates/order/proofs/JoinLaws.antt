-- A component put before the rest: together they satisfy the paper's relation with its ties where the rest does.
use mathlib.Core.Path.{◌≡◌, refl, ap, subst}
use mathlib.Core.Bool.{Bool, true, false}
use mathlib.Core.List.{List, [], ◌∷◌, ◌++◌}
use mathlib.Core.Logic.{inl, inr, ⊎_elim}
use Prim.Native.Nat.{ℕ, zero, suc, ◌<◌}
use native.Mathlib.Decide.{ℕ_discrete, dec_lt}
use native.Mathlib.Omega.{arith}
use lib.ListN.{get_or}
use Rattle.leads.specs.Depends.{Leads}
use Rattle.leads.proofs.PathLaws.{leads_trans}
use Rattle.order.specs.Listed.{On, Has, Once, Precedes}
use Rattle.order.specs.Paper.{Mates, Paper, ReadyAt, Beneath, Ties}
use Rattle.order.specs.Rule.{Lowest, Before, Block, without}
use Rattle.order.proofs.ListLaws.{clash, has_or, has_left, has_right, has_either, once_both, precedes_has, precedes_left, precedes_right, precedes_across, precedes_either, precedes_second, without_was, without_still}
use Rattle.order.proofs.RuleLaws.{mates_back, mates_trans, ready_led, block_only, block_all, block_once, block_precedes}

-- a fact that is refuted for no marked slot is not refuted for all of them together
not_none : (S : List Bool) (P : ℕ → Type 0) → ((x : ℕ) → On S x → (P x → ⊥) → ⊥) → (((x : ℕ) → On S x → P x) → ⊥) → ⊥
not_none [] P f n = n (λ x on. clash false on refl)
not_none (true ∷ S) P f n = f 0 refl (λ p. not_none S (λ x. P (suc x)) (λ x. f (suc x)) (λ g. n (go p g)))
  where
    go : P 0 → ((x : ℕ) → On S x → P (suc x)) → (x : ℕ) → On (true ∷ S) x → P x
    go p g zero on = p
    go p g (suc x) on = g x on
not_none (false ∷ S) P f n = not_none S (λ x. P (suc x)) (λ x. f (suc x)) (λ g. n (go g))
  where
    go : ((x : ℕ) → On S x → P (suc x)) → (x : ℕ) → On (false ∷ S) x → P x
    go g zero on = clash false on refl
    go g (suc x) on = g x on

-- a component that the rule puts first, then what satisfies the paper's relation for the marks left
module _ (deps seq : List ℕ) (S : List Bool) (j : ℕ) (B L : List ℕ) (low : Lowest deps S j) (b : Block deps seq j S B) (p : Paper deps seq (without S B) L) where
  block_mates : (i x : ℕ) → Has i B → Has x B → Mates deps i x
  block_mates i x h g =
      let m = block_only deps seq j b i h in
      let n = block_only deps seq j b x g in
      mates_trans (m.2, m.1) (n.1, n.2)

  with_mate : (i x : ℕ) → Has i B → On S x → Mates deps i x → Has x B
  with_mate i x h on q =
      let m = block_only deps seq j b i h in
      let n : Mates deps j x = mates_trans (m.1, m.2) q in
      block_all deps seq j b x (on, n.0, n.1)

  on_later : (k : ℕ) → Has k L → On S k × (Has k B → ⊥)
  on_later k h = without_was S B k (p.only k h)

  joined_only : (k : ℕ) → Has k (B ++ L) → On S k
  joined_only k h = ⊎_elim (λ l. (block_only deps seq j b k l).0) (λ l. (on_later k l).0) (has_either k B L h)

  joined_all : (k : ℕ) → On S k → Has k (B ++ L)
  joined_all k on = ⊎_elim (has_left k B L) (λ n. has_right k B L (p.all k (without_still S B k on n))) (has_or k B)

  joined_once : Once (B ++ L)
  joined_once = once_both B L (block_once deps seq j b) p.once (λ k h l. (on_later k l).1 h)

  joined_together : (i x k : ℕ) → Mates deps i k → Precedes i x (B ++ L) → Precedes x k (B ++ L) → Mates deps i x
  joined_together i x k m q s = ⊎_elim
      (λ u. let w = precedes_has i x B u in block_mates i x w.0 w.1)
      (λ u. let f = after_x (⊎_elim (λ y. y.1) (λ y. (precedes_has i x L y).1) u) in
      ⊎_elim
      (λ y. let h = (precedes_has x k L f).1 in
      absurd ((on_later k h).1 (with_mate i k y.0 (on_later k h).0 m)))
      (λ y. p.together i x k m y f)
      u)
      (precedes_either i x B L q)
    where
      after_x : Has x L → Precedes x k L
      after_x h = precedes_second x k B L (on_later x h).1 s

  joined_after : (i x : ℕ) → On S i → On S x → Leads deps i x → (Leads deps x i → ⊥) → Precedes x i (B ++ L)
  joined_after i x oi ox l away = ⊎_elim
      (λ h. absurd (away ((ready_led S j i low.0 oi (block_only deps seq j b i h).1).1 x ox l)))
      (λ n. ⊎_elim
      (λ h. precedes_across x i B L h (p.all i (without_still S B i oi n)))
      (λ k. precedes_right x i B L (p.after i x (without_still S B i oi n) (without_still S B x ox k) l away))
      (has_or x B))
      (has_or i B)

  -- where the rest has i before x as well, all has
  joined_rank : (i x : ℕ) → On S i → On S x → Mates deps i x → Before seq i x → (i ≡ x → ⊥)
      → (On (without S B) i → On (without S B) x → Precedes i x L) → Precedes i x (B ++ L)
  joined_rank i x oi ox m w apart rest = ⊎_elim
      (λ h. precedes_left i x B L
      (block_precedes deps seq j b i x (block_only deps seq j b i h) (block_only deps seq j b x (with_mate i x h ox m)) w apart))
      (λ n. precedes_right i x B L
      (rest (without_still S B i oi n) (without_still S B x ox (λ h. n (with_mate x i h oi (mates_back m))))))
      (has_or i B)

  -- both together satisfy the paper's relation
  pub joined_paper : Paper deps seq S (B ++ L)
  joined_paper = record {
    only = joined_only;
    all = joined_all;
    once = joined_once;
    together = joined_together;
    after = joined_after;
    inside = λ i x oi ox m lt. joined_rank i x oi ox m (inl lt)
        (λ e. absurd (omega (arith, ap (λ (y : ℕ). get_or seq y 0) e)))
        (λ u v. p.inside i x u v m lt);
  }

  module _ (t : Ties deps seq (without S B) L) where
    -- before a slot of the first component stand only slots of it
    leads_block : (y i : ℕ) → Has i B → Precedes y i (B ++ L) → Mates deps i y
    leads_block y i h q = ⊎_elim
        (λ u. block_mates i y h (precedes_has y i B u).0)
        (λ u. ⊎_elim
        (λ w. absurd ((on_later i w.1).1 h))
        (λ w. absurd ((on_later i (precedes_has y i L w).1).1 h))
        u)
        (precedes_either y i B L q)

    -- what was ready with the first component does not hold a lower slot
    next_first : (i x : ℕ) → Has i B → Has x L → ReadyAt deps S (B ++ L) i x → (k : ℕ) → On S k → Mates deps x k → j < k
    next_first i x h g ready k on m = elim (dec_lt j k) [
      | yes lt ↦ lt
      | no ge ↦ elim (ℕ_discrete k j) [
        | yes e ↦
            let w : Mates deps x j = subst (λ (y : ℕ). Mates deps x y) e m in
            absurd ((on_later x g).1 (block_all deps seq j b x ((on_later x g).0, w.1, w.0)))
        | no ne ↦ absurd
            (not_none S (λ y. Leads deps k y → Leads deps y k)
            (λ y oy n. n (λ l. absurd (barred y oy l (λ back. n (λ l'. back)))))
            (λ all. low.1 k (omega arith) (on, all)))
      ]
    ]
      where
        barred : (y : ℕ) → On S y → Leads deps k y → (Leads deps y k → ⊥) → ⊥
        barred y oy l away =
            let w = ready y oy (leads_trans m.0 l) (λ back. away (leads_trans back m.0)) in
            w.1 (leads_block y i h w.0)

    next_later : (i x : ℕ) → Precedes i x L → (Mates deps i x → ⊥) → ReadyAt deps S (B ++ L) i x → Beneath deps S i x
    next_later i x q apart ready =
        let w = t.next i x q apart still in
        record {
          slot = w.slot;
          on = (without_was S B w.slot w.on).0;
          mate = w.mate;
          lowest = λ k on m. w.lowest k (without_still S B k on (λ h. (on_later x g).1 (with_mate k x h (on_later x g).0 (mates_back m)))) m;
        }
      where
        g : Has x L
        g = (precedes_has i x L q).1

        still : ReadyAt deps (without S B) L i x
        still k on l away =
            let o = without_was S B k on in
            let w = ready k o.0 l away in
            (precedes_second k i B L o.1 w.0, w.1)

    joined_next : (i x : ℕ) → Precedes i x (B ++ L) → (Mates deps i x → ⊥) → ReadyAt deps S (B ++ L) i x → Beneath deps S i x
    joined_next i x q apart ready = ⊎_elim
        (λ u. let w = precedes_has i x B u in absurd (apart (block_mates i x w.0 w.1)))
        (λ u. ⊎_elim
        (λ w.
        let m = block_only deps seq j b i w.0 in
        record { slot = j; on = low.0.0; mate = (m.2, m.1); lowest = next_first i x w.0 w.1 ready })
        (λ w. next_later i x w apart ready)
        u)
        (precedes_either i x B L q)

    -- and have its ties
    pub joined_ties : Ties deps seq S (B ++ L)
    joined_ties = record {
      next = joined_next;
      equal = λ i x oi ox m e lt. joined_rank i x oi ox m (inr (e, omega arith)) (λ s. absurd (omega arith)) (λ u v. t.equal i x u v m e lt);
    }
