-- A list that satisfies the paper's relation with its ties, taken apart: the component that the rule puts first, and a rest that satisfies both.
use mathlib.Core.Path.{◌≡◌, refl, sym, ap, subst}
use mathlib.Core.Bool.{Bool}
use mathlib.Core.List.{List, [], ◌∷◌, ◌++◌}
use mathlib.Core.Logic.{◌⊎◌, inl, inr, ⊎_elim}
use Prim.Native.Nat.{ℕ, zero, suc, ◌≤◌, ◌<◌}
use native.Mathlib.Nat.{not-suc-le-zero}
use native.Mathlib.Decide.{dec_lt}
use native.Mathlib.Omega.{arith}
use lib.ListN.{get_or, length, length-append}
use Rattle.leads.specs.Depends.{Valid, Leads}
use Rattle.order.specs.Listed.{On, Has, first, later, Precedes, now_then}
use Rattle.order.specs.Paper.{Mates, Paper, ReadyAt, Beneath, Ties}
use Rattle.order.specs.Rule.{Ready, Lowest, Before, Block, without, Runs, done, next}
use Rattle.order.specs.Order.{leads_to}
use Rattle.order.proofs.ListLaws.{clash, split, has_none, has_cases, has_or, has_right, has_left, has_either, once_head, once_parts, precedes_cases, precedes_has, precedes_left, precedes_right, precedes_across, precedes_second, precedes_one_way, without_length, without_was, without_still}
use Rattle.order.proofs.ReadyLaws.{on_slot, leads_is, is_leads}
use Rattle.order.proofs.RuleLaws.{mates_self, mates_back, mates_trans, ready_led}
use Rattle.order.proofs.BlockLaws.{ranked_from, ranked_block}
use Rattle.order.proofs.OrderLaws.{some_lowest}

-- the first of the list, if any, is not of slot j's component
abbrev Stops : List ℕ → ℕ → List ℕ → Type 0
Stops deps j [] = Unit {0}
Stops deps j (x ∷ R) = Mates deps j x → ⊥

-- a list up to the first that is not of slot j's component
record Front (deps : List ℕ) (j : ℕ) (T : List ℕ) : Type 0 where
  held : List ℕ
  rest : List ℕ
  is : T ≡ held ++ rest
  mates : (k : ℕ) → Has k held → Mates deps j k
  stops : Stops deps j rest

module _ (deps : List ℕ) (v : Valid deps) where
  leads_or : (i j : ℕ) → i < 224 → Leads deps i j ⊎ (Leads deps i j → ⊥)
  leads_or i j h = ⊎_elim
      (λ e. inl (is_leads deps v i j e))
      (λ e. inr (λ l. clash (leads_to deps i j) (leads_is deps v i j h l) e))
      (split (leads_to deps i j))

  mates_or : (i j : ℕ) → i < 224 → j < 224 → Mates deps i j ⊎ (Mates deps i j → ⊥)
  mates_or i j hi hj = ⊎_elim
      (λ l. ⊎_elim (λ m. inl (l, m)) (λ n. inr (λ m. n m.1)) (leads_or j i hj))
      (λ n. inr (λ m. n m.0))
      (leads_or i j hi)

  front : (j : ℕ) → j < 224 → (T : List ℕ) → ((k : ℕ) → Has k T → k < 224) → Front deps j T
  front j hj [] low = record { held = []; rest = []; is = refl; mates = λ k h. absurd (has_none k h); stops = tt }
  front j hj (x ∷ T) low = ⊎_elim
      (λ m.
      let w = front j hj T (λ k h. low k (later h)) in
      record {
        held = x ∷ w.held;
        rest = w.rest;
        is = ap (λ (X : List ℕ). x ∷ X) w.is;
        mates = λ k h. has_cases k x w.held h (λ e. subst (Mates deps j) (sym e) m) (w.mates k);
        stops = w.stops;
      })
      (λ n. record { held = []; rest = x ∷ T; is = refl; mates = λ k h. absurd (has_none k h); stops = n })
      (mates_or j x hj (low x (first refl)))

  -- the first slot is in the component that the rule puts first
  module _ (seq : List ℕ) (S : List Bool) (short : length S ≤ 224) (h : ℕ) (T : List ℕ) (p : Paper deps seq S (h ∷ T)) (t : Ties deps seq S (h ∷ T)) where
    none_before : (k : ℕ) → Precedes k h (h ∷ T) → ⊥
    none_before k q = precedes_cases k h h T q
        (λ e g. once_head h T p.once g)
        (λ w. once_head h T p.once (precedes_has k h T w).1)

    first_ready : Ready deps S h
    first_ready =
        let on = p.only h (first refl) in
        (on, λ k ok l. ⊎_elim (λ back. back) (λ away. absurd (none_before k (p.after h k on ok l away))) (leads_or k h (on_slot S short k ok)))

    first_mate : (j : ℕ) → Lowest deps S j → Mates deps h j
    first_mate j low = ⊎_elim
        (λ m. m)
        (λ apart.
        let later-on : Has j T = has_cases j h T (p.all j low.0.0) (λ e. absurd (apart (subst (λ (x : ℕ). Mates deps x j) e mates_self))) (λ l. l) in
        let w = t.next h j (now_then refl later-on) apart (λ k on l away. absurd (away (low.0.1 k on l))) in
        absurd (low.1 w.slot (w.lowest j low.0.0 mates_self) (ready_led S h w.slot first_ready w.on w.mate.0)))
        (mates_or h j (on_slot S short h (p.only h (first refl))) (on_slot S short j low.0.0))

-- once the component has ended, none of it comes
none_after : (deps seq : List ℕ) (S : List Bool) (j h : ℕ) (A R : List ℕ) → Paper deps seq S (h ∷ (A ++ R)) → Mates deps j h → Stops deps j R → (k : ℕ) → Has k R → Mates deps j k → ⊥
none_after deps seq S j h A [] p m s k g n = has_none k g
none_after deps seq S j h A (x ∷ R) p m s k g n = has_cases k x R g
    (λ e. s (subst (Mates deps j) e n))
    (λ l. s (mates_trans m
    (p.together h x k (mates_trans (mates_back m) n) (now_then refl (has_right x A (x ∷ R) (first refl)))
    (precedes_right x k (h ∷ A) (x ∷ R) (now_then refl l)))))

module _ (deps seq : List ℕ) (S : List Bool) (j : ℕ) (B R : List ℕ) (p : Paper deps seq S (B ++ R)) (t : Ties deps seq S (B ++ R))
    (held : (k : ℕ) → Has k B → Mates deps j k) (apart : (k : ℕ) → Has k R → Mates deps j k → ⊥) where
  by_rank : (a x : ℕ) → Precedes a x B → Before seq a x
  by_rank a x q =
      elim (dec_lt (get_or seq x 0) (get_or seq a 0)) [
        | yes gt ↦ absurd (turned (p.inside x a ox oa (mates_back m) gt))
        | no le ↦ elim (dec_lt (get_or seq a 0) (get_or seq x 0)) [
          | yes lt ↦ inl lt
          | no ge ↦ elim (dec_lt x a) [
            | yes gt ↦ absurd (turned (t.equal x a ox oa (mates_back m) (omega arith) gt))
            | no up ↦ inr (omega arith, omega arith)
          ]
        ]
      ]
    where
      in_both : Has a B × Has x B
      in_both = precedes_has a x B q

      oa : On S a
      oa = p.only a (has_left a B R in_both.0)

      ox : On S x
      ox = p.only x (has_left x B R in_both.1)

      m : Mates deps a x
      m = mates_trans (mates_back (held a in_both.0)) (held x in_both.1)

      turned : Precedes x a (B ++ R) → ⊥
      turned = precedes_one_way a x (B ++ R) p.once (precedes_left a x B R q)

  -- what stands first is the component's block
  part_block : Block deps seq j S B
  part_block = ranked_block deps seq j S B (once_parts B R p.once).0 (ranked_from seq B by_rank)
      (λ k h. let m = held k h in (p.only k (has_left k B R h), m.0, m.1))
      (λ k m. ⊎_elim (λ h. h) (λ g. absurd (apart k g (m.1, m.2))) (has_either k B R (p.all k m.0)))

  on_rest : (k : ℕ) → Has k R → On (without S B) k
  on_rest k h = without_still S B k (p.only k (has_right k B R h)) (λ g. (once_parts B R p.once).2 k g h)

  -- the rest satisfies the paper's relation for the marks left
  part_paper : Paper deps seq (without S B) R
  part_paper = record {
    only = on_rest;
    all = λ k on. let w = without_was S B k on in ⊎_elim (λ h. absurd (w.1 h)) (λ g. g) (has_either k B R (p.all k w.0));
    once = (once_parts B R p.once).1;
    together = λ i x k m q s. p.together i x k m (precedes_right i x B R q) (precedes_right x k B R s);
    after = λ i x oi ox l away. precedes_second x i B R (without_was S B x ox).1
        (p.after i x (without_was S B i oi).0 (without_was S B x ox).0 l away);
    inside = λ i x oi ox m lt. precedes_second i x B R (without_was S B i oi).1
        (p.inside i x (without_was S B i oi).0 (without_was S B x ox).0 m lt);
  }

  part_next : (i x : ℕ) → Precedes i x R → (Mates deps i x → ⊥) → ReadyAt deps (without S B) R i x → Beneath deps (without S B) i x
  part_next i x q away ready =
      let w = t.next i x (precedes_right i x B R q) away still in
      record {
        slot = w.slot;
        on = without_still S B w.slot w.on (λ h. other w.slot h w.mate);
        mate = w.mate;
        lowest = λ k on m. w.lowest k (without_was S B k on).0 m;
      }
    where
      g : Has i R
      g = (precedes_has i x R q).0

      other : (k : ℕ) → Has k B → Mates deps i k → ⊥
      other k h m = apart i g (mates_trans (held k h) (mates_back m))

      still : ReadyAt deps S (B ++ R) i x
      still k on l back = ⊎_elim
          (λ h. (precedes_across k i B R h g, other k h))
          (λ n. let w = ready k (without_still S B k on n) l back in (precedes_right k i B R w.0, w.1))
          (has_or k B)

  -- and its ties
  part_ties : Ties deps seq (without S B) R
  part_ties = record {
    next = part_next;
    equal = λ i x oi ox m e lt. precedes_second i x B R (without_was S B i oi).1
        (t.equal i x (without_was S B i oi).0 (without_was S B x ox).0 m e lt);
  }

-- every list of at most n slots that satisfies the paper's relation with its ties follows the rule
abbrev Follows : List ℕ → List ℕ → ℕ → Type 0
Follows deps seq n = (S : List Bool) → length S ≤ 224 → (L : List ℕ) → length L ≤ n → Paper deps seq S L → Ties deps seq S L → Runs deps seq S L

module _ (deps seq : List ℕ) (v : Valid deps) where
  follows_none : Follows deps seq 0
  follows_none S short [] le p t = done (λ k on. has_none k (p.all k on))
  follows_none S short (h ∷ T) le p t = absurd (not-suc-le-zero le)

  follows_more : (n : ℕ) → Follows deps seq n → Follows deps seq (suc n)
  follows_more n ih S short [] le p t = done (λ k on. has_none k (p.all k on))
  follows_more n ih S short (h ∷ T) le p t =
      let w = some_lowest deps v S short h (p.only h (first refl)) in
      let j = w.0 in
      let low : Lowest deps S j = w.1 in
      let m = mates_back (first_mate deps v seq S short h T p t j low) in
      let f = front deps v j (on_slot S short j low.0.0) T (λ k g. on_slot S short k (p.only k (later g))) in
      let B = h ∷ f.held in
      let R = f.rest in
      let e : h ∷ T ≡ B ++ R = ap (λ (X : List ℕ). h ∷ X) f.is in
      let p' = subst (Paper deps seq S) e p in
      let t' = subst (Ties deps seq S) e t in
      let held : (k : ℕ) → Has k B → Mates deps j k = λ k g. has_cases k h f.held g (λ s. subst (Mates deps j) (sym s) m) (f.mates k) in
      let apart = none_after deps seq S j h f.held R p' m f.stops in
      let left : length R ≤ n = omega (arith, ap length f.is, length-append f.held R) in
      subst (Runs deps seq S) (sym e)
      (next j low (part_block deps seq S j B R p' t' held apart)
      (ih (without S B) (omega (arith, without_length S B)) R left
      (part_paper deps seq S j B R p' t' held apart) (part_ties deps seq S j B R p' t' held apart)))

  follows : (n : ℕ) → Follows deps seq n
  follows zero = follows_none
  follows (suc n) = follows_more n (follows n)

  -- what satisfies the paper's relation with its ties follows the rule
  pub paper_runs : {S : List Bool} {L : List ℕ} → length S ≤ 224 → Paper deps seq S L → Ties deps seq S L → Runs deps seq S L
  paper_runs {S} {L} short p t = follows (length L) S short L (omega arith) p t
