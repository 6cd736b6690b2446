-- Two tables that moves have reached, and that agree where both hold a slot committed, have run slots in the same order.
use mathlib.Core.Path.{◌≡◌, sym, subst}
use mathlib.Core.List.{List}
use mathlib.Core.Logic.{◌⊎◌, inl, inr, ⊎_elim}
use Prim.Native.Nat.{ℕ, ◌<◌}
use native.Mathlib.Omega.{arith}
use native.Mathlib.Decide.{dec_lt}
use lib.ListN.{get_or}
use Rattle.table.specs.declared.table.Table.{Table}
use Rattle.order.specs.Listed.{Has, first, later, Precedes, now_then, both_later}
use Rattle.order.proofs.ListLaws.{precedes_has, precedes_one_way}
use Rattle.attempts.specs.Reads.{seqs_of}
use Rattle.copies.specs.Copies.{Ran, LeadsTo, Sooner, SameOrder}
use Rattle.copies.proofs.Moves.{Committed, Same, same_sym, Reached, ran_committed, depends_same, leads_same}

-- of two slots in a list one stands before the other
one_first : (i j : ℕ) (L : List ℕ) → (i ≡ j → ⊥) → Has i L → Has j L → Precedes i j L ⊎ Precedes j i L
one_first i j L n (first e) (first f) = absurd (n (omega arith))
one_first i j L n (first e) (later m) = inl (now_then e m)
one_first i j L n (later m) (first f) = inr (now_then f m)
one_first i j L n (later {L = K} m) (later k) = ⊎_elim (λ p. inl (both_later p)) (λ p. inr (both_later p)) (one_first i j K n m k)

-- of two slots one has the lower key
one_lower : (seq : List ℕ) (i j : ℕ) → (i ≡ j → ⊥) → Sooner seq i j ⊎ Sooner seq j i
one_lower seq i j n = go (dec_lt (get_or seq i 0) (get_or seq j 0)) (dec_lt (get_or seq j 0) (get_or seq i 0)) (dec_lt i j)
  where
    go : Dec (get_or seq i 0 < get_or seq j 0) → Dec (get_or seq j 0 < get_or seq i 0) → Dec (i < j) → Sooner seq i j ⊎ Sooner seq j i
    go (yes a) b c = inl (inl a)
    go (no a) (yes b) c = inr (inl b)
    go (no a) (no b) (yes c) = inl (inr (omega arith, c))
    go (no a) (no b) (no c) = inr (inr (omega arith, omega arith))

-- a slot that stands before another in a history is another
apart : {h : List ℕ} {t : Table} → Reached h t → (i j : ℕ) → Precedes i j h → i ≡ j → ⊥
apart {h} r i j p e = precedes_one_way i j h r.once p (subst (λ k. Precedes k i h) e (subst (λ k. Precedes i k h) (sym e) p))

-- of two slots that have run, one stands first if the other does not
stands : {h : List ℕ} {t : Table} → Reached h t → (i j : ℕ) → (i ≡ j → ⊥) → Ran t i → Ran t j → (Precedes j i h → ⊥) → Precedes i j h
stands {h} r i j n x y no_other = ⊎_elim (λ p. p) (λ p. absurd (no_other p)) (one_first i j h n (r.listed i x) (r.listed j y))

abbrev pub Agree : Table → Table → Type 0
Agree t u = (i : ℕ) → Committed t i → Committed u i → Same t u i

module _ {g h : List ℕ} {t u : Table} (r : Reached g t) (s : Reached h u) (a : Agree t u) where
  both : (i : ℕ) → Ran t i × Ran u i → Same t u i
  both i x = a i (ran_committed t i x.0) (ran_committed u i x.1)

  -- what a slot that both have run leads to is the same in both
  leads_both : {i j : ℕ} → Ran t i → Ran u i → LeadsTo t i j → LeadsTo u i j
  leads_both {i} {j} x y p =
      (leads_same {u = u} (λ k. Ran t k × Ran u k)
      (λ k l z d. (r.closed k l z.0 d, s.closed k l z.1 (depends_same (both k z) d)))
      both (x, y) p).0

  -- where i leads to j, and stands before it in the one history, j does not stand before i in the other
  not_crossed : (i j : ℕ) → LeadsTo t i j → Precedes i j g → Precedes j i h → ⊥
  not_crossed i j p b c = no_back (λ q. by_key q (one_lower (seqs_of t) i j (apart r i j b)))
    where
      in_g : Has i g × Has j g
      in_g = precedes_has i j g b

      in_h : Has j h × Has i h
      in_h = precedes_has j i h c

      run_i : Ran t i × Ran u i
      run_i = (r.ran i in_g.0, s.ran i in_h.1)

      run_j : Ran t j × Ran u j
      run_j = (r.ran j in_g.1, s.ran j in_h.0)

      -- j leads back to i, or j would stand first in the one
      no_back : (LeadsTo t j i → ⊥) → ⊥
      no_back n = precedes_one_way i j g r.once b (r.ordered.outer i j in_g.0 in_g.1 p n)

      key : Sooner (seqs_of t) i j → Sooner (seqs_of u) i j
      key k = rw ((both i run_i).seq, (both j run_j).seq) at k

      by_key : LeadsTo t j i → Sooner (seqs_of t) i j ⊎ Sooner (seqs_of t) j i → ⊥
      by_key q (inl k) =
          precedes_one_way j i h s.once c
          (s.ordered.inner i j in_h.1 in_h.0 (leads_both run_i.0 run_i.1 p, leads_both run_j.0 run_j.1 q) (key k))
      by_key q (inr k) = precedes_one_way i j g r.once b (r.ordered.inner j i in_g.1 in_g.0 (q, p) k)

pub agree_sym : {t u : Table} → Agree t u → Agree u t
agree_sym a i x y = same_sym (a i y x)

-- Where one slot leads to another and both copies have run both, the order is the same.
pub same_order : {g h : List ℕ} {t u : Table} → Reached g t → Reached h u → Agree t u → (i j : ℕ) → LeadsTo t i j → Ran t i → Ran t j → Ran u i → Ran u j → SameOrder i j g h
same_order {g} {h} {t} {u} r s a i j p ti tj ui uj = (
  (λ b. stands s i j (apart r i j b) ui uj (not_crossed r s a i j p b), λ c. stands r i j (apart s i j c) ti tj (not_crossed s r (agree_sym a) i j back c)),
  (λ b. stands s j i (apart r j i b) uj ui (λ c. not_crossed s r (agree_sym a) i j back c b), λ c. stands r j i (apart s j i c) tj ti (λ b. not_crossed r s a i j p b c)),
)
  where
    back : LeadsTo u i j
    back = leads_both r s a ti ui p
