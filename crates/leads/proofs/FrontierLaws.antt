-- The frontier of slot i, found by rounds, is what i leads to; and two slots lead to each other exactly when their frontiers are equal.
use mathlib.Core.Path.{◌≡◌, refl, sym, ap, ◌∙◌, subst}
use mathlib.Core.Bool.{Bool, true, false, cond}
use mathlib.Core.List.{List}
use mathlib.Core.Logic.{◌⊎◌, inl, inr, ⊎_elim, ◌↔◌}
use Prim.Native.Nat.{ℕ, zero, suc, ◌+◌, ◌*◌, ◌/◌, ◌%◌, ◌-◌, ◌≤◌, ◌<◌}
use native.Mathlib.Nat.{not-suc-le-zero}
use native.Mathlib.Decide.{ℕ_discrete, dec_lt}
use native.Mathlib.Omega.{arith}
use lib.Dec.{eqb}
use lib.ListN.{get_or, length, get_or-eq_default}
use lib.Seq.{ext_get_or}
use borrow.Author.Tests.{lt-ltb, ltb-true, eq-eqb, eqb-true}
use Rattle.base.proofs.Loops.{greatest_at, greatest_at_most, greatest_from, length_below, below_at_lem}
use Rattle.leads.specs.Depends.{number_in, Valid, Depends, named, earlier, Leads, here, step}
use Rattle.leads.specs.Frontier.{In, is_in, asked_by, raised, round, rounds, up_to, first, frontier}
use Rattle.leads.proofs.PathLaws.{leads_trans, leads_on, down_to}

-- what is in seven rows is in one of them
pub in_rows : (F : List ℕ) (c r : ℕ) → length F ≡ 7 → c < get_or F r 0 → r < 7
in_rows F c r len h = elim (dec_lt r 7) [
  | yes lt ↦ lt
  | no ge ↦ absurd (omega (arith, get_or-eq_default F 0 {n = r} (omega arith)))
]

-- what bounds each of seven rows bounds all
pub rows_at_most : (F : List ℕ) (b : ℕ → ℕ) → length F ≡ 7 → ((r : ℕ) → r < 7 → get_or F r 0 ≤ b r) → (r : ℕ) → get_or F r 0 ≤ b r
rows_at_most F b len h r = elim (dec_lt r 7) [
  | yes lt ↦ h r lt
  | no ge ↦ omega (arith, get_or-eq_default F 0 {n = r} (omega arith))
]

-- n where the test holds, else 0
given_in : (b : Bool) (c n : ℕ) → c < cond b n 0 → (b ≡ true) × (c < n)
given_in true c n h = (refl, h)
given_in false c n h = absurd (not-suc-le-zero h)

pub given_at_most : (b : Bool) (n m : ℕ) → (b ≡ true → n ≤ m) → cond b n 0 ≤ m
given_at_most true n m h = h refl
given_at_most false n m h = omega arith

-- ---- a round
module _ (deps F : List ℕ) (r : ℕ) where
  raised_own : get_or F r 0 ≤ raised deps F r
  unfolding raised
  raised_own = omega arith

  raised_dep : (k : ℕ) → k < 224 → In F k → number_in deps k r ≤ raised deps F r
  unfolding raised
  raised_dep k lt h =
      let e : asked_by deps F r k ≡ number_in deps k r = rw (lt-ltb (k % 32) (get_or F (k / 32) 0) h) in
      omega (arith, greatest_at (asked_by deps F r) 224 k lt)

  raised_from_lem : (c : ℕ) → c < raised deps F r → (c < get_or F r 0) ⊎ ((k : ℕ) × (In F k) × (c < number_in deps k r))
  unfolding raised
  raised_from_lem c h = elim (dec_lt c (get_or F r 0)) [
    | yes own ↦ inl own
    | no ge ↦
        let x = greatest_from (asked_by deps F r) 224 c (omega arith) in
        let w = given_in (is_in F x.0) c (number_in deps x.0 r) x.2 in
        inr (x.0, ltb-true (x.0 % 32) (get_or F (x.0 / 32) 0) w.0, w.1)
  ]

  pub raised_at_most : (b : ℕ) → get_or F r 0 ≤ b → ((k : ℕ) → In F k → number_in deps k r ≤ b) → raised deps F r ≤ b
  unfolding raised
  raised_at_most b own dep =
      omega (arith, greatest_at_most (asked_by deps F r) b 224 (λ k lt. given_at_most (is_in F k) (number_in deps k r) b (λ e. dep k (ltb-true (k % 32) (get_or F (k / 32) 0) e))))

pub round_length : (deps F : List ℕ) → length (round deps F) ≡ 7
unfolding round
round_length deps F = length_below 7 (raised deps F)

pub round_at : (deps F : List ℕ) (r : ℕ) → r < 7 → get_or (round deps F) r 0 ≡ raised deps F r
unfolding round
round_at deps F r h = below_at_lem 7 (raised deps F) r 0 h

pub first_length : (i : ℕ) → length (first i) ≡ 7
unfolding first
first_length i = length_below 7 (up_to i)

pub first_at : (i r : ℕ) → r < 7 → get_or (first i) r 0 ≡ up_to i r
unfolding first
first_at i r h = below_at_lem 7 (up_to i) r 0 h

-- what a round keeps, the rounds keep
pub rounds_keep : (deps : List ℕ) (P : List ℕ → Type 0) → ((F : List ℕ) → P F → P (round deps F)) → (n : ℕ) (F : List ℕ) → P F → P (rounds deps n F)
unfolding rounds
rounds_keep deps P keeps zero F h = h
rounds_keep deps P keeps (suc n) F h = rounds_keep deps P keeps n (round deps F) (keeps F h)

-- ---- all that is in the frontier is led to
abbrev Led : List ℕ → ℕ → List ℕ → Type 0
Led deps i F = (j : ℕ) → In F j → Leads deps i j

first_led : (deps : List ℕ) (i : ℕ) → Led deps i (first i)
first_led deps i j h =
    let lt : j / 32 < 7 = in_rows (first i) (j % 32) (j / 32) (first_length i) h in
    let w = given_in (eqb (j / 32) (i / 32)) (j % 32) (suc (i % 32)) (rw (first_at i (j / 32) lt) at h) in
    down_to deps i i j (sym (eqb-true (j / 32) (i / 32) w.0)) (omega (arith, w.1)) (here refl)

-- a slot in F has a dependency at or after j in j's row
by_dep : (deps : List ℕ) (i j k : ℕ) → Valid deps → j / 32 < 7 → j % 32 < number_in deps k (j / 32) → Leads deps i k → Leads deps i j
unfolding Valid
by_dep deps i j k v lt h l =
    let d = number_in deps k (j / 32) in
    let b : d ≤ 32 = v (7 * k + j / 32) in
    let at = 32 * (j / 32) + (d - 1) in
    let row : at / 32 ≡ j / 32 = omega arith in
    let names : number_in deps k (at / 32) ≡ suc (at % 32) = rw row (omega arith) in
    down_to deps i at j row (omega arith) (leads_on l (named (omega arith) names))

round_led : (deps : List ℕ) (i : ℕ) (F : List ℕ) → Valid deps → Led deps i F → Led deps i (round deps F)
round_led deps i F v led j h =
    let lt : j / 32 < 7 = in_rows (round deps F) (j % 32) (j / 32) (round_length deps F) h in
    ⊎_elim (λ own. led j own) (λ w. by_dep deps i j w.0 v lt w.2 (led w.0 w.1))
    (raised_from_lem deps F (j / 32) (j % 32) (rw (round_at deps F (j / 32) lt) at h))

-- ---- a round that adds nothing, and that one comes
abbrev Fixed : List ℕ → List ℕ → Type 0
Fixed deps F = round deps F ≡ F

pub sum : List ℕ → ℕ → ℕ
sum F zero = 0
sum F (suc r) = get_or F r 0 + sum F r

sum_bound : (F : List ℕ) → ((r : ℕ) → get_or F r 0 ≤ 32) → (n : ℕ) → sum F n ≤ 32 * n
unfolding sum
sum_bound F b zero = omega arith
sum_bound F b (suc n) = omega (arith, sum_bound F b n, b n)

sum_le : (F G : List ℕ) (n : ℕ) → ((r : ℕ) → r < n → get_or F r 0 ≤ get_or G r 0) → sum F n ≤ sum G n
unfolding sum
sum_le F G zero le = omega arith
sum_le F G (suc n) le = omega (arith, sum_le F G n (λ r h. le r (omega arith)), le n (omega arith))

sum_part : (F : List ℕ) (n r : ℕ) → r < n → get_or F r 0 ≤ sum F n
unfolding sum
sum_part F zero r h = absurd (not-suc-le-zero h)
sum_part F (suc n) r h = elim (ℕ_discrete r n) [
  | yes e ↦ rw e (omega arith)
  | no ne ↦ omega (arith, sum_part F n r (omega arith))
]

pub sum_grows : (F G : List ℕ) (n : ℕ) → ((r : ℕ) → r < n → get_or F r 0 ≤ get_or G r 0) → ((r : ℕ) → r < n → get_or G r 0 ≡ get_or F r 0) ⊎ (sum F n < sum G n)
unfolding sum
sum_grows F G zero le = inl (λ r h. absurd (not-suc-le-zero h))
sum_grows F G (suc n) le = ⊎_elim
    (λ same. elim (ℕ_discrete (get_or G n 0) (get_or F n 0)) [
      | yes e ↦ inl (λ r h. elim (ℕ_discrete r n) [ yes q ↦ rw q e | no ne ↦ same r (omega arith) ])
      | no ne ↦ inr (omega (arith, le n (omega arith), sum_le F G n (λ r h. le r (omega arith))))
    ])
    (λ lt. inr (omega (arith, le n (omega arith))))
    (sum_grows F G n (λ r h. le r (omega arith)))

-- each row at most 32
abbrev Low : List ℕ → Type 0
Low F = (r : ℕ) → get_or F r 0 ≤ 32

round_low : (deps F : List ℕ) → Valid deps → Low F → Low (round deps F)
unfolding Valid
round_low deps F v low = rows_at_most (round deps F) (λ _. 32) (round_length deps F) (λ r lt. rw (round_at deps F r lt) (raised_at_most deps F r 32 (low r) (λ k _. v (7 * k + r))))

first_low : (i : ℕ) → Low (first i)
first_low i = rows_at_most (first i) (λ _. 32) (first_length i) (λ r lt. rw (first_at i r lt) (given_at_most (eqb r (i / 32)) (suc (i % 32)) 32 (λ _. omega arith)))

round_more : (deps F : List ℕ) (r : ℕ) → r < 7 → get_or F r 0 ≤ get_or (round deps F) r 0
round_more deps F r h = rw (round_at deps F r h) (raised_own deps F r)

-- of so many rounds the last adds nothing
rounds_fixed : (deps : List ℕ) (n : ℕ) (F : List ℕ) → Valid deps → length F ≡ 7 → Low F → 224 < n + sum F 7 → Fixed deps (rounds deps n F)
unfolding rounds
rounds_fixed deps zero F v len low h = absurd (omega (arith, sum_bound F low 7))
rounds_fixed deps (suc n) F v len low h = ⊎_elim
    (λ same.
    let fx : Fixed deps F = ext_get_or 0 (round deps F) F (round_length deps F ∙ sym len) (λ r lt. same r (omega (arith, round_length deps F))) in
    let still : rounds deps n (round deps F) ≡ F = rounds_keep deps (λ G. G ≡ F) (λ G e. ap (round deps) e ∙ fx) n (round deps F) fx in
    ap (round deps) still ∙ fx ∙ sym still)
    (λ lt. rounds_fixed deps n (round deps F) v (round_length deps F) (round_low deps F v low) (omega arith))
    (sum_grows F (round deps F) 7 (round_more deps F))

first_in_lem : (i : ℕ) → i < 224 → In (first i) i
first_in_lem i h =
    let e : up_to i (i / 32) ≡ suc (i % 32) = rw (eq-eqb (i / 32) (i / 32) refl) in
    omega (arith, first_at i (i / 32) (omega arith))

-- where a round adds nothing, all that a slot in F depends on is in F
module _ (deps F : List ℕ) (len : length F ≡ 7) (fx : Fixed deps F) where
  pub fixed_dep : (k r : ℕ) → r < 7 → In F k → number_in deps k r ≤ get_or F r 0
  fixed_dep k r lt h =
      let k<7 : k / 32 < 7 = in_rows F (k % 32) (k / 32) len h in
      let most = raised_dep deps F r k (omega arith) h in
      let same : raised deps F r ≡ get_or F r 0 = sym (round_at deps F r lt) ∙ ap (λ (G : List ℕ). get_or G r 0) fx in
      omega arith

  fixed_one : (k j : ℕ) → Depends deps k j → In F k → In F j
  fixed_one k j (named lt e) h = omega (arith, fixed_dep k (j / 32) lt h)
  fixed_one k j (earlier row col) h =
      let at : j % 32 < get_or F (k / 32) 0 = omega arith in
      rw (← row) at

  fixed_whole : (i j : ℕ) → Leads deps i j → In F i → In F j
  fixed_whole i j (here e) h = subst (λ (x : ℕ). In F x) e h
  fixed_whole i k (step {j = j} d l) h = fixed_whole j k l (fixed_one i j d h)

-- ---- the frontier is what i leads to
module _ (deps : List ℕ) (v : Valid deps) where
  pub frontier_fixed : (i : ℕ) → i < 224 → Fixed deps (frontier deps i)
  unfolding frontier
  frontier_fixed i h = rounds_fixed deps 224 (first i) v (first_length i) (first_low i)
      (omega (arith, sum_part (first i) 7 (i / 32) (omega arith), first_in_lem i h))

  pub frontier_length : (i : ℕ) → length (frontier deps i) ≡ 7
  unfolding frontier
  frontier_length i = rounds_keep deps (λ F. length F ≡ 7) (λ F _. round_length deps F) 224 (first i) (first_length i)

  pub frontier_low : (i : ℕ) → Low (frontier deps i)
  unfolding frontier
  frontier_low i = rounds_keep deps Low (λ F. round_low deps F v) 224 (first i) (first_low i)

  pub frontier_own : (i : ℕ) → i < 224 → In (frontier deps i) i
  unfolding frontier
  frontier_own i h = rounds_keep deps (λ F. In F i) (λ F k. omega (arith, k, round_more deps F (i / 32) (omega arith))) 224 (first i) (first_in_lem i h)

  pub frontier_sound : (i j : ℕ) → In (frontier deps i) j → Leads deps i j
  unfolding frontier
  frontier_sound i = rounds_keep deps (Led deps i) (λ F. round_led deps i F v) 224 (first i) (first_led deps i)

  pub frontier_whole : (i j : ℕ) → i < 224 → Leads deps i j → In (frontier deps i) j
  frontier_whole i j h l = fixed_whole deps (frontier deps i) (frontier_length i) (frontier_fixed i h) i j l (frontier_own i h)

  -- where i leads to j, its frontier is at least j's
  pub over : (i j : ℕ) → i < 224 → Leads deps i j → (r : ℕ) → r < 7 → get_or (frontier deps j) r 0 ≤ get_or (frontier deps i) r 0
  over i j h l r lt = elim (dec_lt (get_or (frontier deps i) r 0) (get_or (frontier deps j) r 0)) [
    | yes more ↦
        let c = get_or (frontier deps i) r 0 in
        let c<32 : c < 32 = omega (arith, frontier_low j r) in
        let at-r : (32 * r + c) / 32 ≡ r = omega arith in
        let at_c : (32 * r + c) % 32 ≡ c = omega arith in
        let there : In (frontier deps j) (32 * r + c) = rw (at-r, at_c) more in
        let here' : In (frontier deps i) (32 * r + c) = frontier_whole i (32 * r + c) h (leads_trans l (frontier_sound j (32 * r + c) there)) in
        absurd (omega (arith, rw (at-r, at_c) at here'))
    | no ge ↦ omega arith
  ]

  -- two slots lead to each other exactly when their frontiers are equal
  pub component : (i j : ℕ) → i < 224 → j < 224 → (Leads deps i j × Leads deps j i) ↔ (frontier deps i ≡ frontier deps j)
  component i j hi hj = (
    λ both. ext_get_or 0 (frontier deps i) (frontier deps j) (frontier_length i ∙ sym (frontier_length j))
        (λ r lt.
        let r<7 : r < 7 = omega (arith, frontier_length i) in
        omega (arith, over i j hi both.0 r r<7, over j i hj both.1 r r<7)),
    λ e. (frontier_sound i j (rw (← e) at (frontier_own j hj)), frontier_sound j i (rw e at (frontier_own i hi))),
  )
