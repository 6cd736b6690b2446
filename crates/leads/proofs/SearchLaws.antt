-- The ways of `visit` and `rows`: what is added is in every shut set, and what it depends on is added.
use mathlib.Core.Path.{◌≡◌, refl, subst, ◌∙◌}
use mathlib.Core.List.{List}
use mathlib.Core.Logic.{◌⊎◌, inl, inr, ⊎_elim}
use Prim.Native.Nat.{ℕ, zero, suc, ◌+◌, ◌*◌, ◌/◌, ◌%◌, ◌-◌, ◌≤◌, ◌<◌}
use native.Mathlib.Nat.{not-suc-le-zero}
use native.Mathlib.Decide.{ℕ_discrete, dec_lt}
use native.Mathlib.Omega.{arith}
use lib.ListN.{length, get_or, set, length-set}
use lib.Seq.{get_or-set_same, get_or-set_other}
use borrow.Author.Count.{below_more}
use Rattle.leads.specs.Frontier.{In}
use Rattle.leads.specs.Search.{Within, ShutAt, Shut, Grown, Visited, Passed}

-- how many slots of the first n rows are not in F
unfoldable pub room : List ℕ → ℕ → ℕ
room F zero = 0
room F (suc n) = (32 - get_or F n 0) + room F n

pub room_le : (F G : List ℕ) (n : ℕ) → Within F G → room G n ≤ room F n
unfolding room
room_le F G zero w = omega arith
room_le F G (suc n) w = omega (arith, room_le F G n w, w n)

room_less : (F G : List ℕ) (n r : ℕ) → Within F G → r < n → get_or F r 0 < get_or G r 0 → get_or F r 0 < 32 → room G n < room F n
unfolding room
room_less F G zero r w lt more small = absurd (not-suc-le-zero lt)
room_less F G (suc n) r w lt more small = elim (ℕ_discrete r n) [
  | yes e ↦
      let at : get_or F n 0 < get_or G n 0 = rw e at more in
      let low : get_or F n 0 < 32 = rw e at small in
      omega (arith, room_le F G n w)
  | no ne ↦ omega (arith, room_less F G n r w (omega arith) more small, w n)
]

-- the next slot of row r
module _ (F : List ℕ) (r : ℕ) (lt : r < length F) where
  abbrev pub more : List ℕ
  more = set F r (get_or F r 0 + 1)

  put_more : Within F more
  put_more q = elim (ℕ_discrete q r) [
    | yes e ↦ rw e (omega (arith, get_or-set_same F r (get_or F r 0 + 1) 0 lt))
    | no ne ↦ omega (arith, get_or-set_other F r q (get_or F r 0 + 1) 0 ne)
  ]

  put_within : (C : List ℕ) → Within F C → get_or F r 0 < get_or C r 0 → Within more C
  put_within C w h q = elim (ℕ_discrete q r) [
    | yes e ↦ rw e (omega (arith, get_or-set_same F r (get_or F r 0 + 1) 0 lt))
    | no ne ↦ omega (arith, get_or-set_other F r q (get_or F r 0 + 1) 0 ne, w q)
  ]

  put_new : (j : ℕ) → get_or F r 0 < 32 → In more j → In F j ⊎ (32 * r + get_or F r 0 ≡ j)
  put_new j small h = elim (ℕ_discrete (j / 32) r) [
    | yes e ↦
        let a : j % 32 < get_or F r 0 + 1 = omega (arith, rw (e, get_or-set_same F r (get_or F r 0 + 1) 0 lt) at h) in
        elim (dec_lt (j % 32) (get_or F r 0)) [
          | yes inside ↦ inl (rw e inside)
          | no outside ↦ inr (omega arith)
        ]
    | no ne ↦ inl (rw (get_or-set_other F r (j / 32) (get_or F r 0 + 1) 0 ne) at h)
  ]

  pub put_room : get_or F r 0 < 32 → r < 7 → room more 7 < room F 7
  put_room small r<7 = room_less F more 7 r put_more r<7 (omega (arith, get_or-set_same F r (get_or F r 0 + 1) 0 lt)) small

same : (deps : List ℕ) (r k : ℕ) (F : List ℕ) → Grown deps r k F F
same deps r k F = record {
  rows = refl;
  kept = λ q. omega arith;
  least = λ C s w h. w;
  shut = λ j h. inl h;
}

pub visit_in : (deps : List ℕ) (r k : ℕ) (F : List ℕ) → k ≤ get_or F r 0 → Visited deps r k F F
visit_in deps r k F h = record { grown = same deps r k F; done = h }

-- shut stays shut as slots are added
pub shut_kept : (deps F G : List ℕ) (j : ℕ) → Within F G → ShutAt deps F j → ShutAt deps G j
unfolding ShutAt
shut_kept deps F G j w s q lt = omega (arith, s q lt, w q)

-- of two steps the second keeps shut what the first has shut
shut_then : (deps : List ℕ) (r k q n : ℕ) (F G T : List ℕ) → Grown deps r k F G → Grown deps q n G T → (j : ℕ) → In T j → In F j ⊎ ShutAt deps T j
shut_then deps r k q n F G T p v j h = ⊎_elim
    (λ was. ⊎_elim inl (λ s. inr (shut_kept deps G T j v.kept s)) (p.shut j was))
    inr
    (v.shut j h)

module _ (deps : List ℕ) (r k : ℕ) (F G T : List ℕ) (lt : r < length F) (small : k ≤ 32) (out : get_or F r 0 < k)
    (p : Passed deps (32 * r + get_or F r 0) (more F r lt) G) (v : Visited deps r k G T) where
  mark_least : (C : List ℕ) → Shut deps C → Within F C → k ≤ get_or C r 0 → Within T C
  mark_least C s w h =
      let at : (32 * r + get_or F r 0) / 32 ≡ r = omega arith in
      let is : suc ((32 * r + get_or F r 0) % 32) ≤ get_or C r 0 = omega arith in
      v.grown.least C s (p.grown.least C s (put_within F r lt C w (omega arith)) (rw at is)) h

  mark_shut : (j : ℕ) → In T j → In F j ⊎ ShutAt deps T j
  mark_shut j h = ⊎_elim
      (λ old. ⊎_elim
      inl
      (λ e. inr (shut_kept deps G T j v.grown.kept (subst (λ (x : ℕ). ShutAt deps G x) e p.done)))
      (put_new F r lt j (omega arith) old))
      inr
      (shut_then deps _ _ r k (more F r lt) G T p.grown v.grown j h)

  pub visit_more : Visited deps r k F T
  visit_more = record {
    grown =
        record {
          rows = v.grown.rows ∙ (p.grown.rows ∙ simp length-set);
          kept = λ q. omega (arith, put_more F r lt q, p.grown.kept q, v.grown.kept q);
          least = mark_least;
          shut = mark_shut;
        };
    done = v.done;
  }

-- the rows of slot i below q are passed
pub record PassedTo (deps : List ℕ) (i q : ℕ) (F G : List ℕ) : Type 0 where
  pub grown : Grown deps (i / 32) (suc (i % 32)) F G
  pub done : (x : ℕ) → x < q → get_or deps (7 * i + x) 0 ≤ get_or G x 0

module _ (deps : List ℕ) (i q : ℕ) (F G T : List ℕ) (q<7 : q < 7) (p : PassedTo deps i q F G) (v : Visited deps q (get_or deps (7 * i + q) 0) G T) where
  more_least : (C : List ℕ) → Shut deps C → Within F C → suc (i % 32) ≤ get_or C (i / 32) 0 → Within T C
  unfolding Shut ShutAt
  more_least C s w h = v.grown.least C s (p.grown.least C s w h) (s i h q q<7)

  pub to_more : PassedTo deps i (q + 1) F T
  to_more = record {
    grown =
        record {
          rows = v.grown.rows ∙ p.grown.rows;
          kept = λ x. omega (arith, v.grown.kept x, p.grown.kept x);
          least = more_least;
          shut = shut_then deps _ _ q _ F G T p.grown v.grown;
        };
    done = below_more (λ x. get_or deps (7 * i + x) 0 ≤ get_or T x 0) q (λ x lt. omega (arith, p.done x lt, v.grown.kept x)) v.done;
  }

pub to_all : (deps : List ℕ) (i q : ℕ) (F G : List ℕ) → 7 ≤ q → PassedTo deps i q F G → Passed deps i F G
unfolding ShutAt
to_all deps i q F G full p = record { grown = p.grown; done = λ x lt. p.done x (omega arith) }
