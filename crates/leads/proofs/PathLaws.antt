-- Laws of paths: joined, and down a row.
use mathlib.Core.Path.{◌≡◌, refl, sym, subst}
use mathlib.Core.List.{List}
use Prim.Native.Nat.{ℕ, zero, suc, ◌+◌, ◌*◌, ◌/◌, ◌%◌, ◌≤◌, ◌<◌}
use native.Mathlib.Decide.{ℕ_discrete}
use native.Mathlib.Omega.{arith}
use Rattle.leads.specs.Depends.{Depends, earlier, Leads, here, step}

pub leads_trans : {deps : List ℕ} {i j k : ℕ} → Leads deps i j → Leads deps j k → Leads deps i k
leads_trans {deps} {i} {j} {k} (here e) m = subst (λ (x : ℕ). Leads deps x k) (sym e) m
leads_trans (step d l) m = step d (leads_trans l m)

pub leads_on : {deps : List ℕ} {i j k : ℕ} → Leads deps i j → Depends deps j k → Leads deps i k
leads_on l d = leads_trans l (step d (here refl))

-- what leads to a slot leads to those before it in its row
down : (deps : List ℕ) (i row c d : ℕ) → c < 32 → d ≤ c → Leads deps i (32 * row + c) → Leads deps i (32 * row + d)
down deps i row zero d h le l = subst (λ (x : ℕ). Leads deps i (32 * row + x)) (omega arith) l
down deps i row (suc c) d h le l = elim (ℕ_discrete d (suc c)) [
  | yes e ↦ subst (λ (x : ℕ). Leads deps i (32 * row + x)) (sym e) l
  | no n ↦ down deps i row c d (omega arith) (omega arith) (leads_on l (earlier (omega arith) (omega arith)))
]

pub down_to : (deps : List ℕ) (i j k : ℕ) → j / 32 ≡ k / 32 → k % 32 ≤ j % 32 → Leads deps i j → Leads deps i k
down_to deps i j k same le l =
    let is : 32 * (j / 32) + j % 32 ≡ j = omega arith in
    let at_j : Leads deps i (32 * (j / 32) + j % 32) = rw is l in
    let at-k : Leads deps i (32 * (j / 32) + k % 32) = down deps i (j / 32) (j % 32) (k % 32) (omega arith) le at_j in
    subst (λ (x : ℕ). Leads deps i x) (omega arith) at-k
