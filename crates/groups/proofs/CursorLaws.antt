-- One number after the other, as they are read: what each return of the functions over a cursor says.
use mathlib.Core.Path.{◌≡◌, refl}
use mathlib.Core.List.{List}
use mathlib.Core.Bool.{Bool, true, false, cond, ◌&&◌}
use Prim.Native.Nat.{ℕ, ◌<◌, ◌≤◌}
use native.Mathlib.Omega.{arith}
use borrow.Author.Tests.{le-leb, lt-leb, leb-true, eq-eqb, ne_eqb, eqb-false}
use lib.Dec.{leb, eqb}
use lib.ListN.{drop}
use Rattle.base.specs.Refusals.{unreadable}
use Rattle.base.proofs.Loops.{both_true}
use Rattle.groups.specs.Numbers.{Groups, whole, cut_off, none, number_in, landed, stopped, number_at}
use Rattle.groups.specs.Cursor.{goes_on, number_from, held_to, number_within}
use Rattle.groups.specs.Numbers.{Cursor}
use Rattle.groups.specs.Numbers.{Number}

module _ (s : List ℕ) (c : Cursor) where
  -- after a refusal nothing is read
  pub from_stopped : 0 < c.refusal → record { value = 0; cursor = c } ≡ number_from s c
  unfolding number_from
  from_stopped h = rw (ne_eqb c.refusal 0 (λ e. omega arith))

  pub from_place : c.refusal ≡ 0 → number_at s c.at ≡ number_from s c
  unfolding number_from
  from_place h = rw (eq-eqb c.refusal 0 h)

module _ (least most : ℕ) (x : Number) where
  pub held_stopped : 0 < x.cursor.refusal → x ≡ held_to least most x
  held_stopped h = rw (ne_eqb x.cursor.refusal 0 (λ e. omega arith))

  module _ (h : x.cursor.refusal ≡ 0) where
    pub held_under : x.value < least → stopped unreadable ≡ held_to least most x
    held_under l = rw (eq-eqb x.cursor.refusal 0 h, lt-leb least x.value l)

    pub held_over : least ≤ x.value → most < x.value → stopped unreadable ≡ held_to least most x
    held_over l m = rw (eq-eqb x.cursor.refusal 0 h, le-leb least x.value l, lt-leb x.value most m)

    pub held_in : least ≤ x.value → x.value ≤ most → x ≡ held_to least most x
    held_in l m = rw (eq-eqb x.cursor.refusal 0 h, le-leb least x.value l, le-leb x.value most m)

-- a number held to its bounds, by what is known of it
pub ruleset held = (held_stopped, held_in, held_under, held_over)

-- ---- with a refusal the value is 0, so a number that is held to its bounds is never above them

stopped_value : (s : List ℕ) (c : Cursor) → ((number_from s c).cursor.refusal ≡ 0 → ⊥) → (number_from s c).value ≡ 0
unfolding number_from number_at
stopped_value s c h = go (eqb c.refusal 0) (number_in (drop c.at s)) h
  where
    go : (b : Bool) (g : Groups) → ((cond b (landed c.at g) (record { value = 0; cursor = c })).cursor.refusal ≡ 0 → ⊥)
        → (cond b (landed c.at g) (record { value = 0; cursor = c })).value ≡ 0
    go true (whole v k) n = absurd (n refl)
    go true cut_off n = refl
    go true none n = refl
    go false g n = refl

pub within_most : (least most : ℕ) (s : List ℕ) (c : Cursor) → (number_within least most s c).value ≤ most
unfolding number_within
within_most least most s c = go (goes_on (number_from s c).cursor) refl (leb least (number_from s c).value && leb (number_from s c).value most) refl
  where
    go : (b : Bool) → goes_on (number_from s c).cursor ≡ b → (d : Bool) → (leb least (number_from s c).value && leb (number_from s c).value most) ≡ d
        → (cond b (cond d (number_from s c) (stopped unreadable)) (number_from s c)).value ≤ most
    go true e true f = leb-true (number_from s c).value most (both_true (leb least (number_from s c).value) _ f).1
    go true e false f = omega arith
    go false e d f = omega (arith, stopped_value s c (eqb-false (number_from s c).cursor.refusal 0 e))
