-- One number after the other, up to the first refusal.
use Rattle.std.specs.Prelude.{List, [], ◌∷◌, Bool, cond, ◌&&◌, leb, eqb, ℕ, zero, suc}
use Rattle.base.specs.Refusals.{unreadable}
use Rattle.groups.specs.Numbers.{Cursor, Number, stopped, number_at}

abbrev pub goes_on : Cursor → Bool
goes_on c = eqb c.refusal 0

-- after a refusal nothing is read
unfoldable pub number_from : List ℕ → Cursor → Number
number_from s c = cond (goes_on c) (number_at s c.at) (record { value = 0; cursor = c })

-- a number that stands for something only from least to most
abbrev pub held_to : ℕ → ℕ → Number → Number
held_to least most x =
    cond (goes_on x.cursor) (cond (leb least x.value && leb x.value most) x (stopped unreadable)) x

unfoldable pub number_within : ℕ → ℕ → List ℕ → Cursor → Number
number_within least most s c = held_to least most (number_from s c)

-- so many numbers
pub record Numbers : Type 0 where
  pub values : List ℕ
  pub cursor : Cursor

unfoldable pub numbers_from : ℕ → List ℕ → Cursor → Numbers
numbers_from zero s c = record { values = []; cursor = c }
numbers_from (suc many) s c =
    record {
      values = (number_from s c).value ∷ (numbers_from many s (number_from s c).cursor).values;
      cursor = (numbers_from many s (number_from s c).cursor).cursor;
    }
