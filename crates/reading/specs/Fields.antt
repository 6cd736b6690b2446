-- What several events have alike: a place, a message, dependencies.
use Rattle.std.specs.Prelude.{List, ℕ, get_or, replicate}
use Rattle.std.proofs.lemmas.List.Edits.{sets}
use Rattle.deps.specs.Sets.{set_of}
use Rattle.deps.specs.declared.sets.DepSet.{DepSet}
use Rattle.table.specs.Place.{place_of}
use Rattle.groups.specs.Cursor.{Numbers, numbers_from}
use Rattle.groups.specs.Numbers.{Cursor}
use Rattle.outcomes.specs.declared.message.Message.{Message}
use Rattle.table.specs.declared.place.Place.{Place}

abbrev pub nth : Numbers → ℕ → ℕ
nth x i = get_or x.values i 0

-- what was read, and where it ends or what was refused
pub record PlaceRead : Type 0 where
  pub at : Place
  pub cursor : Cursor

pub record MessageRead : Type 0 where
  pub message : Message
  pub cursor : Cursor

pub record SetRead : Type 0 where
  pub set : DepSet
  pub cursor : Cursor

-- row, column
abbrev pub place_in : Numbers → PlaceRead
place_in x = record { at = place_of (nth x 0) (nth x 1); cursor = x.cursor }

unfoldable pub place_from : List ℕ → Cursor → PlaceRead
place_from s c = place_in (numbers_from 2 s c)

-- peer, row, column, ballot
abbrev pub message_in : Numbers → MessageRead
message_in x = record { message = record { peer = nth x 0; at = place_of (nth x 1) (nth x 2); ballot = nth x 3 }; cursor = x.cursor }

unfoldable pub message_from : List ℕ → Cursor → MessageRead
message_from s c = message_in (numbers_from 4 s c)

-- dependencies, 0 or column + 1, over an empty set
abbrev pub set_with : List ℕ → DepSet
set_with numbers = set_of (sets (replicate 7 0) 0 numbers)

abbrev pub set_in : Numbers → SetRead
set_in x = record { set = set_with x.values; cursor = x.cursor }

unfoldable pub set_from : ℕ → List ℕ → Cursor → SetRead
set_from n s c = set_in (numbers_from n s c)
