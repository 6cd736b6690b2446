-- Identical entries: how many equals an entry has among those listed, and who is the first with enough.
use Rattle.std.specs.Prelude.{List, Bool, cond, not, ◌&&◌, leb, ℕ, Option}
use Rattle.base.specs.Below.{count_below, greatest_below, list_below}
use Rattle.base.specs.Marks.{marked}
use Rattle.votes.specs.Contents.{said_by, same_contents}
use Rattle.votes.specs.Holder.{lowest_below}
use Rattle.votes.specs.declared.contents.Contents.{Contents}
use Rattle.votes.specs.declared.identical.Identical.{Identical}
use Rattle.votes.specs.declared.identical.Group.{Group}

-- two replicas say the same
abbrev pub same_said : List Contents → ℕ → ℕ → Bool
same_said entries r q = same_contents (said_by entries r) (said_by entries q)

-- an entry that is listed, and equal
abbrev pub is_equal : Bool → Contents → Contents → Bool
is_equal listed a b = listed && same_contents a b

abbrev pub equal_to : List Contents → List Bool → ℕ → ℕ → Bool
equal_to entries listed r q = is_equal (marked listed q) (said_by entries r) (said_by entries q)

-- how often what a replica says occurs among those listed
abbrev pub occurrences : List Contents → List Bool → ℕ → ℕ
occurrences entries listed r = count_below 7 (equal_to entries listed r)

-- it is listed, and that is often enough
abbrev pub has_enough : List Contents → List Bool → ℕ → ℕ → Bool
has_enough entries listed enough r = marked listed r && leb enough (occurrences entries listed r)

abbrev pub occurrences_in : List Contents → List Bool → ℕ → ℕ
occurrences_in entries listed r = cond (marked listed r) (occurrences entries listed r) 0

-- the lowest replica listed that says what occurs often enough; an empty list has none
unfoldable pub first_enough : List Contents → List Bool → ℕ → Option ℕ
first_enough entries listed enough = lowest_below 7 (has_enough entries listed enough)

-- the greatest number of equals
unfoldable pub most_equals : List Contents → List Bool → ℕ
most_equals entries listed = greatest_below 7 (occurrences_in entries listed)

abbrev pub identical_of : List Contents → List Bool → ℕ → Identical
identical_of entries listed enough = record { first = first_enough entries listed enough; most = most_equals entries listed }

-- those left that say the same as r, and who is left without them
abbrev pub other_than : List Contents → List Bool → ℕ → ℕ → Bool
other_than entries left r q = marked left q && not (same_said entries r q)

abbrev pub group_of : List Contents → List Bool → ℕ → Group
group_of entries left r = record { count = occurrences entries left r; left = list_below 7 (other_than entries left r) }
