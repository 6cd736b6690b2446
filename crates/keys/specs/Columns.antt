-- Key columns: for each key the highest put column of each row.
use mathlib.Core.List.{List, [], ◌∷◌, foldl, flat_map}
use Rattle.std.specs.Prelude.{Bool, ℕ, replicate, get_or, set}
use Rattle.base.specs.Below.{all_below}
use Rattle.deps.specs.Sets.{set_of, empty_set, set_fits, union_of, raised_to}
use Rattle.deps.specs.Batches.{present, named_keys}
use Rattle.deps.specs.declared.sets.DepSet.{DepSet}
use Rattle.deps.specs.declared.batches.Kind.{Kind}
use Rattle.deps.specs.declared.batches.Kind.TheVariants.{Other, Put, Get}
use Rattle.deps.specs.declared.batches.Request.{Request}
use Rattle.deps.specs.declared.batches.Batch.{Batch}
use Rattle.keys.specs.declared.columns.Keys.{Keys}

abbrev pub keys_of : List (List ℕ) → Keys
keys_of cols = record { cols = cols }

abbrev pub empty_keys : Keys
empty_keys = keys_of (replicate 256 (replicate 7 0))

-- the columns of a key; a key above 255 has none
abbrev pub columns_of : Keys → ℕ → DepSet
columns_of k key = set_of (get_or k.cols key (replicate 7 0))

abbrev pub key_fits : ℕ → Keys → ℕ → Bool
key_fits n k key = set_fits n (columns_of k key)

-- every key's columns within the bounds of n rows
unfoldable pub keys_fit : ℕ → Keys → Bool
keys_fit n k = all_below 256 (key_fits n k)

abbrev pub join_key : Keys → DepSet → ℕ → DepSet
join_key k d key = union_of d (columns_of k key)

-- the union of the key columns of all puts and gets
unfoldable pub identify_of : Keys → Batch → DepSet
identify_of k b = foldl (join_key k) empty_set (named_keys b)

-- the key that a put enters, and the keys of all puts
abbrev pub entered : Kind → List ℕ
entered Other = []
entered (Put key value) = key ∷ []
entered (Get key) = []

abbrev pub key_entered : Request → List ℕ
key_entered q = entered q.kind

abbrev pub put_keys : Batch → List ℕ
put_keys b = flat_map key_entered (present b)

abbrev pub raise_key : ℕ → ℕ → Keys → ℕ → Keys
raise_key row col k key = keys_of (set k.cols key (raised_to (columns_of k key) row col).cols)

-- the slot's row raised to its column for each put key
unfoldable pub refreshed_by : Keys → ℕ → ℕ → Batch → Keys
refreshed_by k row col b = foldl (raise_key row col) k (put_keys b)
