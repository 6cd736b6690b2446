-- Arrays by replica: seven elements each, and which element lies where.
use mathlib.Core.Path.{◌≡◌}
use mathlib.Core.List.{List}
use Prim.Native.Nat.{ℕ, ◌*◌, ◌<◌}
use lib.ListN.{length, get_or, drop}
use Rattle.base.specs.declared.status.Status.{Status}
use Rattle.deps.specs.declared.batches.Batch.{Batch}
use Rattle.layout.specs.Numbers.{word_of}
use Rattle.layout.specs.Batches.{batch_at}
use Rattle.octets.specs.Sets.{rows_at}
use Rattle.octets.specs.Marks.{status_at}
use Rattle.layout.proofs.EachLaws.{each_length, each_is}
use Rattle.passed.specs.Sevens.{words_at, sets_at, statuses_at, batches_at}

pub words_length : (l : List ℕ) → length (words_at l) ≡ 7
unfolding words_at
words_length l = each_length word_of 8 7 l

pub sets_length : (l : List ℕ) → length (sets_at l) ≡ 7
unfolding sets_at
sets_length l = each_length rows_at 7 7 l

pub statuses_length : (l : List ℕ) → length (statuses_at l) ≡ 7
unfolding statuses_at
statuses_length l = each_length status_at 1 7 l

pub batches_length : (l : List ℕ) → length (batches_at l) ≡ 7
unfolding batches_at
batches_length l = each_length batch_at 109 7 l

-- ---- the element of replica i

module _ (l : List ℕ) (i : ℕ) (h : i < 7) where
  pub word_in : (d : ℕ) → get_or (words_at l) i d ≡ word_of (drop (8 * i) l)
  unfolding words_at
  word_in d = each_is word_of 8 7 i l d h

  pub set_in_lem : (d : List ℕ) → get_or (sets_at l) i d ≡ rows_at (drop (7 * i) l)
  unfolding sets_at
  set_in_lem d = each_is rows_at 7 7 i l d h

  pub status_in_lem : (d : Status) → get_or (statuses_at l) i d ≡ status_at (drop (1 * i) l)
  unfolding statuses_at
  status_in_lem d = each_is status_at 1 7 i l d h

  pub batch_in_lem : (d : Batch) → get_or (batches_at l) i d ≡ batch_at (drop (109 * i) l)
  unfolding batches_at
  batch_in_lem d = each_is batch_at 109 7 i l d h
