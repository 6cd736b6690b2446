-- Arrays by replica: seven elements each.
use Rattle.std.specs.Prelude.{List, ℕ}
use Rattle.base.specs.declared.status.Status.{Status}
use Rattle.deps.specs.declared.batches.Batch.{Batch}
use Rattle.layout.specs.Numbers.{word_of}
use Rattle.layout.specs.Each.{each_at}
use Rattle.layout.specs.Batches.{batch_at}
use Rattle.octets.specs.Sets.{rows_at}
use Rattle.octets.specs.Marks.{status_at}

unfoldable pub words_at : List ℕ → List ℕ
words_at l = each_at word_of 8 7 l

unfoldable pub sets_at : List ℕ → List (List ℕ)
sets_at l = each_at rows_at 7 7 l

unfoldable pub statuses_at : List ℕ → List Status
statuses_at l = each_at status_at 1 7 l

unfoldable pub batches_at : List ℕ → List Batch
batches_at l = each_at batch_at 109 7 l
