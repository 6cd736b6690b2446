-- Contents, 124 bytes: sequence 8, dependency set 7, batch 109.
use Rattle.std.specs.Prelude.{List, ◌++◌, Bool, ℕ, drop}
use Rattle.deps.specs.declared.sets.DepSet.{DepSet}
use Rattle.deps.specs.declared.batches.Batch.{Batch}
use Rattle.layout.specs.Numbers.{word_bytes}
use Rattle.layout.specs.Batches.{batch_bytes}
use Rattle.octets.specs.Sets.{set_bytes}
use Rattle.octets.specs.Known.{each_below}

abbrev pub contents_width : ℕ
contents_width = 124

unfoldable pub contents_bytes : ℕ → DepSet → Batch → List ℕ
contents_bytes seq deps batch = word_bytes seq ++ set_bytes deps ++ batch_bytes batch

-- the kinds of the four requests, the first at 32 and 27 bytes apart, are 0, 1 or 2
unfoldable pub kinds_known : List ℕ → Bool
kinds_known l = each_below 4 27 3 (drop 32 l)
