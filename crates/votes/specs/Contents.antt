-- What a reply or vote says: sequence, dependencies, batch.
use Rattle.std.specs.Prelude.{List, [], Bool, ◌&&◌, eqb, get_or, ℕ, max}
use Rattle.base.specs.Below.{list_below}
use Rattle.deps.specs.Sets.{set_of, empty_set, union_of, same_set}
use Rattle.deps.specs.Batches.{no_op, same_batch}
use Rattle.deps.specs.declared.sets.DepSet.{DepSet}
use Rattle.deps.specs.declared.batches.Batch.{Batch}
use Rattle.votes.specs.declared.contents.Contents.{Contents}

abbrev pub contents_of : ℕ → DepSet → Batch → Contents
contents_of seq deps batch = record { seq = seq; deps = deps; batch = batch }

-- nothing said
abbrev pub none : Contents
none = contents_of 0 empty_set no_op

-- sequence 1, empty dependencies, empty batch
abbrev pub no_op_contents : Contents
no_op_contents = contents_of 1 empty_set no_op

-- what a replica says; past the entries there is nothing, not even a row
abbrev pub blank : Contents
blank = contents_of 0 (set_of []) (record { count = 0; reqs = [] })

abbrev pub said_by : List Contents → ℕ → Contents
said_by entries r = get_or entries r blank

-- equal sequence, dependencies and batch
unfoldable pub same_contents : Contents → Contents → Bool
same_contents a b = eqb a.seq b.seq && (same_set a.deps b.deps && same_batch a.batch b.batch)

-- the greater sequence, the union of the dependencies
unfoldable pub join_of : Contents → Contents → Contents
join_of a b = contents_of (max a.seq b.seq) (union_of a.deps b.deps) a.batch

-- the entries of the seven replicas, from their sequences, dependency columns and batches
abbrev pub entry_of : List ℕ → List (List ℕ) → List Batch → ℕ → Contents
entry_of seqs deps batches r = contents_of (get_or seqs r 0) (set_of (get_or deps r [])) (get_or batches r (record { count = 0; reqs = [] }))

unfoldable pub entries_of : List ℕ → List (List ℕ) → List Batch → List Contents
entries_of seqs deps batches = list_below 7 (entry_of seqs deps batches)
