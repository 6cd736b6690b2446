-- The contents laid in out's front, piece by piece.
use mathlib.Core.Path.{◌≡◌}
use mathlib.Core.List.{List, ◌++◌, append-nil}
use mathlib.Core.Bool.{Bool, true, false}
use Prim.Native.Nat.{ℕ}
use Rattle.votes.specs.declared.contents.Contents.{Contents}
use Rattle.layout.specs.Numbers.{word_bytes, lay}
use Rattle.layout.specs.Batches.{batch_bytes}
use Rattle.octets.specs.Sets.{set_bytes}
use Rattle.layout.proofs.Laying.{Laid, next}
use Rattle.layout.proofs.NumberLaws.{word_length}
use Rattle.layout.proofs.BatchLaws.{batch_length}
use Rattle.octets.proofs.SetLaws.{set_length}
use Rattle.deciding.specs.Answers.{contents_bytes}

abbrev pub Front : List ℕ → List ℕ → Contents → Type 0
Front l o c = Laid l o 0 (word_bytes c.seq ++ set_bytes c.deps) 15

pub front_laid : (o m l : List ℕ) (c : Contents) → m ≡ lay o 0 (word_bytes c.seq) → l ≡ lay m 8 (set_bytes c.deps) → Front l o c
front_laid o m l c e f = next l (set_bytes c.deps) 7 (record { is = e; long = word_length c.seq }) f (set_length c.deps)

-- with the batch after it, and without
pub whole_laid : (o l k : List ℕ) (c : Contents) (whole : Bool) → whole ≡ true → Front l o c → k ≡ lay l 15 (batch_bytes c.batch) → k ≡ lay o 0 (contents_bytes whole c)
unfolding contents_bytes
whole_laid o l k c whole e p f = rw e (next k (batch_bytes c.batch) 109 p f (batch_length c.batch)).is

pub part_laid : (o l : List ℕ) (c : Contents) (whole : Bool) → whole ≡ false → Front l o c → l ≡ lay o 0 (contents_bytes whole c)
unfolding contents_bytes
part_laid o l c whole e p = rw (e, append-nil) p.is
