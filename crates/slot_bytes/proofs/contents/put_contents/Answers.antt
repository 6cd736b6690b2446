-- `slot_bytes::contents::put_contents` meets its contract: three runs of bytes, each where the one before ends.
use Rattle.layout.specs.Numbers.{word_bytes}
use Rattle.layout.proofs.Laying.{Laid, next}
use Rattle.layout.proofs.NumberLaws.{word_length}
use Rattle.layout.proofs.BatchLaws.{batch_length}
use Rattle.octets.proofs.SetLaws.{set_length}
use Rattle.slot_bytes.specs.Contents.{contents_bytes}
use Rattle.slot_bytes.proofs.contents.put_contents.Goals as goal

pub returns : goal.returns
unfolding contents_bytes
returns c =
    let a = c.args in
    let l₁ : Laid _ _ a.at (word_bytes a.seq) 8 = record { is = c.put_word.ensures; long = word_length a.seq } in
    let l₂ = next _ _ 7 l₁ c.put_set.ensures (set_length a.deps) in
    (next _ _ 109 l₂ c.put_batch.ensures (batch_length a.batch)).is
