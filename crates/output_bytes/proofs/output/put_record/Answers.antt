-- `output_bytes::output::put_record` meets its contract: the tags, two ballots and the contents, each where the one before ends.
use Rattle.output_bytes.specs.Output.{asked_of, tag_bytes, record_bytes}
use Rattle.slot_bytes.specs.Contents.{contents_bytes}
use Rattle.layout.specs.Numbers.{word_bytes}
use Rattle.layout.proofs.Laying.{Laid, next, lay_same}
use Rattle.layout.proofs.NumberLaws.{word_length}
use Rattle.slot_bytes.proofs.SlotLaws.{contents_length}
use Rattle.output_bytes.proofs.OutputLaws.{tag_length}
use Prim.Native.Nat.{◌+◌}
use Rattle.output_bytes.proofs.output.put_record.Goals as goal

pub returns : goal.returns
unfolding record_bytes
returns c =
    let a = c.args in
    let e = a.entry in
    let l₁ : Laid _ _ a.at (tag_bytes e.what e.at e.status) 5 = record { is = c.put_tags.ensures; long = tag_length e.what e.at e.status } in
    let l₂ = next _ _ 8 l₁ (lay_same word_bytes _ _ (a.at + 5) c.put_word.ensures c.asked_of.ensures) (word_length (asked_of e.what)) in
    let l₃ = next _ _ 8 l₂ c.put_word-2.ensures (word_length e.ballot) in
    (next _ _ 124 l₃ (lay_same (λ k. contents_bytes k e.deps e.batch) _ _ (a.at + 21) c.put_contents.ensures c.from.ensures) (contents_length e.seq e.deps e.batch)).is
