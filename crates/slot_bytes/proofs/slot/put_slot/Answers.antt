-- `slot_bytes::slot::put_slot` meets its contract: four runs of bytes, each where the one before ends.
use Rattle.layout.proofs.Laying.{Laid, next, lay_same}
use Rattle.layout.proofs.NumberLaws.{word_length}
use Prim.Native.Nat.{◌+◌}
use Rattle.slot_bytes.specs.Contents.{contents_bytes}
use Rattle.slot_bytes.specs.Slot.{head_bytes, slot_bytes}
use Rattle.slot_bytes.proofs.SlotLaws.{head_length, marks_bytes_length, contents_length}
use Rattle.slot_bytes.proofs.slot.put_slot.Goals as goal

pub returns : goal.returns
unfolding slot_bytes
returns c =
    let a = c.args in
    let q = a.slot in
    let l₁ : Laid _ _ a.at (head_bytes q.status q.source q.led) 3 = record { is = c.put_head.ensures; long = head_length q.status q.source q.led } in
    let l₂ = next _ _ 7 l₁ c.put_marks.ensures (marks_bytes_length q.marks) in
    let l₃ = next _ _ 8 l₂ c.put_word.ensures (word_length q.ballot) in
    (next _ _ 124 l₃ (lay_same (λ k. contents_bytes k q.deps q.batch) _ _ (a.at + 18) c.put_contents.ensures c.from.ensures) (contents_length q.seq q.deps q.batch)).is
