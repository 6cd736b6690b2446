-- `layout::batches::put_request` meets its contract: five runs of bytes, each where the one before ends.
use mathlib.Core.Path.{refl}
use mathlib.Core.List.{[], ◌∷◌}
use Prim.Native.Nat.{◌+◌}
use Rattle.layout.specs.Numbers.{word_bytes, short_bytes}
use Rattle.layout.specs.Batches.{request_bytes, kind_byte, key_of, value_of}
use Rattle.layout.proofs.Laying.{Laid, next, lay_same}
use Rattle.layout.proofs.NumberLaws.{word_length, short_length}
use Rattle.layout.proofs.batches.put_request.Goals as goal

pub returns : goal.returns
unfolding request_bytes
returns c =
    let a = c.args in
    let q = a.q in
    let l₁ : Laid _ _ a.at (word_bytes q.client) 8 = record { is = c.put_word.ensures; long = word_length q.client } in
    let l₂ = next _ _ 8 l₁ c.put_word-2.ensures (word_length q.id) in
    let l₃ = next _ (kind_byte q.kind ∷ []) 1 l₂ (lay_same (λ b. b ∷ []) _ _ (a.at + 16) c.put_byte.ensures c.kind_byte.ensures) refl in
    let l₄ = next _ _ 2 l₃ (lay_same short_bytes _ _ (a.at + 17) c.put_short.ensures c.key_of.ensures) (short_length (key_of q.kind)) in
    (next _ _ 8 l₄ (lay_same word_bytes _ _ (a.at + 19) c.put_word-3.ensures c.value_of.ensures) (word_length (value_of q.kind))).is
