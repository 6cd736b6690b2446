-- `slot_bytes::slot::put_head` meets its contract: three bytes, each after the one before.
use Rattle.std.proofs.Common.{rules}
use mathlib.Core.Path.{◌≡◌, refl}
use mathlib.Core.List.{[], ◌∷◌}
use Prim.Native.Nat.{◌+◌}
use Rattle.base.specs.Status.{rank_of}
use Rattle.layout.proofs.Laying.{Laid, next, lay_same}
use Rattle.slot_bytes.specs.Slot.{mark_byte, head_bytes}
use Rattle.slot_bytes.proofs.slot.put_head.Goals as goal

pub returns : goal.returns
unfolding head_bytes
returns c =
    let a = c.args in
    let mark : c.from.result ≡ mark_byte a.led = search rules in
    let l₁ : Laid _ _ a.at (rank_of a.status ∷ []) 1 = record { is = lay_same (λ b. b ∷ []) _ _ a.at c.put_byte.ensures c.rank.ensures; long = refl } in
    let l₂ = next _ (a.source ∷ []) 1 l₁ c.put_byte-2.ensures refl in
    (next _ (mark_byte a.led ∷ []) 1 l₂ (lay_same (λ b. b ∷ []) _ _ (a.at + 2) c.put_byte-3.ensures mark) refl).is
