-- `output_bytes::output::put_tags` meets its contract: five bytes, one after the other.
use Rattle.output_bytes.specs.Output.{what_byte, peer_of, tag_bytes}
use Rattle.layout.specs.Numbers.{byte_for}
use Rattle.layout.proofs.Laying.{Laid, next, lay_same}
use Rattle.base.specs.Status.{rank_of}
use Prim.Native.Nat.{min, ℕ, ◌+◌}
use mathlib.Core.Path.{refl, ap, ◌∙◌}
use mathlib.Core.List.{[], ◌∷◌}
use Rattle.output_bytes.proofs.output.put_tags.Goals as goal

pub returns : goal.returns
unfolding tag_bytes
returns c =
    let a = c.args in
    let peer = c.byte.ensures ∙ ap (λ (v : ℕ). min v 255) c.peer_of.ensures in
    let l₁ : Laid _ _ a.at (what_byte a.what ∷ []) 1 = record { is = lay_same (λ b. b ∷ []) _ _ a.at c.put_byte.ensures c.what_byte.ensures; long = refl } in
    let l₂ = next _ (byte_for (peer_of a.what)) 1 l₁ (lay_same (λ b. b ∷ []) _ _ (a.at + 1) c.put_byte-2.ensures peer) refl in
    let l₃ = next _ (byte_for a.place.row) 1 l₂ (lay_same (λ b. b ∷ []) _ _ (a.at + 2) c.put_byte-3.ensures c.byte-2.ensures) refl in
    let l₄ = next _ (byte_for a.place.col) 1 l₃ (lay_same (λ b. b ∷ []) _ _ (a.at + 3) c.put_byte-4.ensures c.byte-3.ensures) refl in
    (next _ (rank_of a.status ∷ []) 1 l₄ (lay_same (λ b. b ∷ []) _ _ (a.at + 4) c.put_byte-5.ensures c.rank.ensures) refl).is
