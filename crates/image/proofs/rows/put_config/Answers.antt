-- `image::rows::put_config` meets its contract: four bytes, each after the one before.
use mathlib.Core.Path.{refl}
use mathlib.Core.List.{[], ◌∷◌}
use Rattle.layout.proofs.Laying.{Laid, next, lay_same}
use Rattle.layout.specs.Numbers.{byte_for}
use Rattle.image.specs.Tables.{config_bytes}
use Rattle.image.proofs.rows.put_config.Goals as goal

pub returns : goal.returns
unfolding config_bytes
returns c =
    let a = c.args in
    let g = a.config in
    let l₁ : Laid _ _ 0 (byte_for g.n) 1 = record { is = lay_same (λ b. b ∷ []) _ _ 0 c.put_byte.ensures c.byte.ensures; long = refl } in
    let l₂ = next _ (byte_for g.own) 1 l₁ (lay_same (λ b. b ∷ []) _ _ 1 c.put_byte-2.ensures c.byte-2.ensures) refl in
    let l₃ = next _ (byte_for g.simple) 1 l₂ (lay_same (λ b. b ∷ []) _ _ 2 c.put_byte-3.ensures c.byte-3.ensures) refl in
    (next _ (byte_for g.sup) 1 l₃ (lay_same (λ b. b ∷ []) _ _ 3 c.put_byte-4.ensures c.byte-4.ensures) refl).is
