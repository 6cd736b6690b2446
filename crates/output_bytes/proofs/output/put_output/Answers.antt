-- `output_bytes::output::put_output` meets its contract: the count, and the two records after it.
use Rattle.output_bytes.specs.Output.{record_no, record_bytes, output_bytes}
use Rattle.layout.specs.Numbers.{byte_for}
use Rattle.layout.proofs.Laying.{Laid, next, lay_same}
use Rattle.output_bytes.proofs.OutputLaws.{record_length}
use mathlib.Core.Path.{refl}
use mathlib.Core.List.{[], ◌∷◌}
use Rattle.output_bytes.proofs.output.put_output.Goals as goal

pub returns : goal.returns
unfolding output_bytes
returns c =
    let a = c.args in
    let o = a.output in
    let l₁ : Laid _ _ 0 (byte_for o.count) 1 = record { is = lay_same (λ b. b ∷ []) _ _ 0 c.put_byte.ensures c.byte.ensures; long = refl } in
    let l₂ = next _ (record_bytes (record_no o 0)) 145 l₁ c.put_record.ensures (record_length (record_no o 0)) in
    (next _ (record_bytes (record_no o 1)) 145 l₂ c.put_record-2.ensures (record_length (record_no o 1))).is
