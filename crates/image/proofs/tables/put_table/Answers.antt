-- `image::tables::put_table` meets its contract: five parts, each where the one before ends, and no byte is left over.
use mathlib.Core.Path.{sym, ◌∙◌}
use Rattle.layout.proofs.Laying.{Laid, next, lay_whole}
use Rattle.image.specs.Tables.{config_bytes, rows_bytes, keys_bytes, slots_bytes, table_bytes}
use Rattle.image.proofs.TableLaws.{config_length, rows_bytes_length, keys_length, slots_length, table_length}
use Rattle.image.proofs.tables.put_table.Goals as goal

pub returns : goal.returns
unfolding table_bytes
returns c =
    let a = c.args in
    let t = a.table in
    let l₁ : Laid _ a.image.now 0 (config_bytes t.config) 4 = record { is = c.put_config.ensures; long = config_length t.config } in
    let l₂ = next _ (rows_bytes t.lens) 7 l₁ c.put_rows.ensures (rows_bytes_length t.lens) in
    let l₃ = next _ (rows_bytes t.bars) 7 l₂ c.put_rows-2.ensures (rows_bytes_length t.bars) in
    let l₄ = next _ (keys_bytes t.keys) 1792 l₃ c.put_keys.ensures (keys_length t.keys) in
    let l₅ = next _ (slots_bytes t.slots) 31808 l₄ c.put_slots.ensures (slots_length t.slots) in
    l₅.is ∙ lay_whole a.image.now (table_bytes t) (c.requires ∙ sym (table_length t))
