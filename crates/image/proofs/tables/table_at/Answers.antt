-- `image::tables::table_at` meets its contract: five parts, each read at its place.
use Rattle.image.specs.Tables.{table_at}
use Rattle.image.proofs.TableLaws.{table_same}
use Rattle.image.proofs.tables.table_at.Goals as goal

pub returns : goal.returns
unfolding table_at
returns c =
    table_same c.config_at.ensures c.slots_at.ensures c.rows_at.ensures c.rows_at-2.ensures c.keys_at.ensures
