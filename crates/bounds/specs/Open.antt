-- A table to begin with.
use Rattle.std.specs.Prelude.{cond, ℕ}
use Rattle.base.specs.Config.{config_fits}
use Rattle.base.specs.Refusals.{outside_bounds}
use Rattle.base.specs.declared.config.Config.{Config}
use Rattle.base.specs.declared.answer.Answer.{Answer}
use Rattle.base.specs.declared.answer.Answer.TheVariants.{Done, Refused}
use Rattle.table.specs.Table.{empty_table}
use Rattle.bounds.specs.declared.open.Opened.{Opened}

abbrev pub config_of : ℕ → ℕ → ℕ → ℕ → Config
config_of n own simple sup = record { n = n; own = own; simple = simple; sup = sup }

abbrev pub opened : Answer → Config → Opened
opened answer config = record { answer = answer; table = empty_table config }

-- an empty table, or refusal 1: then the table is outside the bounds too
unfoldable pub open_of : ℕ → ℕ → ℕ → ℕ → Opened
open_of n own simple sup =
    cond (config_fits (config_of n own simple sup)) (opened Done (config_of n own simple sup)) (opened (Refused outside_bounds) (config_of n own simple sup))
