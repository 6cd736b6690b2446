-- What the host passes: marks, a configuration.
use Rattle.std.specs.Prelude.{List, Bool, ℕ}
use Rattle.base.specs.declared.config.Config.{Config}
use Rattle.octets.specs.Known.{each_below}

-- each of seven marks is 0 or 1
abbrev pub marks_known : List ℕ → Bool
marks_known s = each_below 7 1 2 s

abbrev pub config_of : ℕ → ℕ → ℕ → ℕ → Config
config_of n own simple sup = record { n = n; own = own; simple = simple; sup = sup }
