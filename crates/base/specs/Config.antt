-- A configuration and its bounds.
use Rattle.std.specs.Prelude.{Bool, ◌&&◌, ◌≤◌, ◌<◌, ltb, leb}
use Rattle.base.specs.declared.config.Config.{Config}

-- N 1..7, own < N and 1 ≤ simple ≤ super ≤ N
pub record Within (c : Config) : Type 0 where
  pub some : 1 ≤ c.n
  pub seven : c.n ≤ 7
  pub mine : c.own < c.n
  pub quorum : 1 ≤ c.simple
  pub rising : c.simple ≤ c.sup
  pub all : c.sup ≤ c.n

-- the test of it; else refusal 1
unfoldable pub config_fits : Config → Bool
config_fits c = leb 1 c.n && (leb c.n 7 && (ltb c.own c.n && (leb 1 c.simple && (leb c.simple c.sup && leb c.sup c.n))))
