-- Refusal 1 of a configuration, exactly when.
use mathlib.Core.Path.{◌≡◌}
use mathlib.Core.Bool.{true}
use borrow.Author.Tests.{lt-ltb, le-leb, ltb-true, leb-true}
use Rattle.base.specs.Config.{Within, config_fits}
use Rattle.base.specs.declared.config.Config.{Config}
use Rattle.base.proofs.Loops.{both_true}

pub config_fits_each : (c : Config) → config_fits c ≡ true → Within c
unfolding config_fits
config_fits_each c h =
    let a = both_true _ _ h in
    let b = both_true _ _ a.1 in
    let d = both_true _ _ b.1 in
    let e = both_true _ _ d.1 in
    let f = both_true _ _ e.1 in
    record {
      some = leb-true _ _ a.0;
      seven = leb-true _ _ b.0;
      mine = ltb-true _ _ d.0;
      quorum = leb-true _ _ e.0;
      rising = leb-true _ _ f.0;
      all = leb-true _ _ f.1;
    }

pub each_config_fits : (c : Config) → Within c → config_fits c ≡ true
unfolding config_fits
each_config_fits c w =
    rw (le-leb _ _ w.some, le-leb _ _ w.seven, lt-ltb _ _ w.mine, le-leb _ _ w.quorum, le-leb _ _ w.rising, le-leb _ _ w.all)
