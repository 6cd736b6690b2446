-- `octets::known::each_below` meets its contract: every byte is below the bound.
use Rattle.std.proofs.Common.{rules}
use mathlib.Core.Path.{◌≡◌}
use Prim.Native.Nat.{◌+◌, ◌*◌}
use lib.Dec.{ltb}
use lib.ListN.{drop, get_or}
use lib.Seq.{get_or-drop}
use Rattle.octets.specs.Known.{below_at, each_below}
use Rattle.layout.proofs.RangeLaws.{all_over}
use Rattle.octets.proofs.known.each_below.Goals as goal

pub returns : goal.returns
unfolding each_below
returns c =
    let a = c.args in
    all_over (below_at a.step a.bound (drop a.at a.s.now)) a.count _ _ _ c.all.ensures.ran (λ i b q h. (search rules, (let e : b ≡ ltb (get_or a.s.now (a.at + a.step * i) 0) a.bound = search rules in rw get_or-drop e)))
