-- `changes::view::look_plain` meets its contract: an empty batch waits for nothing, of which the highest sequence is 0.
use mathlib.Core.Path.{◌≡◌, refl, sym, ◌∙◌}
use mathlib.Core.List.{flat_map}
use Rattle.deps.specs.Sets.{empty_set}
use Rattle.deps.specs.Batches.{no_op}
use Rattle.keys.specs.Columns.{identify_of}
use Rattle.keys.specs.declared.columns.Keys.{Keys}
use Rattle.bounds.proofs.HighestLaws.{highest_none}
use Rattle.changes.specs.View.{view_of}
use Rattle.changes.proofs.view.look_plain.Goals as goal

waits_for_nothing : (k : Keys) → identify_of k no_op ≡ empty_set
unfolding identify_of flat_map
waits_for_nothing k = refl

pub returns : goal.returns
unfolding view_of
returns g c =
    let t = g.S.Shown.table c.args.shown.now in
    c.look_with.ensures ∙ sym (rw (waits_for_nothing t.keys, highest_none t))
