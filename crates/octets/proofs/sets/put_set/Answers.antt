-- `octets::sets::put_set` meets its contract: seven bytes, one for each row.
use Rattle.std.proofs.Common.{rules}
use mathlib.Core.Path.{◌∙◌}
use Rattle.layout.proofs.Laying.{lay_range}
use Rattle.octets.proofs.SetLaws.{set_length, cols_bytes}
use Rattle.octets.proofs.sets.put_set.Goals as goal

pub returns : goal.returns
returns c =
    let a = c.args in
    lay_range a.out.now a.at 7 _ _ (c.copy_from_slice.ensures.after ∙ cols_bytes a.d (search rules)) (set_length a.d) c.requires
