-- `image::tables::is_known` meets its contract: every slot is known.
use Rattle.std.proofs.Common.{rules}
use Rattle.layout.proofs.RangeLaws.{all_over}
use Rattle.image.specs.Tables.{known_at, image_known}
use Rattle.image.proofs.tables.is_known.Goals as goal

pub returns : goal.returns
unfolding image_known
returns c = all_over (known_at c.args.image.now) 224 _ _ _ c.all.ensures.ran (λ i b q h. (search rules, search rules))
