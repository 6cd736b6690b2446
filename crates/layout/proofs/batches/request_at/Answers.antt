-- `layout::batches::request_at` meets its contract: field by field, where the layout has it.
use mathlib.Core.Path.{refl}
use Rattle.layout.proofs.BatchLaws.{request_is}
use Rattle.layout.proofs.batches.request_at.Goals as goal

pub returns : goal.returns
returns c =
    let a = c.args in
    request_is a.s.now a.at _ _ _ _ _ _ c.word.ensures c.word-2.ensures c.short.ensures c.word-3.ensures refl c.kind_of.ensures
