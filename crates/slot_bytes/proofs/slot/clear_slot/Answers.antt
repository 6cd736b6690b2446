-- `slot_bytes::slot::clear_slot` meets its contract: a plain slot's bytes are those that would be written.
use mathlib.Core.Path.{◌≡◌, ap, sym, ◌∙◌}
use mathlib.Core.Bool.{true}
use borrow.Author.Rules.{rules}
use lib.ListN.{drop}
use lib.Seq.{drop-drop}
use Rattle.layout.specs.Batches.{batch_plain}
use Rattle.slot_bytes.proofs.AgainLaws.{slot_again}
use Rattle.slot_bytes.proofs.slot.clear_slot.Goals as goal

pub returns-else-not-batch_plain : goal.returns-else-not-batch_plain
returns-else-not-batch_plain c =
    let a = c.args in
    let plain : batch_plain (drop 33 (drop a.at a.out.now)) ≡ true = ap batch_plain (drop-drop 33 a.at a.out.now) ∙ sym c.batch_plain.ensures ∙ c.if-not-batch_plain.false in
    slot_again a.out.now (λ i. search rules) a.at c.requires.out_value plain
