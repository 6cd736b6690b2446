-- `deciding::answers::put_contents` meets its contract: sequence, dependency set and batch are laid one after the other.
use Rattle.deciding.proofs.AnswerLaws.{front_laid, whole_laid, part_laid}
use Rattle.deciding.proofs.answers.put_contents.Goals as goal

pub returns-then-whole : goal.returns-then-whole
returns-then-whole c =
    let a = c.args in
    let p = front_laid _ _ _ a.contents c.put_word.ensures c.put_set.ensures in
    whole_laid _ _ _ a.contents a.whole c.if-whole.true p c.put_batch.ensures

pub returns-else-whole : goal.returns-else-whole
returns-else-whole c =
    let a = c.args in
    part_laid _ _ a.contents a.whole c.if-whole.false (front_laid _ _ _ a.contents c.put_word.ensures c.put_set.ensures)
