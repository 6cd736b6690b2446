use Rattle.lines.specs.Bars.{bar_text}
use Rattle.lines.proofs.text.Text.put_bar.Goals as goal

pub put_pair-requires : goal.put_pair-requires
unfolding bar_text
put_pair-requires c = rw c.run_bar-run.ensures c.requires.room

pub returns : goal.returns
unfolding bar_text
returns c = rw c.run_bar-run.ensures at c.put_pair.ensures
