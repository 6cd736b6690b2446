-- `passed::sevens::words_at` meets its contract: each word is read at its place.
use Rattle.std.proofs.Common.{rules}
use Rattle.layout.specs.Numbers.{word_of}
use Rattle.layout.proofs.EachLaws.{made_is}
use Rattle.passed.specs.Sevens.{words_at}
use Rattle.passed.proofs.sevens.words_at.Goals as goal

pub returns : goal.returns
unfolding words_at
returns c = made_is _ word_of 8 c.args.at c.args.s.now _ (λ i y q h. search rules) 7 _ 0 c.from_fn.ensures.items
