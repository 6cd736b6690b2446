-- `slot_bytes::contents::kinds_known` meets its contract: the kinds lie from byte 32 on.
use lib.Seq.{drop-drop}
use Rattle.slot_bytes.specs.Contents.{kinds_known}
use Rattle.slot_bytes.proofs.contents.kinds_known.Goals as goal

pub returns : goal.returns
unfolding kinds_known
returns c = rw drop-drop c.each_below.ensures
