-- `slot_bytes::slot::slot_known` meets its contract: each test at its place.
use Rattle.std.proofs.Common.{rules}
use Rattle.slot_bytes.proofs.SlotLaws.{known_is}
use Rattle.slot_bytes.proofs.slot.slot_known.Goals as goal

pub returns-then-word-le-SEQUENCE_LIMIT : goal.returns-then-word-le-SEQUENCE_LIMIT
returns-then-word-le-SEQUENCE_LIMIT c = rw (known_is c.args.s.now c.args.at) (search rules)

pub returns-else-word-le-SEQUENCE_LIMIT : goal.returns-else-word-le-SEQUENCE_LIMIT
returns-else-word-le-SEQUENCE_LIMIT c = rw (known_is c.args.s.now c.args.at) (search rules)
