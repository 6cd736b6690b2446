-- `layout::batches::request_plain` meets its contract: a put; no value, and then a get or no key.
-- each part from the slice's first byte on
use Rattle.std.proofs.Common.{rules}
use mathlib.Core.Path.{◌≡◌}
use mathlib.Core.List.{List}
use Prim.Native.Nat.{ℕ, ◌+◌}
use lib.ListN.{get_or, drop}
use lib.Seq.{drop-drop, get_or-drop}
use Rattle.layout.specs.Numbers.{word_of, short_of}
use Rattle.layout.specs.Batches.{kind_plain, request_plain}
use Rattle.layout.proofs.batches.request_plain.Goals as goal

from_first : (s : List ℕ) (at : ℕ) → kind_plain (get_or s (at + 16) 0) (short_of (drop (at + 17) s)) (word_of (drop (at + 19) s)) ≡ request_plain (drop at s)
unfolding request_plain
from_first s at = simp (get_or-drop, drop-drop)

pub returns-then-kind-eq1 : goal.returns-then-kind-eq1
returns-then-kind-eq1 c = rw (← from_first c.args.s.now c.args.at) (search rules)

pub returns-then-kind-eq2 : goal.returns-then-kind-eq2
returns-then-kind-eq2 c = rw (← from_first c.args.s.now c.args.at) (search rules)

pub returns-else-kind-eq2 : goal.returns-else-kind-eq2
returns-else-kind-eq2 c = rw (← from_first c.args.s.now c.args.at) (search rules)

pub returns-else-word-eq0 : goal.returns-else-word-eq0
returns-else-word-eq0 c = rw (← from_first c.args.s.now c.args.at) (search rules)
