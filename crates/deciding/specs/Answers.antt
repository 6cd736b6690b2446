-- The answer to the host: a number, and the bytes of out.
use Rattle.std.specs.Prelude.{List, [], ◌++◌, Bool, cond, ℕ, Option, None, Some}
use Rattle.base.specs.Refusals.{outside_bounds}
use Rattle.votes.specs.Answer.{goes_on_with}
use Rattle.votes.specs.declared.answer.Decision.{Decision}
use Rattle.votes.specs.declared.answer.Decision.TheVariants.{Refused}
use Rattle.votes.specs.declared.contents.Contents.{Contents}
use Rattle.layout.specs.Numbers.{word_bytes, lay}
use Rattle.layout.specs.Batches.{batch_bytes}
use Rattle.octets.specs.Sets.{set_bytes}
use Rattle.calls.specs.Calls.{short}
use Rattle.deciding.specs.Codes.{code_of}

-- sequence 8, dependency set 7; where it is whole also the batch, 109
abbrev pub contents_width : Bool → ℕ
contents_width whole = cond whole 124 15

unfoldable pub contents_bytes : Bool → Contents → List ℕ
contents_bytes whole c = (word_bytes c.seq ++ set_bytes c.deps) ++ cond whole (batch_bytes c.batch) []

-- the contents over out's front where there is something to go on with; else out as it was
abbrev pub out_with : Bool → Option Contents → List ℕ → List ℕ
out_with whole None out = out
out_with whole (Some c) out = lay out 0 (contents_bytes whole c)

unfoldable pub out_of : Bool → Decision → List ℕ → List ℕ
out_of whole d out = out_with whole (goes_on_with d) out

-- a byte that stands for nothing is refused before anything is decided
abbrev pub if_known : Bool → Decision → Decision
if_known known d = cond known d (Refused outside_bounds)

-- short slices first: 0, and out as it was
abbrev pub code_if : Bool → Decision → ℕ
code_if long d = cond long (code_of d) short

abbrev pub bytes_if : Bool → Bool → Decision → List ℕ → List ℕ
bytes_if long whole d out = cond long (out_of whole d out) out
