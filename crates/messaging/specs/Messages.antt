-- The C functions of the handlers: numbers and contents as messages.
use Rattle.std.specs.Prelude.{List, true, cond, ℕ, drop}
use Rattle.base.specs.Answer.{number_of}
use Rattle.deps.specs.Sets.{empty_set}
use Rattle.deps.specs.Batches.{no_op}
use Rattle.table.specs.Place.{place_of}
use Rattle.bounds.specs.Open.{open_of}
use Rattle.table.specs.declared.table.Table.{Table}
use Rattle.outcomes.specs.Outcome.{Handled}
use Rattle.outcomes.specs.declared.message.Message.{Message}
use Rattle.outcomes.specs.declared.message.Proposal.{Proposal}
use Rattle.layout.specs.Numbers.{word_of}
use Rattle.layout.specs.Batches.{batch_at}
use Rattle.octets.specs.Sets.{set_at}
use Rattle.slot_bytes.specs.Contents.{contents_width, kinds_known}
use Rattle.calls.specs.Calls.{short, enough, Called, unchanged, image_long, image_with, on_image}

-- ---- open

unfoldable pub open_code : ℕ → ℕ → ℕ → ℕ → List ℕ → ℕ
open_code n own simple sup image = cond (image_long image) (number_of (open_of n own simple sup).answer) short

-- an empty table, or the image as it was
unfoldable pub open_image : ℕ → ℕ → ℕ → ℕ → List ℕ → List ℕ
open_image n own simple sup image =
    cond (image_long image) (image_with (open_of n own simple sup).answer (open_of n own simple sup).table image) image

-- ---- messages

abbrev pub message_of : ℕ → ℕ → ℕ → ℕ → Message
message_of peer row col ballot = record { peer = peer; at = place_of row col; ballot = ballot }

-- with its contents: sequence 8, dependency set 7, batch 109
abbrev pub proposal_of : Message → List ℕ → Proposal
proposal_of m contents = record { message = m; seq = word_of contents; deps = set_at (drop 8 contents); batch = batch_at (drop 15 contents) }

-- of a message that has none
abbrev pub alone : Message → Proposal
alone m = record { message = m; seq = 0; deps = empty_set; batch = no_op }

-- a handler of proposals on an image
abbrev pub proposal_call : (Table → Proposal → Handled) → Message → List ℕ → List ℕ → List ℕ → Called
proposal_call entry m contents image out =
    cond (enough contents_width contents) (on_image (kinds_known contents) (λ t. entry t (proposal_of m contents)) image out) (unchanged short image out)

-- a handler of what is no more than a message, or a place
abbrev pub plain_call : (Table → Handled) → List ℕ → List ℕ → Called
plain_call entry image out = on_image true entry image out
