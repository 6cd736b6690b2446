-- A call on an image: the table read, the entry, the table and what it puts out written. One shape for every handler.
use Rattle.std.specs.Prelude.{List, Bool, cond, ◌&&◌, ℕ, leb, eqb, length}
use Rattle.base.specs.Answer.{number_of, is_refused}
use Rattle.base.specs.Refusals.{outside_bounds}
use Rattle.base.specs.declared.answer.Answer.{Answer}
use Rattle.table.specs.declared.table.Table.{Table}
use Rattle.outcomes.specs.Outcome.{Handled, outcome_of}
use Rattle.outcomes.specs.declared.message.Proposal.{Proposal}
use Rattle.outcomes.specs.declared.outcome.Outcome.{Outcome}
use Rattle.proposing.specs.Proposals.{pre_accept, accept, commit_notice}
use Rattle.handlers.specs.Replies.{accept_reply}
use Rattle.handlers.specs.Prepare.{exp_prepare}
use Rattle.handlers.specs.Lead.{lead_slot}
use Rattle.layout.specs.Numbers.{lay}
use Rattle.image.specs.Tables.{image_width, table_at, table_bytes, image_known}
use Rattle.output_bytes.specs.Output.{output_width, output_bytes}
use Rattle.calls.specs.declared.calls.Handler.{Handler}
use Rattle.calls.specs.declared.calls.Handler.TheVariants.{PreAccept, Accept, CommitNotice, AcceptReply, ExpPrepare, Lead}

-- a slice is shorter than its layout, or the image has another length
abbrev pub short : ℕ
short = 0

-- the slice has as many bytes as its layout
abbrev pub enough : ℕ → List ℕ → Bool
enough width s = leb width (length s)

-- the number that a call returns, and what it leaves in the image and in out
pub record Called : Type 0 where
  pub code : ℕ
  pub image : List ℕ
  pub out : List ℕ

-- image and out as they were
abbrev pub unchanged : ℕ → List ℕ → List ℕ → Called
unchanged code image out = record { code = code; image = image; out = out }

-- a refusal writes nothing: the bytes are as they were
abbrev pub bytes_after : Answer → List ℕ → List ℕ → List ℕ
bytes_after answer before written = cond (is_refused answer) before written

abbrev pub image_with : Answer → Table → List ℕ → List ℕ
image_with answer t image = bytes_after answer image (table_bytes t)

-- laid from the first byte on
abbrev pub laid_with : Answer → List ℕ → List ℕ → List ℕ
laid_with answer bytes s = bytes_after answer s (lay s 0 bytes)

abbrev pub settled : Outcome → List ℕ → List ℕ → Called
settled o image out =
    record {
      code = number_of o.answer;
      image = image_with o.answer o.table image;
      out = laid_with o.answer (output_bytes o.output) out;
    }

-- the image has its length
abbrev pub image_long : List ℕ → Bool
image_long image = eqb (length image) image_width

unfoldable pub call_long : List ℕ → List ℕ → Bool
call_long image out = image_long image && enough output_width out

-- lengths first; then a byte that stands for nothing, of the event or of the image; then the entry, on the table that the image is
unfoldable pub on_image : Bool → (Table → Handled) → List ℕ → List ℕ → Called
on_image known entry image out =
    cond (call_long image out)
    (cond (known && image_known image) (settled (outcome_of (table_at image) (entry (table_at image))) image out) (unchanged outside_bounds image out))
    (unchanged short image out)

-- the entries by name; a reply or prepare has no more than its message, Lead no more than its place
abbrev pub handled_by : Handler → Proposal → Table → Handled
handled_by PreAccept p t = pre_accept t p
handled_by Accept p t = accept t p
handled_by CommitNotice p t = commit_notice t p
handled_by AcceptReply p t = accept_reply t p.message
handled_by ExpPrepare p t = exp_prepare t p.message
handled_by Lead p t = lead_slot t p.message.at
