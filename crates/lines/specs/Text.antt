-- A text that is written piece by piece: room for a piece, and what it is once the piece is written.
use Rattle.std.specs.Prelude.{◌≡◌, List, ℕ, ◌+◌, ◌≤◌, length}
use Rattle.std.proofs.lemmas.List.Edits.{sets}
use Rattle.lines.specs.declared.text.Text.{Text}

abbrev pub HasRoom : Text → List ℕ → Type 0
HasRoom t piece = t.at + length piece ≤ length t.bytes.now

-- in the bytes that it had
pub record Wrote (old new : Text) (piece : List ℕ) : Type 0 where
  pub same_reference : new.bytes.ghost_name ≡ old.bytes.ghost_name
  pub at : new.at ≡ old.at + length piece
  pub bytes : new.bytes.now ≡ sets old.bytes.now old.at piece
