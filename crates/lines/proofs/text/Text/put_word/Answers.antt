use Rattle.std.proofs.Common.{◌+◌, ◌-◌, length, refl, ◌∙◌, sym, append_assoc, arith}
use Rattle.std.proofs.lemmas.List.Edits.{sets-eq, paste_all}
use Rattle.std.proofs.lemmas.Slice.{put_mid-paste}
use Rattle.lines.proofs.text.Text.put_word.Goals as goal

pub returns : goal.returns
returns c =
    let s = c.args.self.now in
    let w = c.args.word.now in
    let e = c.copy_from_slice.ensures.after in
    let put = put_mid-paste s.at (s.at + length w - s.at) s.bytes.now c.copy_from_slice.new.self w (length w) e (omega arith) refl in
    record {
      same_reference = refl;
      at = refl;
      bytes = put ∙ paste_all s.bytes.now s.at w (length w) refl ∙ sym (rw append_assoc at (sets-eq w s.bytes.now s.at (omega arith)));
    }
