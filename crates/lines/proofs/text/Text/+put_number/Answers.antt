-- One digit, or the higher ones and the last.
use mathlib.Core.Path.{◌≡◌}
use Prim.Native.Nat.{◌/◌, ◌%◌}
use native.Mathlib.Omega.{arith}
use Rattle.lines.specs.Decimal.{digits_of}
use Rattle.lines.proofs.DecimalLaws.{digits_single, digits_last}
use Rattle.lines.proofs.Writing.{first_fits, left_fits, then}
use Rattle.lines.proofs.text.Text.+put_number.Goals as goal
use Rattle.lines.proofs.text.Text.+put_number.Goals.{then-number-gt9, else-number-gt9}

pub put_number-requires : goal.put_number-requires
put_number-requires t c =
    let n = c.args.number in
    (omega arith, first_fits c.args.self.now (digits_of (n / 10)) _ (rw (digits_last n (omega arith) (omega arith)) at c.requires))

pub put_byte-requires : goal.put_byte-requires
put_byte-requires t c =
    let n = c.args.number in
    elim c.if-number-gt9.branch [
      | then-number-gt9 w ↦ rw w.self-is (left_fits w.put_number.ensures _ (rw (digits_last n (omega arith) (omega arith)) at c.requires))
      | else-number-gt9 w ↦ rw w.self-is (rw (digits_single n (omega arith)) at c.requires)
    ]

pub returns : goal.returns
returns t c =
    let n = c.args.number in
    elim c.if-number-gt9.branch [
      | then-number-gt9 w ↦ rw (digits_last n (omega arith) (omega arith)) (then w.put_number.ensures (rw w.self-is at c.put_byte.ensures))
      | else-number-gt9 w ↦
          let e : n % 10 ≡ n = omega arith in
          rw (digits_single n (omega arith)) (rw (w.self-is, e) at c.put_byte.ensures)
    ]
