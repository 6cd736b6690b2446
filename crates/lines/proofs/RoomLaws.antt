-- How much room the lines take.
use mathlib.Core.Path.{◌≡◌}
use mathlib.Core.List.{List, [], ◌∷◌, flat_map}
use mathlib.Core.Bool.{true}
use Prim.Native.Nat.{ℕ, suc, ◌+◌, ◌*◌, ◌<◌, ◌≤◌, ◌/◌, ◌%◌}
use native.Mathlib.Omega.{arith}
use lib.ListN.{length, get_or, length-append}
use Rattle.base.specs.Below.{list_below}
use Rattle.base.specs.declared.answer.Answer.{Answer}
use Rattle.base.specs.declared.answer.Answer.TheVariants.{Done, Ignored, NotYet, Already, Refused}
use Rattle.base.proofs.Loops.{length_below, below_at_lem}
use Rattle.table.specs.Table.{bar_of}
use Rattle.table.specs.declared.table.Table.{Table}
use Rattle.bounds.specs.Bounds.{table_fits}
use Rattle.bounds.proofs.BoundLaws.{table_fits_each, len_at_most}
use Rattle.lines.specs.Decimal.{digits_of, pair_text}
use Rattle.lines.specs.Words.{answer_text}
use Rattle.lines.specs.Line.{slot_text, slots_text, line_text}
use Rattle.lines.specs.Bars.{run_bar, bar_text, rows_text, bars_text}
use Rattle.lines.proofs.DecimalLaws.{digits_at_most, digits_twenty}
use Rattle.lines.proofs.BarLaws.{run_bar_at_most}

pair_length : (a mark b : ℕ) → length (pair_text a mark b) ≡ 2 + length (digits_of a) + length (digits_of b)
unfolding pair_text
pair_length a mark b = simp length-append (omega arith)

-- what each element gives, where each gives no more than w
each_room : (f : ℕ → List ℕ) (w : ℕ) (l : List ℕ) → ((i : ℕ) → i < length l → length (f (get_or l i 0)) ≤ w) → length (flat_map f l) ≤ w * length l
unfolding flat_map
each_room f w [] h = omega arith
each_room f w (x ∷ l) h =
    let one = h 0 (omega arith) in
    let others = each_room f w l (λ i k. h (suc i) (omega arith)) in
    rw length-append (omega arith)

-- ---- the line of an event

slot_room : (e : ℕ) → e < 256 → length (slot_text e) ≤ 5
slot_room e h =
    omega (arith, pair_length (e / 32) 46 (e % 32), digits_at_most 0 (e / 32) (omega arith), digits_at_most 1 (e % 32) (omega arith))

answer_room : (answer : Answer) → length (answer_text answer) ≤ 28
answer_room Done = omega arith
answer_room Ignored = omega arith
answer_room NotYet = omega arith
answer_room Already = omega arith
answer_room (Refused number) = omega (arith, digits_twenty number)

-- entries are bytes
pub line_room : (number : ℕ) (answer : Answer) (ran : List ℕ) → ((i : ℕ) → i < length ran → get_or ran i 0 < 256)
    → length (line_text number answer ran) ≤ 50 + 5 * length ran
unfolding line_text slots_text
line_room number answer ran b =
    let n = digits_twenty number in
    let a = answer_room answer in
    let s = each_room slot_text 5 ran (λ i l. slot_room (get_or ran i 0) (b i l)) in
    simp length-append (omega arith)

-- ---- the line of the bars

module _ (t : Table) (h : table_fits t ≡ true) where
  bar_room : (row : ℕ) → row < 7 → length (bar_text t row) ≤ 6
  unfolding bar_text
  bar_room row l =
      let low = len_at_most t h row l in
      let bar = (table_fits_each t h).bars_fit row l in
      let run = run_bar_at_most t row in
      omega (arith, pair_length (bar_of t row) 47 (run_bar t row), digits_at_most 1 (bar_of t row) (omega arith), digits_at_most 1 (run_bar t row) (omega arith))

  pub bars_room : length (bars_text t) ≤ 64
  unfolding bars_text rows_text
  bars_room =
      let n = t.config.n in
      let seven = (table_fits_each t h).config_fits.seven in
      let size = length_below n (λ (row : ℕ). row) in
      let rows = each_room (bar_text t) 6 (list_below n (λ row. row))
      (λ i l. let k : i < n = omega (arith, size) in rw (below_at_lem n (λ row. row) i 0 k) (bar_room i (omega arith))) in
      simp length-append (omega (arith, rows, size, seven))
