-- One event of a run: what is left of the run after it, and that the room for the text is enough.
use mathlib.Core.Path.{◌≡◌, refl, ap, sym}
use mathlib.Core.List.{List, [], ◌++◌}
use mathlib.Core.Bool.{Bool, true, false, cond}
use Prim.Native.Nat.{ℕ, zero, suc, ◌+◌, ◌-◌, ◌<◌, ◌≤◌}
use native.Mathlib.Numerals.{add-one}
use native.Mathlib.Omega.{arith}
use borrow.Author.Tests.{lt-ltb, le-ltb, eq-eqb, ne_eqb}
use lib.ListN.{length, length-append}
use lib.Seq.{sets}
use Rattle.base.proofs.Lists.{sets_append}
use Rattle.table.specs.declared.table.Table.{Table}
use Rattle.steps.specs.Step.{after}
use Rattle.groups.specs.Cursor.{goes_on}
use Rattle.trace.specs.Trace.{Played, ended, first, said_of, refused_with, found_at, played_from, said_text}
use Rattle.trace.specs.Turn.{refusal_text, stopped_run, event_text, went_on, found_by, turn_of, turn_text, left_of, left_text}
use Rattle.trace.specs.declared.turn.Run.{Run}

-- ---- at the end of the trace nothing is left

pub at_end : (many : ℕ) (s : List ℕ) (t : Table) (at : ℕ) → length s ≤ at → played_from many s t at ≡ ended t
unfolding played_from
at_end zero s t at h = refl
at_end (suc many) s t at h = rw (le-ltb at (length s) h)

-- ---- at an event that cannot be read its refusal is said, and no more; else what is said of the event comes first

module _ (many : ℕ) (s : List ℕ) (t : Table) (at : ℕ) (h : at < length s) where
  pub played_stops : ((found_at s t at).cursor.refusal ≡ 0 → ⊥) → played_from (suc many) s t at ≡ first (refused_with (found_at s t at).cursor.refusal) (ended t)
  unfolding played_from
  played_stops n = rw (lt-ltb at (length s) h, ne_eqb (found_at s t at).cursor.refusal 0 n)

  pub played_goes : (found_at s t at).cursor.refusal ≡ 0
      → played_from (suc many) s t at ≡ first (said_of t (found_at s t at).call) (played_from many s (after t (found_at s t at).call) (found_at s t at).cursor.at)
  unfolding played_from
  played_goes z = rw (lt-ltb at (length s) h, eq-eqb (found_at s t at).cursor.refusal 0 z)

-- ---- one event

abbrev goes_or : Bool → List ℕ → Run → Run
goes_or b s run = cond b (went_on s run (found_by s run)) (stopped_run (length s) run (found_by s run).cursor.refusal)

abbrev text_or : Bool → List ℕ → Run → List ℕ
text_or b s run = cond b (event_text run (found_by s run)) (refusal_text run (found_by s run).cursor.refusal)

abbrev left_or : Bool → List ℕ → Run → Played
left_or b s run =
    cond b
    (first (said_of run.table (found_by s run).call) (played_from (length s - (run.events + 1)) s (after run.table (found_by s run).call) (found_by s run).cursor.at))
    (first (refused_with (found_by s run).cursor.refusal) (ended run.table))

module _ (s : List ℕ) (run : Run) (h : run.at < length s) (k : run.events < length s) where
  left_is : left_of s run ≡ left_or (goes_on (found_by s run).cursor) s run
  unfolding played_from
  left_is =
      let g : length s - run.events ≡ suc (length s - (run.events + 1)) = omega arith in
      rw (g, lt-ltb run.at (length s) h)

  text_or_lem : (b : Bool) → said_text (run.events + 1) (left_or b s run).said ≡ text_or b s run ++ left_text s (goes_or b s run)
  unfolding said_text
  text_or_lem true =
      ap (λ (number : ℕ). event_text run (found_by s run) ++ said_text number (left_of s (went_on s run (found_by s run))).said) (sym (add-one (run.events + 1)))
  text_or_lem false = rw (at_end (length s - (run.events + 1)) s run.table (length s) (omega arith))

  table_or : (b : Bool) → (left_or b s run).table ≡ (left_of s (goes_or b s run)).table
  table_or true = refl
  table_or false = rw (at_end (length s - (run.events + 1)) s run.table (length s) (omega arith))

  -- the text that is left is that of the event and that of what is left after it
  pub text_turn : left_text s run ≡ turn_text s run ++ left_text s (turn_of s run)
  unfolding turn_text turn_of
  text_turn = rw left_is (text_or_lem (goes_on (found_by s run).cursor))

  pub table_turn : (left_of s run).table ≡ (left_of s (turn_of s run)).table
  unfolding turn_of
  table_turn = rw left_is (table_or (goes_on (found_by s run).cursor))

end_or : (b : Bool) (s : List ℕ) (run : Run) → (goes_or b s run).end ≡ run.end + length (text_or b s run)
end_or true s run = refl
end_or false s run = refl

pub end_turn : (s : List ℕ) (run : Run) → (turn_of s run).end ≡ run.end + length (turn_text s run)
unfolding turn_of turn_text
end_turn s run = end_or (goes_on (found_by s run).cursor) s run

-- ---- the list: what is left over what is written

module _ (s : List ℕ) (run : Run) (h : run.at < length s) (k : run.events < length s) where
  pub list_turn : (list : List ℕ) → sets (sets list run.end (turn_text s run)) (turn_of s run).end (left_text s (turn_of s run)) ≡ sets list run.end (left_text s run)
  list_turn list =
      rw (end_turn s run, sets_append list run.end (turn_text s run) (left_text s (turn_of s run)), ← text_turn s run h k)

  pub length_turn : (turn_of s run).end + length (left_text s (turn_of s run)) ≡ run.end + length (left_text s run)
  length_turn = omega (arith, end_turn s run, ap length (text_turn s run h k), length-append (turn_text s run) (left_text s (turn_of s run)))

-- ---- the end

module _ (s : List ℕ) (run : Run) (h : length s ≤ run.at) where
  pub table_ended : (left_of s run).table ≡ run.table
  table_ended = ap (λ (p : Played). p.table) (at_end (length s - run.events) s run.table run.at h)

  pub text_ended : left_text s run ≡ []
  unfolding said_text
  text_ended = rw (at_end (length s - run.events) s run.table run.at h)
