-- A run as a whole: that it can begin, and what each return says.
use mathlib.Core.Path.{◌≡◌, refl, ap, ◌∙◌}
use mathlib.Core.List.{List}
use mathlib.Core.Bool.{true, false}
use Prim.Native.Nat.{ℕ, ◌-◌, ◌<◌, ◌≤◌}
use native.Mathlib.Omega.{arith}
use borrow.Author.Tests.{le-leb, lt-leb, eq-eqb, ne_eqb}
use lib.ListN.{length}
use lib.Seq.{sets}
use Rattle.base.specs.Refusals.{outside_bounds, too_long}
use Rattle.base.specs.Config.{config_fits}
use Rattle.base.specs.declared.config.Config.{Config}
use Rattle.base.proofs.Lists.{sets_append}
use Rattle.table.specs.Table.{empty_table}
use Rattle.bounds.proofs.OpenLaws.{empty_within}
use Rattle.steps.proofs.KeepLaws.{empty_sized}
use Rattle.steps.proofs.RoomLaws.{unrun_most}
use Rattle.reading.specs.Events.{header_of}
use Rattle.reading.specs.Events.{HeaderRead}
use Rattle.reader.specs.Reader.{rest_from}
use Rattle.lines.specs.Bars.{bars_text}
use Rattle.trace.specs.Trace.{Trace, Played, refused, opened_trace, trace_of, text_of, played_from, said_text}
use Rattle.trace.specs.Turn.{left_of, left_text, Going, Ended}
use Rattle.trace.specs.Run.{text_room, no_table, ran, ran_by, run_of, run_text}
use Rattle.trace.specs.declared.turn.Run.{Run}
use Rattle.trace.specs.declared.run.Ran.{Ran}

-- ---- the events

abbrev pub begun_at : List ℕ → Config → ℕ → Run
begun_at s config at = record { table = empty_table config; at = at; rest = rest_from s at; events = 0; end = 0 }

module _ (s : List ℕ) (config : Config) (at : ℕ) where
  pub can_begin : (room : ℕ) → config_fits config ≡ true → length s ≤ 65536 → text_room ≤ room → Going s room (begun_at s config at)
  can_begin room h l m =
      let sized = empty_sized config in
      let waits = unrun_most (empty_table config) in
      record {
        rows = sized.rows;
        columns = sized.columns;
        fits = empty_within config h;
        rest = refl;
        counted = omega arith;
        bars = omega arith;
        line = λ _. omega arith;
      }

  all_left : left_of s (begun_at s config at) ≡ played_from (length s) s (empty_table config) at
  all_left = let e : length s - 0 ≡ length s = omega arith in rw e

  module _ (room : ℕ) (run : Run) (w : Ended s (begun_at s config at) room run) where
    bars_are : bars_text run.table ≡ bars_text (played_from (length s) s (empty_table config) at).table
    bars_are = ap bars_text (w.table ∙ ap (λ (p : Played). p.table) all_left)

    text_is : left_text s (begun_at s config at) ≡ said_text 1 (played_from (length s) s (empty_table config) at).said
    text_is = ap (λ (p : Played). said_text 1 p.said) all_left

    pub events_list : (list : List ℕ) → sets (sets list 0 (left_text s (begun_at s config at))) run.end (bars_text run.table) ≡ sets list 0 (text_of (opened_trace s config at))
    events_list list =
        rw (w.end, sets_append list 0 (left_text s (begun_at s config at)) (bars_text run.table), bars_are, text_is)

-- ---- what a trace is

module _ (s : List ℕ) where
  pub trace_long : 65536 < length s → trace_of s ≡ refused too_long
  unfolding trace_of
  trace_long l = rw (lt-leb (length s) 65536 l)

  module _ (l : length s ≤ 65536) (h : HeaderRead) (e : h ≡ header_of s) where
    pub trace_unread : 0 < h.cursor.refusal → trace_of s ≡ refused h.cursor.refusal
    unfolding trace_of
    trace_unread m = rw (le-leb (length s) 65536 l, ← e, ne_eqb h.cursor.refusal 0 (λ z. omega arith))

    module _ (z : h.cursor.refusal ≡ 0) where
      pub trace_outside : config_fits h.config ≡ false → trace_of s ≡ refused outside_bounds
      unfolding trace_of
      trace_outside f = rw (le-leb (length s) 65536 l, ← e, eq-eqb h.cursor.refusal 0 z, f)

      pub trace_opened : config_fits h.config ≡ true → trace_of s ≡ opened_trace s h.config h.cursor.at
      unfolding trace_of
      trace_opened f = rw (le-leb (length s) 65536 l, ← e, eq-eqb h.cursor.refusal 0 z, f)

-- ---- the entry

module _ (s list : List ℕ) where
  pub run_short : length list < text_room → (ran 0 no_table 0 ≡ run_of s (length list)) × (list ≡ run_text s list)
  unfolding run_of run_text
  run_short l = (rw (lt-leb text_room (length list) l), rw (lt-leb text_room (length list) l))

  pub run_is : text_room ≤ length list → (t : Trace) → trace_of s ≡ t → (r : Ran) (text : List ℕ) → r ≡ ran_by t → text ≡ sets list 0 (text_of t)
      → (r ≡ run_of s (length list)) × (text ≡ run_text s list)
  unfolding run_of run_text
  run_is l t e r text f g = (rw (le-leb text_room (length list) l, e) f, rw (le-leb text_room (length list) l, e) g)
