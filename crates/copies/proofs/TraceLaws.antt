-- A trace that is not refused as a whole is the run of its copy, so what is shown of copies is shown of traces.
use mathlib.Core.Path.{◌≡◌, refl, ap, subst}
use mathlib.Core.List.{List, [], ◌∷◌, ◌++◌}
use mathlib.Core.Bool.{Bool, true, false, cond}
use Prim.Native.Nat.{ℕ, zero, suc}
use lib.Dec.{ltb, leb}
use lib.ListN.{length}
use Rattle.base.specs.Config.{config_fits}
use Rattle.base.specs.declared.config.Config.{Config}
use Rattle.table.specs.Table.{empty_table}
use Rattle.table.specs.declared.table.Table.{Table}
use Rattle.groups.specs.Cursor.{goes_on}
use Rattle.reading.specs.Events.{header_of, Found}
use Rattle.steps.specs.Calls.{Call}
use Rattle.steps.specs.Step.{after, slots_run}
use Rattle.steps.proofs.KeepLaws.{step_config}
use Rattle.trace.specs.Trace.{Played, ended, first, said_of, refused_with, found_at, played_from, Trace, refused, played, from_config, from_header, trace_of}
use Rattle.copies.specs.Copies.{table_after_all, history}
use Rattle.copies.specs.Traces.{calls_from, copy_of, slots_in, IsRunOf}

-- ---- from a table on

-- what was played is what the calls come to
record Plays (t : Table) (calls : List Call) (p : Played) : Type 0 where
  slots : slots_in p.said ≡ history t calls
  table : p.table ≡ table_after_all t calls

no_calls : (t : Table) → Plays t [] (ended t)
unfolding slots_in history table_after_all
no_calls t = record { slots = refl; table = refl }

-- an event that cannot be read is no call
unread : (t : Table) (number : ℕ) → Plays t [] (first (refused_with number) (ended t))
unfolding slots_in history table_after_all
unread t number = record { slots = refl; table = refl }

one_more : (t : Table) (call : Call) (calls : List Call) (p : Played) → Plays (after t call) calls p → Plays t (call ∷ calls) (first (said_of t call) p)
unfolding slots_in history table_after_all
one_more t call calls p c = record { slots = ap (λ (l : List ℕ). slots_run t call ++ l) c.slots; table = c.table }

-- past the end, one that cannot be read, or an event
turn_plays : (t : Table) (f : Found) (calls : List Call) (p : Played) (more read : Bool) → Plays (after t f.call) calls p
    → Plays t (cond more (cond read (f.call ∷ calls) []) [])
    (cond more (cond read (first (said_of t f.call) p) (first (refused_with f.cursor.refusal) (ended t))) (ended t))
turn_plays t f calls p true true c = one_more t f.call calls p c
turn_plays t f calls p true false c = unread t f.cursor.refusal
turn_plays t f calls p false read c = no_calls t

played_plays : (many : ℕ) (s : List ℕ) (t : Table) (at : ℕ) → Plays t (calls_from many t.config.n s at) (played_from many s t at)
unfolding played_from calls_from
played_plays zero s t at = no_calls t
played_plays (suc many) s t at =
    let f = found_at s t at in
    let u = after t f.call in
    let next = f.cursor.at in
    turn_plays t f (calls_from many t.config.n s next) (played_from many s u next) (ltb at (length s)) (goes_on f.cursor)
    (subst (λ (c : Config). Plays u (calls_from many c.n s next) (played_from many s u next)) (step_config t f.call) (played_plays many s u next))

-- ---- a whole trace

module _ (s : List ℕ) where
  -- what is claimed of it, refused or played
  abbrev IsRun : Trace → Type 0
  IsRun (refused number) = Unit
  IsRun (played p) = IsRunOf (copy_of s) p

  opened_run : config_fits (header_of s).config ≡ true → IsRunOf (copy_of s) (played_from (length s) s (empty_table (header_of s).config) (header_of s).cursor.at)
  unfolding empty_table
  opened_run f =
      let c = played_plays (length s) s (empty_table (header_of s).config) (header_of s).cursor.at in
      record { opened = f; slots = c.slots; table = c.table }

  config_run : IsRun (from_config s (header_of s))
  config_run = go (config_fits (header_of s).config) refl
    where
      go : (b : Bool) → config_fits (header_of s).config ≡ b → IsRun (cond b (played (played_from (length s) s (empty_table (header_of s).config) (header_of s).cursor.at)) (refused 1))
      go true f = opened_run f
      go false f = tt

  header_run : IsRun (from_header s (header_of s))
  header_run = go (goes_on (header_of s).cursor)
    where
      go : (b : Bool) → IsRun (cond b (from_config s (header_of s)) (refused (header_of s).cursor.refusal))
      go true = config_run
      go false = tt

  trace_run : IsRun (trace_of s)
  unfolding trace_of
  trace_run = go (leb (length s) 65536)
    where
      go : (b : Bool) → IsRun (cond b (from_header s (header_of s)) (refused 11))
      go true = header_run
      go false = tt

  pub trace_copy : (p : Played) → trace_of s ≡ played p → IsRunOf (copy_of s) p
  trace_copy p e = subst IsRun e trace_run
