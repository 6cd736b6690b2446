-- A trace as the run of a copy.
use Rattle.std.specs.Prelude.{◌≡◌, List, [], ◌∷◌, ◌++◌, true, cond, ℕ, zero, suc, ltb, length}
use Rattle.base.specs.Config.{config_fits}
use Rattle.groups.specs.Cursor.{goes_on}
use Rattle.reading.specs.Events.{header_of, event_from, Found}
use Rattle.steps.specs.Calls.{Call}
use Rattle.trace.specs.Trace.{Said, Played}
use Rattle.copies.specs.Copies.{Copy, ends, history_of}

-- ---- the copy of a trace: the configuration of its header, and the calls that its bytes stand for

-- the event at a place, of n rows
abbrev pub event_at : ℕ → List ℕ → ℕ → Found
event_at n s at = event_from n s (record { at = at; refusal = 0 })

-- from a place on, at most so many, up to the first that cannot be read
unfoldable pub calls_from : ℕ → ℕ → List ℕ → ℕ → List Call
calls_from zero n s at = []
calls_from (suc many) n s at =
    cond (ltb at (length s)) (cond (goes_on (event_at n s at).cursor) ((event_at n s at).call ∷ calls_from many n s (event_at n s at).cursor.at) []) []

abbrev pub copy_of : List ℕ → Copy
copy_of s = record { config = (header_of s).config; calls = calls_from (length s) (header_of s).config.n s (header_of s).cursor.at }

-- ---- what is played is its run

-- the slots that the lines of a trace name, in their order
unfoldable pub slots_in : List Said → List ℕ
slots_in [] = []
slots_in (line ∷ lines) = line.slots ++ slots_in lines

-- the lines name the copy's history, and the bars are those of its table
pub record IsRunOf (c : Copy) (p : Played) : Type 0 where
  pub opened : config_fits c.config ≡ true
  pub slots : slots_in p.said ≡ history_of c
  pub table : p.table ≡ ends c
