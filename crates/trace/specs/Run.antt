-- What a run of a trace gives back, and the list that its text is written to.
use Rattle.std.specs.Prelude.{List, cond, ℕ, leb, length}
use Rattle.std.proofs.lemmas.List.Edits.{sets}
use Rattle.bounds.specs.Open.{config_of}
use Rattle.table.specs.Table.{empty_table}
use Rattle.table.specs.declared.table.Table.{Table}
use Rattle.trace.specs.Trace.{Trace, refused, played, trace_of, text_of}
use Rattle.trace.specs.declared.run.Ran.{Ran}

-- the room that is asked for, 20 for each byte of the longest trace
abbrev pub text_room : ℕ
text_room = 1310720

-- a table that every entry refuses
abbrev pub no_table : Table
no_table = empty_table (config_of 0 0 0 0)

abbrev pub ran : ℕ → Table → ℕ → Ran
ran number t end = record { number = number; table = t; end = end }

-- 100, or the refusal's number
abbrev pub ran_by : Trace → Ran
ran_by (refused number) = ran number no_table (length (text_of (refused number)))
ran_by (played p) = ran 100 p.table (length (text_of (played p)))

-- room: how many bytes the list has; 0 where that is not enough
unfoldable pub run_of : List ℕ → ℕ → Ran
run_of s room = cond (leb text_room room) (ran_by (trace_of s)) (ran 0 no_table 0)

-- then the list stays as it was
unfoldable pub run_text : List ℕ → List ℕ → List ℕ
run_text s list = cond (leb text_room (length list)) (sets list 0 (text_of (trace_of s))) list
