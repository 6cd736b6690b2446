-- An attempt: Already, NotYet, or Done with the slots that become Executed.
use Rattle.std.specs.Prelude.{List, [], Bool, cond, not, ◌&&◌, ℕ, zero, suc, leb, get_or, length}
use Rattle.std.proofs.lemmas.List.Edits.{sets}
use Rattle.base.specs.Below.{all_below, count_below, list_below}
use Rattle.base.specs.Marks.{marked}
use Rattle.base.specs.declared.answer.Answer.{Answer}
use Rattle.base.specs.declared.answer.Answer.TheVariants.{Done, Ignored, NotYet, Already, Refused}
use Rattle.slots.specs.Slot.{is_executed, executed}
use Rattle.slots.specs.declared.slot.Slot.{Slot}
use Rattle.table.specs.Place.{index_of}
use Rattle.table.specs.Table.{bar_of, slot_no, with_slots}
use Rattle.table.specs.declared.place.Place.{Place}
use Rattle.table.specs.declared.table.Table.{Table}
use Rattle.leads.specs.Frontier.{is_in, frontier}
use Rattle.order.specs.Order.{order_of}
use Rattle.attempts.specs.Reads.{has_run, deps_of, seqs_of}
use Rattle.attempts.specs.Refusal.{attempt_refusal}
use Rattle.attempts.specs.declared.attempt.Attempted.{Attempted}

-- ---- what is reached

-- what the slot leads to, as many slots of each row
unfoldable pub reached : Table → Place → List ℕ
reached t at = frontier (deps_of t) (index_of at)

-- all of it is below its row's commit bar
abbrev pub row_below_bar : Table → List ℕ → ℕ → Bool
row_below_bar t F row = leb (get_or F row 0) (bar_of t row)

unfoldable pub all_below_bars : Table → List ℕ → Bool
all_below_bars t F = all_below 7 (row_below_bar t F)

-- the slots of it that have not run; below the bars all of them are in the table
abbrev pub is_waiting : Table → List ℕ → ℕ → Bool
is_waiting t F i = is_in F i && not (is_executed (slot_no t i))

unfoldable pub waiting_in : Table → List ℕ → List Bool
waiting_in t F = list_below 224 (is_waiting t F)

-- ---- what runs

-- the marked slots become Executed
abbrev pub ran_no : Table → List Bool → ℕ → Slot
ran_no t marks i = cond (marked marks i) (executed (slot_no t i)) (slot_no t i)

unfoldable pub ran_with : Table → List Bool → Table
ran_with t marks = with_slots t (list_below 224 (ran_no t marks))

-- ---- the attempt

abbrev pub answer_of : Table → Place → Answer
answer_of t at = cond (has_run t (index_of at)) Already (cond (all_below_bars t (reached t at)) Done NotYet)

-- what is reached and has not run
unfoldable pub to_run : Table → Place → List Bool
to_run t at = waiting_in t (reached t at)

-- of an answer Done the first, of the others the second
abbrev pub when_done : {A : Type 0} → Answer → A → A → A
when_done Done a b = a
when_done Ignored a b = b
when_done NotYet a b = b
when_done Already a b = b
when_done (Refused number) a b = b

-- what is written in the order list
abbrev pub written : Answer → Table → Place → List ℕ
written answer t at = when_done answer (order_of (deps_of t) (seqs_of t) (to_run t at)) []

abbrev pub table_after : Answer → Table → Place → Table
table_after answer t at = when_done answer (ran_with t (to_run t at)) t

abbrev pub tried : Answer → Table → Place → Attempted
tried answer t at = record { answer = answer; table = table_after answer t at; ran = length (written answer t at) }

-- nothing ran
abbrev pub nothing_ran : Answer → Table → Attempted
nothing_ran answer t = record { answer = answer; table = t; ran = 0 }

-- on a table and a slot that are not refused
unfoldable pub attempt_on : Table → Place → Attempted
attempt_on t at = tried (answer_of t at) t at

-- the order list after it, where it writes on from a place
unfoldable pub order_on : Table → Place → ℕ → List ℕ → List ℕ
order_on t at from list = sets list from (written (answer_of t at) t at)

-- how many slots have not run: no attempt writes more
unfoldable pub unrun : Table → ℕ
unrun t = count_below 224 (λ i. not (has_run t i))

-- ---- the entry: a refusal's number, of which 0 is none, leaves table and list as they were

abbrev pub attempt_or : ℕ → Table → Place → Attempted
attempt_or zero t at = attempt_on t at
attempt_or (suc k) t at = tried (Refused (suc k)) t at

abbrev pub order_or : ℕ → Table → Place → List ℕ → List ℕ
order_or zero t at list = order_on t at 0 list
order_or (suc k) t at list = list

unfoldable pub attempt_of : Table → Place → ℕ → Attempted
attempt_of t at entries = attempt_or (attempt_refusal t at entries) t at

unfoldable pub attempt_order : Table → Place → List ℕ → List ℕ
attempt_order t at list = order_or (attempt_refusal t at (length list)) t at list
