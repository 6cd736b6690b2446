-- Two copies: what is asked of their runs, and what is claimed. Slot i is the one of row i / 32 and column i % 32.
-- All that is asked is a test, so a program could make it.
use Rattle.std.specs.Prelude.{◌≡◌, List, [], ◌∷◌, ◌++◌, ◌⊎◌, ◌↔◌, Bool, true, false, not, ◌&&◌, ◌||◌, ℕ, ◌/◌, ◌%◌, ◌<◌, leb, eqb, get_or, take}
use Rattle.base.specs.Below.{all_below}
use Rattle.base.specs.Status.{rank_of}
use Rattle.base.specs.declared.answer.Answer.TheVariants.{Refused}
use Rattle.base.specs.declared.log_status.LogStatus.TheVariants.{Committed}
use Rattle.base.specs.declared.config.Config.{Config}
use Rattle.votes.specs.Contents.{contents_of, same_contents}
use Rattle.slots.specs.declared.slot.Slot.{Slot}
use Rattle.table.specs.Place.{index_of}
use Rattle.table.specs.Table.{empty_table, bar_of, slot_no}
use Rattle.table.specs.declared.place.Place.{Place}
use Rattle.table.specs.declared.table.Table.{Table}
use Rattle.leads.specs.Depends.{Leads}
use Rattle.order.specs.Listed.{Has, Once, Precedes}
use Rattle.order.specs.Paper.{Mates}
use Rattle.attempts.specs.Reads.{is_held_no, has_run, deps_of, seqs_of}
use Rattle.attempts.specs.Attempt.{answer_of, written, attempt_on}
use Rattle.rising.specs.Bars.{is_committed}
use Rattle.rising.specs.Committed.{attempted_below, risen_table, rises}
use Rattle.steps.specs.Calls.{Call, log, try}
use Rattle.steps.specs.Step.{answer_to, after, slots_run}

-- ---- a table

-- slot i is in the table and committed; one that has run counts as committed
abbrev pub holds_committed : Table → ℕ → Bool
holds_committed t i = is_held_no t i && is_committed (slot_no t i)

-- equal contents: sequence, dependencies, batch
abbrev pub same_slot : Slot → Slot → Bool
same_slot s r = same_contents (contents_of s.seq s.deps s.batch) (contents_of r.seq r.deps r.batch)

-- slot i, if t has it committed, has the same contents in u, and no lower status
abbrev pub keeps_slot : Table → Table → ℕ → Bool
keeps_slot t u i =
    not (holds_committed t i)
    || (is_held_no u i && (leb (rank_of (slot_no t i).status) (rank_of (slot_no u i).status) && same_slot (slot_no t i) (slot_no u i)))

-- a call from t to u alters no committed slot's contents and lowers no such slot's status
unfoldable pub keeps_committed : Table → Table → Bool
keeps_committed t u = all_below 224 (keeps_slot t u)

-- ---- a run: events of a trace, one after the other

unfoldable pub table_after_all : Table → List Call → Table
table_after_all t [] = t
table_after_all t (call ∷ calls) = table_after_all (after t call) calls

-- the history: the slots run, as each event writes them to the order list
unfoldable pub history : Table → List Call → List ℕ
history t [] = []
history t (call ∷ calls) = slots_run t call ++ history (after t call) calls

-- no call of the run alters a committed slot's contents or lowers its status
unfoldable pub keeps_all : Table → List Call → Bool
keeps_all t [] = true
keeps_all t (call ∷ calls) = keeps_committed t (after t call) && keeps_all (after t call) calls

-- ---- a copy: begun empty, then any events in any order

pub record Copy : Type 0 where
  pub config : Config
  pub calls : List Call

abbrev pub begun : Copy → Table
begun c = empty_table c.config

-- the table after its first k events
abbrev pub table_at : Copy → ℕ → Table
table_at c k = table_after_all (begun c) (take k c.calls)

-- and after all
abbrev pub ends : Copy → Table
ends c = table_after_all (begun c) c.calls

abbrev pub history_of : Copy → List ℕ
history_of c = history (begun c) c.calls

-- ---- what is asked of two copies

-- no call of its run alters a committed slot's contents or lowers its status
abbrev pub is_steady : Copy → Bool
is_steady c = keeps_all (begun c) c.calls

abbrev pub agrees_on : Table → Table → ℕ → Bool
agrees_on t u i = not (holds_committed t i && holds_committed u i) || same_slot (slot_no t i) (slot_no u i)

-- they agree on contents wherever both hold a slot committed
unfoldable pub agree : Table → Table → Bool
agree t u = all_below 224 (agrees_on t u)

-- equal population, which the proof does not need; own number and quorums may differ
unfoldable pub comparable : Copy → Copy → Bool
comparable a b = eqb a.config.n b.config.n && (is_steady a && (is_steady b && agree (ends a) (ends b)))

-- ---- what is claimed

-- slot i has run
abbrev pub Ran : Table → ℕ → Type 0
Ran t i = has_run t i ≡ true

-- slot i leads to slot j by dependencies and earlier neighbours
abbrev pub LeadsTo : Table → ℕ → ℕ → Type 0
LeadsTo t i j = Leads (deps_of t) i j

-- of two slots of one component: by sequence, then row and column
abbrev pub Sooner : List ℕ → ℕ → ℕ → Type 0
Sooner seq i j = (get_or seq i 0 < get_or seq j 0) ⊎ ((get_or seq i 0 ≡ get_or seq j 0) × (i < j))

-- slots in a history stand by the rule, whatever order their events came in
pub record Ordered (t : Table) (h : List ℕ) : Type 0 where
  -- of two slots of one component the sooner stands first
  pub inner : (i j : ℕ) → Has i h → Has j h → Mates (deps_of t) i j → Sooner (seqs_of t) i j → Precedes i j h
  -- a slot stands after those that it leads to
  pub outer : (i j : ℕ) → Has i h → Has j h → LeadsTo t i j → (LeadsTo t j i → ⊥) → Precedes j i h
  -- a component stands together
  pub together : (i j k : ℕ) → Mates (deps_of t) i k → Precedes i j h → Precedes j k h → Mates (deps_of t) i j

-- the order of two slots is the same in two histories
abbrev pub SameOrder : ℕ → ℕ → List ℕ → List ℕ → Type 0
SameOrder i j g h = (Precedes i j g ↔ Precedes i j h) × (Precedes j i g ↔ Precedes j i h)

-- the slot at the place, and all it leads to, if it has not run
abbrev pub Awaits : Table → Place → ℕ → Type 0
Awaits t at i = LeadsTo t (index_of at) i × (has_run t i ≡ false)

-- an attempt, which writes w and leaves u, runs all of these, each once, and no other
pub record RunsAll (t : Table) (at : Place) (w : List ℕ) (u : Table) : Type 0 where
  pub wrote : (i : ℕ) → Has i w ↔ Awaits t at i
  pub once : Once w
  pub then_run : (i : ℕ) → Ran u i ↔ (Ran t i ⊎ Awaits t at i)

-- or nothing: no slot is written, and the table stays
abbrev pub RunsNothing : Table → List ℕ → Table → Type 0
RunsNothing t w u = (w ≡ []) × (u ≡ t)

-- one of these is not below its row's commit bar
abbrev pub Blocked : Table → Place → Type 0
Blocked t at = (i : ℕ) × Awaits t at i × (i % 32 < bar_of t (i / 32) → ⊥)

pub record AllOrNothing (t : Table) (at : Place) (w : List ℕ) (u : Table) : Type 0 where
  pub either : RunsAll t at w u ⊎ RunsNothing t w u
  pub nothing_exactly : RunsNothing t w u ↔ Blocked t at

abbrev pub NotRefused : Table → Call → Type 0
NotRefused t call = (number : ℕ) → answer_to t call ≡ Refused number → ⊥

abbrev pub NotRun : Table → Place → Type 0
NotRun t at = has_run t (index_of at) ≡ false

-- attempts one after the other, each on the table that the one before leaves
abbrev pub EachAllOrNothing : Table → List Place → Type 0
EachAllOrNothing t [] = Unit
EachAllOrNothing t (at ∷ rest) =
    (NotRun t at → AllOrNothing t at (written (answer_of t at) t at) (attempt_on t at).table) × EachAllOrNothing (attempt_on t at).table rest

-- of each copy
pub record Claimed (c : Copy) : Type 0 where
  -- no slot runs twice
  pub once : Once (history_of c)
  -- the history is exactly the slots that have run
  pub exactly : (i : ℕ) → Has i (history_of c) ↔ Ran (ends c) i
  -- it is in the order of the rule
  pub ordered : Ordered (ends c) (history_of c)
  -- after any of its events, all that a slot which has run leads to has run too
  pub whole : (k i j : ℕ) → Ran (table_at c k) i → LeadsTo (table_at c k) i j → Ran (table_at c k) j
  -- an attempt not refused, on a slot not yet run, after any of its events
  pub attempts : (k : ℕ) (at : Place) → NotRefused (table_at c k) (try at) → NotRun (table_at c k) at
      → AllOrNothing (table_at c k) at (slots_run (table_at c k) (try at)) (after (table_at c k) (try at))
  -- and each attempt that a slot logged Committed sets going, where its row's bar rises
  pub logged : (k : ℕ) (at : Place) → NotRefused (table_at c k) (log Committed at) → rises (table_at c k) at ≡ true
      → EachAllOrNothing (risen_table (table_at c k) at.row) (attempted_below (table_at c k) at.row)

-- of the two
pub record Claims (a b : Copy) : Type 0 where
  -- where one slot leads to another and both copies have run both, the order is the same
  pub order : (i j : ℕ) → LeadsTo (ends a) i j ⊎ LeadsTo (ends b) i j → Ran (ends a) i → Ran (ends a) j → Ran (ends b) i → Ran (ends b) j
      → SameOrder i j (history_of a) (history_of b)
  pub first : Claimed a
  pub second : Claimed b
