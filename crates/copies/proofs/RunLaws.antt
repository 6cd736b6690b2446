-- A run from an empty table is a list of moves.
use mathlib.Core.Path.{◌≡◌, refl}
use mathlib.Core.List.{List, [], ◌∷◌}
use mathlib.Core.Bool.{true}
use Prim.Native.Nat.{ℕ, zero, suc, ◌%◌, ◌/◌}
use native.Mathlib.Omega.{arith}
use borrow.Author.Tests.{ltb-true}
use lib.ListN.{take}
use Rattle.base.specs.declared.config.Config.{Config}
use Rattle.base.proofs.Loops.{both_true}
use Rattle.bounds.proofs.OpenLaws.{open_empty}
use Rattle.table.specs.Table.{empty_table, len_of}
use Rattle.table.specs.declared.table.Table.{Table}
use Rattle.steps.specs.Calls.{Call}
use Rattle.steps.specs.Step.{after}
use Rattle.steps.proofs.KeepLaws.{Sized, empty_sized, step_sized}
use Rattle.copies.specs.Copies.{keeps_committed, table_after_all, history, keeps_all, Copy, begun, ends, history_of, is_steady, Ran}
use Rattle.copies.proofs.Moves.{ran_held, Moves, still, moves_join, Reached, reached_empty, reached_moves}
use Rattle.copies.proofs.SettledLaws.{both_are}
use Rattle.copies.proofs.EventMoves.{step_moves}

pub run_sized : (t : Table) (calls : List Call) → Sized t → Sized (table_after_all t calls)
unfolding table_after_all
run_sized t [] s = s
run_sized t (call ∷ calls) s = run_sized (after t call) calls (step_sized t call s)

run_moves : (t : Table) (calls : List Call) → Sized t → keeps_all t calls ≡ true → Moves t (history t calls) (table_after_all t calls)
unfolding table_after_all history keeps_all
run_moves t [] s k = still
run_moves t (call ∷ calls) s k =
    let w = both_true _ _ k in
    moves_join (step_moves t call s w.0) (run_moves (after t call) calls (step_sized t call s) w.1)

-- the first events of a run keep what is committed if all do
first_keep : (k : ℕ) (t : Table) (calls : List Call) → keeps_all t calls ≡ true → keeps_all t (take k calls) ≡ true
unfolding keeps_all
first_keep zero t calls h = refl
first_keep (suc k) t [] h = refl
first_keep (suc k) t (call ∷ calls) h =
    let w = both_true (keeps_committed t (after t call)) (keeps_all (after t call) calls) h in
    both_are w.0 (first_keep k (after t call) calls w.1)

-- ---- from an empty table

-- no slot is in it
empty_unrun : (c : Config) (i : ℕ) → Ran (empty_table c) i → ⊥
empty_unrun c i r = omega (arith, ltb-true (i % 32) (len_of (empty_table c) (i / 32)) (ran_held (empty_table c) i r).0, (open_empty c).no_len (i / 32))

-- the first k events alone
abbrev pub first_of : ℕ → Copy → Copy
first_of k c = record { config = c.config; calls = take k c.calls }

pub copy_sized : (c : Copy) → Sized (ends c)
copy_sized c = run_sized (begun c) c.calls (empty_sized c.config)

-- a copy whose run keeps what is committed is reached by moves
pub copy_reached : (c : Copy) → is_steady c ≡ true → Reached (history_of c) (ends c)
copy_reached c s =
    reached_moves (reached_empty (begun c) (empty_unrun c.config))
    (run_moves (begun c) c.calls (empty_sized c.config) s)

-- and so it is after each of its events
pub first_steady : (k : ℕ) (c : Copy) → is_steady c ≡ true → is_steady (first_of k c) ≡ true
first_steady k c s = first_keep k (begun c) c.calls s
