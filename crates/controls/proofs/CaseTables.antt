-- The tables of the examples, and what their slots lead to.
use mathlib.Core.Path.{refl}
use mathlib.Core.List.{List, [], ◌∷◌, ◌++◌}
use Prim.Native.Nat.{ℕ, ◌-◌}
use lib.ListN.{length, replicate, set}
use Rattle.base.specs.Below.{greatest_below, list_below}
use Rattle.base.specs.declared.config.Config.{Config}
use Rattle.base.specs.declared.status.Status.{Status}
use Rattle.deps.specs.Sets.{set_of}
use Rattle.deps.specs.Batches.{batch_of}
use Rattle.deps.specs.declared.batches.Request.{Request}
use Rattle.keys.specs.Columns.{empty_keys, refreshed_by}
use Rattle.slots.specs.Slot.{null_slot, stored_with}
use Rattle.slots.specs.declared.slot.Slot.{Slot}
use Rattle.table.specs.Table.{table_of}
use Rattle.table.specs.declared.table.Table.{Table}
use Rattle.leads.specs.Frontier as Frontier
use Rattle.leads.specs.Frontier.{raised, round}
use Rattle.controls.specs.Examples.{edit, again}
use Rattle.controls.proofs.RestLaws.{Rests, frontier_rest, Known, none, more}

-- ---- tables

abbrev pub seven : List ℕ → List ℕ
seven l = l ++ replicate (7 - length l) 0

-- one request at ballot 1
abbrev pub held : Status → ℕ → List ℕ → Request → Slot
held status seq deps request = stored_with null_slot 1 status seq (set_of (seven deps)) (batch_of (request ∷ []))

-- 0.0 and 1.0, a null slot for none; how many slots each row has, and its bar; the one put is at 0.0
abbrev pub table_with : Config → Slot → Slot → List ℕ → List ℕ → Table
table_with config s r lens bars =
    table_of config (set (set (replicate 224 null_slot) 0 s) 32 r) (seven lens) (seven bars) (refreshed_by empty_keys 0 0 (batch_of (edit ∷ [])))

-- ---- frontiers

-- the sets of all slots, by what 0.0 has in row 1 and 1.0 in row 0
unfoldable pub sets_with : ℕ → ℕ → List ℕ
sets_with a b = set (set (replicate 1568 0) 1 a) 224 b

abbrev pub single : List ℕ
single = seven (1 ∷ [])

abbrev pub both : List ℕ
both = seven (1 ∷ 1 ∷ [])

pub record Frontiers : Type 0 where
  pub alone : Rests (sets_with 0 0) 0 single
  pub noted : Rests (sets_with 1 0) 0 both
  pub early : Rests (sets_with 0 1) 32 both
  pub first : Rests (sets_with 1 1) 0 both
  pub second : Rests (sets_with 1 1) 32 both

pub frontiers : Frontiers
unfolding sets_with list_below greatest_below Frontier.first raised round
frontiers =
    record {
      alone = record { once = refl; again = refl };
      noted = record { once = refl; again = refl };
      early = record { once = refl; again = refl };
      first = record { once = refl; again = refl };
      second = record { once = refl; again = refl };
    }

pub alone_known : Known (sets_with 0 0) ((0, single) ∷ [])
alone_known = more (frontier_rest frontiers.alone) none

pub both_known : Known (sets_with 1 1) ((0, both) ∷ (32, both) ∷ [])
both_known = more (frontier_rest frontiers.first) (more (frontier_rest frontiers.second) none)
