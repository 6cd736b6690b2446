-- A table to begin with: empty, and within the bounds exactly when it is not refused.
use mathlib.Core.Path.{◌≡◌, refl}
use mathlib.Core.Bool.{Bool, true, false}
use Prim.Native.Nat.{ℕ, ◌/◌, ◌<◌}
use native.Mathlib.Omega.{arith}
use lib.ListN.{get_or-replicate}
use Rattle.base.specs.Config.{config_fits}
use Rattle.base.specs.Refusals.{outside_bounds}
use Rattle.base.specs.declared.config.Config.{Config}
use Rattle.base.specs.declared.answer.Answer.TheVariants.{Done, Refused}
use Rattle.base.proofs.Lists.{replicate_at}
use Rattle.base.proofs.ConfigLaws.{config_fits_each}
use Rattle.deps.specs.Sets.{empty_set}
use Rattle.keys.specs.Columns.{columns_of}
use Rattle.keys.proofs.KeyLaws.{empty_columns, empty_keys_fit}
use Rattle.slots.specs.Slot.{null_slot, blank_slot}
use Rattle.table.specs.Table.{empty_table, len_of, bar_of, holds, slot_no}
use Rattle.bounds.specs.Bounds.{table_fits}
use Rattle.bounds.specs.Open.{config_of, open_of}
use Rattle.table.specs.declared.place.Place.{Place}
use Rattle.table.specs.declared.table.Table.{Table}
use Rattle.table.proofs.SlotReads.{holds_not}
use Rattle.bounds.proofs.BoundLaws.{each_table_fits}

-- ---- what an empty table has

pub record Empty (t : Table) : Type 0 where
  pub no_len : (row : ℕ) → len_of t row ≡ 0
  pub no_bar : (row : ℕ) → bar_of t row ≡ 0
  pub no_slot : (at : Place) → holds t at ≡ false
  pub all_null : (i : ℕ) → i < 224 → slot_no t i ≡ null_slot
  pub no_key : (key : ℕ) → columns_of t.keys key ≡ empty_set

pub open_empty : (c : Config) → Empty (empty_table c)
unfolding empty_table
open_empty c =
    record {
      no_len = λ row. replicate_at 7 row 0;
      no_bar = λ row. replicate_at 7 row 0;
      no_slot = λ at. holds_not (empty_table c) at (omega (arith, replicate_at {A = ℕ} 7 at.row 0));
      all_null = λ i l. get_or-replicate 224 i null_slot blank_slot l;
      no_key = empty_columns;
    }

pub empty_within : (c : Config) → config_fits c ≡ true → table_fits (empty_table c) ≡ true
unfolding empty_table
empty_within c h =
    let e = open_empty c in
    each_table_fits (empty_table c)
    (record {
      config_fits = config_fits_each c h;
      lens_fit = λ row l. omega (arith, e.no_len row);
      bars_fit = λ row l. omega (arith, e.no_len row, e.no_bar row);
      slots_fit = λ i l held. absurd (omega (arith, e.no_len (i / 32)));
      keys_fit = empty_keys_fit c.n;
    })

pub empty_outside : (c : Config) → config_fits c ≡ false → table_fits (empty_table c) ≡ false
unfolding table_fits empty_table
empty_outside c h = rw h

-- ---- the answer, and its table

module _ (n own simple sup : ℕ) where
  pub open_table : (open_of n own simple sup).table ≡ empty_table (config_of n own simple sup)
  unfolding open_of
  open_table = go (config_fits (config_of n own simple sup)) refl
    where
      go : (b : Bool) → config_fits (config_of n own simple sup) ≡ b → (open_of n own simple sup).table ≡ empty_table (config_of n own simple sup)
      go true e = rw e
      go false e = rw e

  pub open_done : config_fits (config_of n own simple sup) ≡ true → (open_of n own simple sup).answer ≡ Done
  unfolding open_of
  open_done h = rw h

  pub open_within : config_fits (config_of n own simple sup) ≡ true → table_fits (open_of n own simple sup).table ≡ true
  open_within h = rw open_table (empty_within (config_of n own simple sup) h)

  -- refusal 1 exactly when the configuration is outside the bounds, and then the table is outside too
  pub open_refused : config_fits (config_of n own simple sup) ≡ false → (open_of n own simple sup).answer ≡ Refused outside_bounds
  unfolding open_of
  open_refused h = rw h

  pub refused_outside : (open_of n own simple sup).answer ≡ Refused outside_bounds → config_fits (config_of n own simple sup) ≡ false
  refused_outside r = go (config_fits (config_of n own simple sup)) refl
    where
      go : (b : Bool) → config_fits (config_of n own simple sup) ≡ b → config_fits (config_of n own simple sup) ≡ false
      go true e = let d = open_done e in cc
      go false e = e

  pub open_outside : config_fits (config_of n own simple sup) ≡ false → table_fits (open_of n own simple sup).table ≡ false
  open_outside h = rw open_table (empty_outside (config_of n own simple sup) h)
