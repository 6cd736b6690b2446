-- The whole history of a copy is in the paper's order, whatever attempts it was made of.
use mathlib.Core.Path.{◌≡◌, sym, ◌∙◌}
use mathlib.Core.Bool.{Bool, true, false}
use mathlib.Core.List.{List}
use mathlib.Core.Logic.{inl}
use Prim.Native.Nat.{ℕ}
use native.Mathlib.Omega.{arith}
use Rattle.base.specs.Below.{list_below}
use Rattle.base.proofs.Loops.{length_below, below_at_lem}
use Rattle.table.specs.declared.table.Table.{Table}
use Rattle.order.specs.Listed.{On}
use Rattle.order.specs.Paper.{Paper}
use Rattle.order.proofs.ListLaws.{on_short}
use Rattle.attempts.specs.Reads.{has_run, deps_of, seqs_of}
use Rattle.steps.proofs.KeepLaws.{Sized}
use Rattle.copies.specs.Copies.{Copy, ends, history_of, is_steady, Ran}
use Rattle.copies.proofs.Moves.{ran_held, Reached}
use Rattle.copies.proofs.SettledLaws.{held_low}
use Rattle.copies.proofs.RunLaws.{copy_sized, copy_reached}

-- the slots that have run
abbrev pub ran_marks : Table → List Bool
ran_marks t = list_below 224 (has_run t)

module _ {t : Table} (sized : Sized t) (i : ℕ) where
  ran_on : Ran t i → On (ran_marks t) i
  ran_on r = below_at_lem 224 (has_run t) i false (held_low sized i (ran_held t i r).0) ∙ r

  on_ran : On (ran_marks t) i → Ran t i
  on_ran on = sym (below_at_lem 224 (has_run t) i false (omega (arith, on_short (ran_marks t) i on, length_below 224 (has_run t)))) ∙ on

reached_paper : {h : List ℕ} {t : Table} → Reached h t → Sized t → Paper (deps_of t) (seqs_of t) (ran_marks t) h
reached_paper {h} {t} r s = record {
  only = λ i m. ran_on s i (r.ran i m);
  all = λ i on. r.listed i (on_ran s i on);
  once = r.once;
  together = r.ordered.together;
  after = λ i j m k. r.ordered.outer i j (r.listed i (on_ran s i m)) (r.listed j (on_ran s j k));
  inside = λ i j m k mates lower. r.ordered.inner i j (r.listed i (on_ran s i m)) (r.listed j (on_ran s j k)) mates (inl lower);
}

pub history_paper : (c : Copy) → is_steady c ≡ true → Paper (deps_of (ends c)) (seqs_of (ends c)) (ran_marks (ends c)) (history_of c)
history_paper c s = reached_paper (copy_reached c s) (copy_sized c)
