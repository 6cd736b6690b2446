-- What an event keeps: the configuration, the lengths of the table's lists, and the bounds.
use mathlib.Core.Path.{◌≡◌, refl, ap, ◌∙◌}
use mathlib.Core.Bool.{true}
use lib.ListN.{length}
use Rattle.base.specs.declared.config.Config.{Config}
use Rattle.keys.specs.declared.columns.Keys.{Keys}
use Rattle.bounds.specs.Bounds.{table_fits}
use Rattle.table.specs.Table.{empty_table}
use Rattle.table.specs.declared.place.Place.{Place}
use Rattle.table.specs.declared.table.Table.{Table}
use Rattle.table.proofs.SlotReads.{nulls_config, nulls_keys, nulls_lens_length, stored_config, stored_lens, stored_keys_length}
use Rattle.proposing.specs.Proposals.{proposed}
use Rattle.handlers.specs.Replies.{accept_reply}
use Rattle.handlers.specs.Prepare.{exp_prepare}
use Rattle.handlers.specs.Lead.{lead_slot}
use Rattle.handlers.proofs.WithinLaws.{kept_outcome, proposed_keeps, reply_keeps, prepare_keeps, lead_keeps}
use Rattle.attempts.proofs.AttemptLaws.{attempt_keeps}
use Rattle.logged.proofs.BarLaws.{logged_leaves}
use Rattle.logged.proofs.WithinLaws.{logged_keeps}
use Rattle.steps.specs.Calls.{Call, propose, reply, prepare, log, try, lead_at}
use Rattle.steps.specs.Step.{after}
use Rattle.steps.proofs.ChangeLaws.{Touched, as_was, filled_to, put_in, stored_in, proposed_touches, reply_touches, prepare_touches, lead_touches, attempt_cases, attempt_slots}

-- ---- no event changes the configuration

touched_config : {t : Table} {at : Place} {u : Table} → Touched t at u → u.config ≡ t.config
touched_config as_was = refl
touched_config {t} {at} (filled_to l) = nulls_config t at
touched_config (put_in s n w) = touched_config w
touched_config {t} {at} (stored_in {u} s n w) = stored_config u at s ∙ touched_config w

pub step_config : (t : Table) (call : Call) → (after t call).config ≡ t.config
step_config t (propose phase p) = touched_config (proposed_touches phase t p)
step_config t (reply m) = touched_config (reply_touches t m)
step_config t (prepare m) = touched_config (prepare_touches t m)
step_config t (log status at) = (logged_leaves t at status 224).config
step_config t (try at) = (attempt_slots t at 224).config
step_config t (lead_at at) = touched_config (lead_touches t at)

-- ---- the lists stay as long as they are

-- a length for each row, columns for each key
pub record Sized (t : Table) : Type 0 where
  pub rows : length t.lens ≡ 7
  pub columns : length t.keys.cols ≡ 256

pub empty_sized : (config : Config) → Sized (empty_table config)
unfolding empty_table
empty_sized config = record { rows = refl; columns = refl }

pub same_sized : (t u : Table) → u.lens ≡ t.lens → u.keys ≡ t.keys → Sized t → Sized u
same_sized t u e f s = record { rows = ap length e ∙ s.rows; columns = ap (λ (k : Keys). length k.cols) f ∙ s.columns }

touched_sized : {t : Table} {at : Place} {u : Table} → Touched t at u → Sized t → Sized u
touched_sized as_was s = s
touched_sized {t} {at} (filled_to l) s = record { rows = nulls_lens_length t at ∙ s.rows; columns = ap (λ (k : Keys). length k.cols) (nulls_keys t at) ∙ s.columns }
touched_sized (put_in r n w) s = let z = touched_sized w s in record { rows = z.rows; columns = z.columns }
touched_sized {t} {at} (stored_in {u} r n w) s =
    let z = touched_sized w s in
    record { rows = ap length (stored_lens u at r) ∙ z.rows; columns = stored_keys_length u at r ∙ z.columns }

pub step_sized : (t : Table) (call : Call) → Sized t → Sized (after t call)
step_sized t (propose phase p) s = touched_sized (proposed_touches phase t p) s
step_sized t (reply m) s = touched_sized (reply_touches t m) s
step_sized t (prepare m) s = touched_sized (prepare_touches t m) s
step_sized t (log status at) s = let w = logged_leaves t at status 224 in same_sized t (after t (log status at)) w.lens w.keys s
step_sized t (try at) s = let w = attempt_slots t at 224 in same_sized t (after t (try at)) w.lens w.keys s
step_sized t (lead_at at) s = touched_sized (lead_touches t at) s

-- ---- and the table within the bounds

pub step_keeps : (t : Table) (call : Call) → Sized t → table_fits t ≡ true → table_fits (after t call) ≡ true
step_keeps t (propose phase p) s h = kept_outcome t (proposed phase t p) (proposed_keeps phase t p s.rows s.columns) h
step_keeps t (reply m) s h = kept_outcome t (accept_reply t m) (reply_keeps t m) h
step_keeps t (prepare m) s h = kept_outcome t (exp_prepare t m) (prepare_keeps t m s.rows) h
step_keeps t (log status at) s h = logged_keeps t at status 224 h
step_keeps t (try at) s h = attempt_cases t at 224 (λ a. table_fits a.table ≡ true) (λ _. h) (λ w. attempt_keeps t at h w.row w.col)
step_keeps t (lead_at at) s h = kept_outcome t (lead_slot t at) (lead_keeps t at) h
