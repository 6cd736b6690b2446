-- A run event by event: what each runs, and the table that it leaves.
use mathlib.Core.Path.{◌≡◌, refl, ap, ap₂, ◌∙◌}
use mathlib.Core.Bool.{Bool, true, false, cond, ◌&&◌}
use mathlib.Core.List.{List, [], ◌∷◌, ◌++◌, append-nil}
use Prim.Native.Nat.{ℕ, ◌-◌}
use lib.ListN.{length, take, replicate}
use lib.Seq.{sets}
use Rattle.base.specs.declared.answer.Answer.{Answer}
use Rattle.base.specs.declared.answer.Answer.TheVariants.{Done, NotYet, Already}
use Rattle.table.specs.Place.{place_of, index_of}
use Rattle.table.specs.declared.place.Place.{Place}
use Rattle.table.specs.declared.table.Table.{Table}
use Rattle.leads.specs.Frontier.{frontier}
use Rattle.order.specs.Order.{order_of}
use Rattle.attempts.specs.Reads.{has_run, deps_of, seqs_of}
use Rattle.attempts.specs.Refusal.{attempt_refusal}
use Rattle.attempts.specs.Attempt as Attempt
use Rattle.attempts.specs.Attempt.{reached, all_below_bars, waiting_in, ran_with, answer_of, to_run, written, attempt_on, order_on, attempt_or, order_or, attempt_of, attempt_order}
use Rattle.logged.specs.Refusal.{logged_refusal}
use Rattle.rising.specs.Bars.{risen_bar}
use Rattle.rising.specs.Attempts.{is_not_yet, before, attempts_on}
use Rattle.rising.specs.Committed.{tails_below, attempted_from, risen_table, on_risen, rises, on_committed}
use Rattle.logged.specs.Logged as Logged
use Rattle.logged.specs.Logged.{logged_on, logged_or, logged_of, logged_order}
use Rattle.base.specs.declared.log_status.LogStatus.TheVariants.{Committed}
use Rattle.steps.specs.Calls.{Call, log, try}
use Rattle.steps.specs.Step.{after, slots_run}
use Rattle.copies.specs.Copies.{keeps_committed, table_after_all, history, keeps_all}

-- ---- an attempt

-- its answer, the slots that it runs and the table that it leaves
pub record Tries (t : Table) (at : Place) (answer : Answer) (w : List ℕ) (u : Table) : Type 0 where
  pub says : answer_of t at ≡ answer
  pub wrote : written (answer_of t at) t at ≡ w
  pub leaves : (attempt_on t at).table ≡ u

tries : {t : Table} {at : Place} {answer : Answer} {w : List ℕ} {u : Table} → answer_of t at ≡ answer → written answer t at ≡ w → Attempt.table_after answer t at ≡ u
    → Tries t at answer w u
unfolding attempt_on
tries {t} {at} says wrote leaves =
    record { says = says; wrote = ap (λ a. written a t at) says ∙ wrote; leaves = ap (λ a. Attempt.table_after a t at) says ∙ leaves }

-- of a slot that has not run: the dependency sets of the table, and by them the slot's frontier
pub record Reaches (t : Table) (at : Place) (deps F : List ℕ) : Type 0 where
  pub sets : deps_of t ≡ deps
  pub reach : frontier deps (index_of at) ≡ F
  pub unrun : has_run t (index_of at) ≡ false

reached_is : {t : Table} {at : Place} {deps F : List ℕ} → Reaches t at deps F → reached t at ≡ F
unfolding reached
reached_is {at = at} h = ap (λ d. frontier d (index_of at)) h.sets ∙ h.reach

says_by : {t : Table} {at : Place} {deps F : List ℕ} {b : Bool} → Reaches t at deps F → all_below_bars t F ≡ b → answer_of t at ≡ cond b Done NotYet
says_by {t} {at} h l =
    ap (λ r. cond r Already (cond (all_below_bars t (reached t at)) Done NotYet)) h.unrun
    ∙ ap (λ G. cond (all_below_bars t G) Done NotYet) (reached_is h)
    ∙ ap (λ c. cond c Done NotYet) l

pub tries_notyet : {t : Table} {at : Place} {deps F : List ℕ} → Reaches t at deps F → all_below_bars t F ≡ false → Tries t at NotYet [] t
tries_notyet h l = tries (says_by h l) refl refl

-- below the bars: the slots in the order by these sets, and the table with them run
pub record Runs (t : Table) (deps F L : List ℕ) (u : Table) : Type 0 where
  pub below : all_below_bars t F ≡ true
  pub order : order_of deps (seqs_of t) (waiting_in t F) ≡ L
  pub run : ran_with t (waiting_in t F) ≡ u

pub tries_done : {t u : Table} {at : Place} {deps F L : List ℕ} → Reaches t at deps F → Runs t deps F L u → Tries t at Done L u
unfolding to_run
tries_done {t} {u} {at} h r =
    tries (says_by h r.below)
    (ap₂ (λ d G. order_of d (seqs_of t) (waiting_in t G)) h.sets (reached_is h) ∙ r.order)
    (ap (λ G. ran_with t (waiting_in t G)) (reached_is h) ∙ r.run)

pub tries_already : {t : Table} {at : Place} → has_run t (index_of at) ≡ true → Tries t at Already [] t
tries_already {t} {at} h = tries (ap (λ r. cond r Already (cond (all_below_bars t (reached t at)) Done NotYet)) h) refl refl

-- ---- an event

pub record Goes (t : Table) (call : Call) (w : List ℕ) (u : Table) : Type 0 where
  pub slots : slots_run t call ≡ w
  pub leaves : after t call ≡ u

-- what is written is read back
abbrev pub front : List ℕ → List ℕ
front w = take (length w) (sets (replicate 224 0) 0 w)

pub attempt_goes : {t u : Table} {at : Place} {answer : Answer} {w : List ℕ} → attempt_refusal t at 224 ≡ 0 → Tries t at answer w u → front w ≡ w
    → Goes t (try at) w u
unfolding attempt_of attempt_order attempt_on order_on
attempt_goes {t} {u} {at} r h f =
    record {
      slots = ap (λ k. take (attempt_or k t at).ran (order_or k t at (replicate 224 0))) r ∙ ap front h.wrote ∙ f;
      leaves = ap (λ k. (attempt_or k t at).table) r ∙ h.leaves;
    }

-- what a Logged attempts after its first attempt
abbrev pub rest : Answer → Table → List Place
rest answer u = cond (is_not_yet answer) [] (tails_below u 7)

one_attempt : {t u : Table} {at : Place} {answer : Answer} {w : List ℕ} → Tries t at answer w u → rest answer u ≡ []
    → attempts_on t (attempted_from t at) ≡ record { table = u; wrote = w }
unfolding attempts_on attempted_from
one_attempt {t} {u} {at} {answer} {w} h e =
    ap₂ (λ L v. before L (attempts_on v (rest (answer_of t at) v))) h.wrote h.leaves
    ∙ ap (λ a. before w (attempts_on u (rest a u))) h.says
    ∙ ap (λ places. before w (attempts_on u places)) e
    ∙ ap (λ L. record { table = u; wrote = L }) (append-nil w)

-- logged at the bar, which rises by one slot
pub record Rises (t : Table) (at : Place) (v : Table) : Type 0 where
  pub refusal : logged_refusal t at 224 ≡ 0
  pub risen : rises t at ≡ true
  pub bars : risen_table t at.row ≡ v
  pub here : place_of at.row (risen_bar t at.row - 1) ≡ at

pub logged_goes : {t v u : Table} {at : Place} {answer : Answer} {w : List ℕ} → Rises t at v → Tries v at answer w u → rest answer u ≡ [] → front w ≡ w
    → Goes t (log Committed at) w u
unfolding on_committed on_risen logged_of logged_order logged_on Logged.order_on
logged_goes {t} {v} {u} {at} {answer} {w} r h e f =
    let entries : on_committed t at ≡ record { table = u; wrote = w } =
    ap (λ c. cond c (on_risen t at.row) (attempts_on t [])) r.risen ∙ ap₂ (λ x p. attempts_on x (attempted_from x p)) r.bars r.here ∙ one_attempt h e in
    record {
      slots = ap (λ k. take (logged_or k Committed t at).ran (Logged.order_or k Committed t at (replicate 224 0))) r.refusal ∙ ap (λ a. front a.wrote) entries ∙ f;
      leaves = ap (λ k. (logged_or k Committed t at).outcome.table) r.refusal ∙ ap (λ a. a.table) entries;
    }

-- ---- a run

-- the history, the table in the end, and whether what is committed stays
pub record Plays (t : Table) (calls : List Call) (w : List ℕ) (u : Table) (steady : Bool) : Type 0 where
  pub wrote : history t calls ≡ w
  pub leaves : table_after_all t calls ≡ u
  pub keeps : keeps_all t calls ≡ steady

pub plays_none : {t : Table} → Plays t [] [] t true
unfolding history table_after_all keeps_all
plays_none = record { wrote = refl; leaves = refl; keeps = refl }

pub plays_more : {t u v : Table} {call : Call} {calls : List Call} {w L : List ℕ} {b c : Bool} → Goes t call w u → keeps_committed t u ≡ b
    → Plays u calls L v c → Plays t (call ∷ calls) (w ++ L) v (b && c)
unfolding history table_after_all keeps_all
plays_more {t} {u} {v} {call} {calls} {w} g k p =
    record {
      wrote = ap₂ (λ L x. L ++ history x calls) g.slots g.leaves ∙ ap (λ L. w ++ L) p.wrote;
      leaves = ap (λ x. table_after_all x calls) g.leaves ∙ p.leaves;
      keeps = ap (λ x. keeps_committed t x && keeps_all x calls) g.leaves ∙ ap₂ ◌&&◌ k p.keeps;
    }
