-- What each change that is decided makes of every table that looks as the view.
use mathlib.Core.Path.{◌≡◌, refl, ap, sym, ◌∙◌}
use mathlib.Core.List.{[], ◌∷◌}
use mathlib.Core.Bool.{Bool, true, false}
use lib.Dec.{leb}
use Prim.Native.Nat.{ℕ, ◌<◌, ◌≤◌}
use native.Mathlib.Omega.{arith}
use Rattle.base.specs.Refusals.{refusal_number}
use Rattle.base.specs.declared.refusals.Refusal.{Refusal}
use Rattle.base.specs.Marks.{count_of}
use Rattle.base.specs.declared.config.Config.{Config}
use Rattle.deps.specs.declared.batches.Batch.{Batch}
use Rattle.slots.specs.Slot.{heard_from, leading, with_mark, committed}
use Rattle.slots.specs.declared.slot.Slot.{Slot}
use Rattle.table.specs.Table.{holds, slot_of, put_at, nulls_to}
use Rattle.table.specs.declared.place.Place.{Place}
use Rattle.table.specs.declared.table.Table.{Table}
use Rattle.outcomes.specs.Output.{log_of, notice_of, reply_of}
use Rattle.outcomes.specs.Outcome.{done, outcome_of}
use Rattle.outcomes.specs.declared.message.Message.{Message}
use Rattle.outcomes.proofs.OutcomeLaws.{when_not}
use Rattle.changes.specs.View.{view_of}
use Rattle.changes.specs.Change.{MakesForAny, Inside, Seven, changed, refusing, ignoring, doing}
use Rattle.changes.specs.declared.view.View.{View}
use Rattle.changes.specs.declared.change.Extent.TheVariants as Extents
use Rattle.changes.proofs.ViewLaws.{message_in, lead_in, config_seen, held_seen, held_slot, slot_seen_lem, message_seen, lead_seen, message_inside, lead_inside, held_put}
use Rattle.handlers.specs.Replies.{heeds, on_mark, marking, on_held, accept_reply}
use Rattle.handlers.specs.Prepare.{on_greater, exp_prepare}
use Rattle.handlers.specs.Lead.{lead_slot}
use Rattle.handlers.proofs.TestLaws.{heeded}

-- ---- a mark, with which there are too few or enough

mark_inside : (simple : ℕ) (at : Place) (s : Slot) → (at.row < 7) × (at.col < 32) → Inside (marking simple at s).extent at
mark_inside simple at s h = grind arith

mark_same : (t : Table) (at : Place) (s : Slot) → holds t at ≡ true → changed t at (marking t.config.simple at s) ≡ outcome_of t (on_mark t at s)
unfolding on_mark
mark_same t at s h = go (leb t.config.simple (count_of s.marks)) refl
  where
    go : (b : Bool) → leb t.config.simple (count_of s.marks) ≡ b → changed t at (marking t.config.simple at s) ≡ outcome_of t (on_mark t at s)
    go true q = rw q (held_put t at (committed s) (log_of at (committed s) ∷ notice_of at (committed s) ∷ []) h)
    go false q = rw q (held_put t at s [] h)

module _ (v : View) (m : Message) where
  pub reply_refused : (refusal : Refusal) → refusal_number refusal ≡ message_in v m → MakesForAny (λ t. accept_reply t m) v m.at (refusing (refusal_number refusal))
  unfolding accept_reply
  reply_refused refusal e = grind (arith, message_seen)

  pub prepare_refused : (refusal : Refusal) → refusal_number refusal ≡ message_in v m → MakesForAny (λ t. exp_prepare t m) v m.at (refusing (refusal_number refusal))
  unfolding exp_prepare
  prepare_refused refusal e = grind (arith, message_seen)

  module _ (none : message_in v m ≡ 0) where
    -- ---- an AcceptReply that is not refused

    past_reply : (t : Table) (b : Batch) → view_of t m.at b ≡ v → accept_reply t m ≡ on_held t m
    unfolding accept_reply
    past_reply t b e = grind (arith, message_seen)

    pub reply_not_held : v.held ≡ false → MakesForAny (λ t. accept_reply t m) v m.at (ignoring Extents.Nothing)
    reply_not_held e = grind (arith, past_reply, held_seen)

    module _ (held : v.held ≡ true) where
      its_heeds : (t : Table) (b : Batch) → view_of t m.at b ≡ v → heeds (slot_of t m.at) m ≡ heeds v.slot m
      its_heeds t b e = grind (arith, held_slot)

      pub reply_not_heeded : heeds v.slot m ≡ false → MakesForAny (λ t. accept_reply t m) v m.at (ignoring Extents.Nothing)
      reply_not_heeded e = grind (arith, past_reply, its_heeds)

      pub reply_heeded : Seven v → heeds v.slot m ≡ true → MakesForAny (λ t. accept_reply t m) v m.at (marking v.config.simple m.at (with_mark v.slot m.peer))
      reply_heeded seven h b =
          record {
            inside = mark_inside v.config.simple m.at (with_mark v.slot m.peer) (message_inside v seven m none).1;
            same = λ t lens e. let k = held_seen t m.at b v e ∙ held in
                ap (λ (x : Config). changed t m.at (marking x.simple m.at (with_mark v.slot m.peer))) (sym (config_seen t m.at b v e))
                ∙ mark_same t m.at (with_mark v.slot m.peer) k
                ∙ ap (λ (s : Slot). outcome_of t (on_mark t m.at (with_mark s m.peer))) (sym (held_slot t m.at b v e held))
                ∙ sym (ap (outcome_of t) (past_reply t b e ∙ heeded t m k (its_heeds t b e ∙ h)));
          }

    -- ---- an ExpPrepare that is not refused: the ballot decides, of the table with its null slots

    module _ (seven : Seven v) where
      inside : (m.at.row < 7) × (m.at.col < 32)
      inside = (message_inside v seven m none).1

      past_prepare : (t : Table) (b : Batch) → view_of t m.at b ≡ v → exp_prepare t m ≡ on_greater (nulls_to t m.at) m
      unfolding exp_prepare
      past_prepare t b e = grind (arith, message_seen)

      its_slot : (t : Table) (b : Batch) → view_of t m.at b ≡ v → slot_of (nulls_to t m.at) m.at ≡ v.slot
      its_slot t b e = slot_seen_lem t m.at b v e inside.0 inside.1

      pub prepare_not_greater : m.ballot ≤ v.slot.ballot → MakesForAny (λ t. exp_prepare t m) v m.at (ignoring Extents.Nulls)
      prepare_not_greater e = grind (arith, inside, past_prepare, its_slot)

      pub prepare_greater : v.slot.ballot < m.ballot
          → MakesForAny (λ t. exp_prepare t m) v m.at (doing Extents.Slot (heard_from v.slot m.peer) (reply_of m.peer m.ballot m.at v.slot ∷ []))
      prepare_greater e = grind (arith, inside, its_slot, past_prepare)

-- ---- Lead

module _ (v : View) (at : Place) where
  pub lead_refused : (refusal : Refusal) → refusal_number refusal ≡ lead_in v at → MakesForAny (λ t. lead_slot t at) v at (refusing (refusal_number refusal))
  unfolding lead_slot
  lead_refused refusal e = grind (arith, lead_seen)

  pub lead_leading : Seven v → lead_in v at ≡ 0 → MakesForAny (λ t. lead_slot t at) v at (doing Extents.Slot (leading v.slot) [])
  unfolding lead_slot
  lead_leading seven none b =
      let h = lead_inside v seven at none in
      record {
        inside = h.0;
        same = λ t lens e. held_put t at (leading v.slot) [] (held_seen t at b v e ∙ h.1)
            ∙ ap (λ (s : Slot). outcome_of t (done (put_at t at (leading s)) [])) (sym (held_slot t at b v e h.1))
            ∙ sym (ap (outcome_of t) (when_not _ _ (sym (lead_seen t at b v e) ∙ none)));
      }
