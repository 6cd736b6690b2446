-- AcceptReply.
use Rattle.std.specs.Prelude.{[], ◌∷◌, Bool, cond, not, ◌&&◌, leb, eqb, ℕ}
use Rattle.base.specs.Marks.{marked, count_of}
use Rattle.base.specs.Status.{rank_of}
use Rattle.base.specs.declared.status.Status.TheVariants.{Accepting}
use Rattle.slots.specs.Slot.{with_mark, committed}
use Rattle.table.specs.Table.{holds, slot_of, put_at}
use Rattle.table.specs.declared.place.Place.{Place}
use Rattle.slots.specs.declared.slot.Slot.{Slot}
use Rattle.table.specs.declared.table.Table.{Table}
use Rattle.outcomes.specs.Output.{log_of, notice_of}
use Rattle.outcomes.specs.Outcome.{Handled, ignored, done, unless_refused}
use Rattle.outcomes.specs.Refusal.{message_refusal}
use Rattle.outcomes.specs.declared.message.Message.{Message}
use Rattle.changes.specs.Change.{doing}
use Rattle.changes.specs.declared.change.Change.{Change}
use Rattle.changes.specs.declared.change.Extent.TheVariants as Extents

-- Accepting, of this ballot, led, and the peer not yet marked
unfoldable pub heeds : Slot → Message → Bool
heeds s m = eqb (rank_of s.status) (rank_of Accepting) && (eqb s.ballot m.ballot && (s.led && not (marked s.marks m.peer)))

-- with at least simple marks: Committed, log record, then a CommitNotice broadcast
unfoldable pub on_mark : Table → Place → Slot → Handled
on_mark t at s =
    cond (leb t.config.simple (count_of s.marks))
    (done (put_at t at (committed s)) (log_of at (committed s) ∷ notice_of at (committed s) ∷ []))
    (done (put_at t at s) [])

-- the change that says so of the slot alone
abbrev pub marking : ℕ → Place → Slot → Change
marking simple at s =
    cond (leb simple (count_of s.marks))
    (doing Extents.Slot (committed s) (log_of at (committed s) ∷ notice_of at (committed s) ∷ []))
    (doing Extents.Slot s [])

-- ignored where the slot is absent or does not heed it; else a mark
abbrev pub on_held : Table → Message → Handled
on_held t m =
    cond (holds t m.at && heeds (slot_of t m.at) m) (on_mark t m.at (with_mark (slot_of t m.at) m.peer)) (ignored t)

unfoldable pub accept_reply : Table → Message → Handled
accept_reply t m = unless_refused (message_refusal t m) (on_held t m)
