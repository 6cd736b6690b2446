-- Seven marks, and which mark lies where; a status's byte reads back.
use mathlib.Core.Path.{◌≡◌, refl}
use mathlib.Core.List.{List}
use mathlib.Core.Bool.{Bool}
use Prim.Native.Nat.{ℕ, suc, zero, ◌*◌, ◌<◌}
use native.Mathlib.Omega.{arith}
use lib.ListN.{length, get_or, drop}
use Rattle.base.specs.Status.{rank_of}
use Rattle.base.specs.declared.status.Status.{Status}
use Rattle.base.specs.declared.status.Status.TheVariants.{Null, PreAccepting, Accepting, Committed, Executed}
use Rattle.octets.specs.Marks.{status_of, mark_at, marks_at}
use Rattle.layout.proofs.EachLaws.{each_length, each_is}

pub marks_length : (l : List ℕ) → length (marks_at l) ≡ 7
unfolding marks_at
marks_length l = each_length mark_at 1 7 l

-- the mark of replica i
pub mark_in_lem : (l : List ℕ) (i : ℕ) → i < 7 → (d : Bool) → get_or (marks_at l) i d ≡ mark_at (drop (1 * i) l)
unfolding marks_at
mark_in_lem l i h d = each_is mark_at 1 7 i l d h

-- ---- a status and its byte

pub status_back : (s : Status) → status_of (rank_of s) ≡ s
status_back Null = refl
status_back PreAccepting = refl
status_back Accepting = refl
status_back Committed = refl
status_back Executed = refl

pub rank_back : (b : ℕ) → b < 5 → rank_of (status_of b) ≡ b
rank_back zero h = refl
rank_back (suc zero) h = refl
rank_back (suc (suc zero)) h = refl
rank_back (suc (suc (suc zero))) h = refl
rank_back (suc (suc (suc (suc zero)))) h = refl
rank_back (suc (suc (suc (suc (suc b))))) h = absurd (omega arith)

pub rank_below : (s : Status) → rank_of s < 5
rank_below Null = omega arith
rank_below PreAccepting = omega arith
rank_below Accepting = omega arith
rank_below Committed = omega arith
rank_below Executed = omega arith
