-- What a host may rely on of the recovery choices: out keeps its length, it is written for 105, 106 and 107 and for nothing else, and 0 says that a slice is short.
use mathlib.Core.Path.{◌≡◌}
use mathlib.Core.List.{List}
use mathlib.Core.Bool.{true, false}
use Prim.Native.Nat.{ℕ, ◌<◌, ◌≤◌}
use lib.ListN.{length}
use Rattle.base.specs.declared.config.Config.{Config}
use Rattle.recovering.specs.declared.recovery.Prepare.{Prepare}
use Rattle.recovering.specs.declared.recovery.Rule.{Rule}
use Rattle.deciding.proofs.DecidingLaws.{kept_length, stays, Written, written, zero_is_short, short_is_zero}
use Rattle.choosing.specs.Recovery.{choice_long, choice_decided, choice_code, choice_bytes}
use Rattle.choosing.proofs.NumberLaws.{choice_numbered}

module _ (rule : Rule) (c : Config) (p : Prepare) (acks votes out : List ℕ) where
  pub choice_length : length (choice_bytes rule c p acks votes out) ≡ length out
  choice_length = kept_length (choice_long acks votes out) true (choice_decided rule c p acks votes) out

  pub choice_stays : choice_code rule c p acks votes out < 105 → choice_bytes rule c p acks votes out ≡ out
  choice_stays = stays (choice_long acks votes out) true (choice_decided rule c p acks votes) out

  pub choice_written : 105 ≤ choice_code rule c p acks votes out → Written true (choice_decided rule c p acks votes) out (choice_bytes rule c p acks votes out)
  choice_written = written (choice_long acks votes out) true (choice_decided rule c p acks votes) out (choice_numbered c rule p acks votes)

  pub choice_zero : choice_code rule c p acks votes out ≡ 0 → choice_long acks votes out ≡ false
  choice_zero = zero_is_short (choice_long acks votes out) (choice_decided rule c p acks votes) (choice_numbered c rule p acks votes)

  pub choice_short : choice_long acks votes out ≡ false → choice_code rule c p acks votes out ≡ 0
  choice_short = short_is_zero (choice_long acks votes out) (choice_decided rule c p acks votes)
