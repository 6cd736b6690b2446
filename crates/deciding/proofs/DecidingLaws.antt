-- What a host may rely on: out keeps its length, it is written for 105, 106 and 107 and for nothing else, and 0 says that a slice is short.
use mathlib.Core.Path.{◌≡◌, refl}
use mathlib.Core.List.{List}
use mathlib.Core.Bool.{Bool, true, false}
use Prim.Native.Nat.{ℕ, ◌<◌, ◌≤◌}
use native.Mathlib.Omega.{arith}
use lib.ListN.{length}
use Rattle.base.specs.declared.config.Config.{Config}
use Rattle.std.specs.Prelude.{Some}
use Rattle.votes.specs.Answer.{goes_on_with}
use Rattle.votes.specs.declared.contents.Contents.{Contents}
use Rattle.votes.specs.declared.answer.Decision.{Decision}
use Rattle.votes.specs.declared.answer.Decision.TheVariants.{Wait, Committed, Accepting, PreAccepting, Refused}
use Rattle.layout.specs.Numbers.{lay}
use Rattle.layout.proofs.Laying.{lay_length}
use Rattle.deciding.specs.Codes.{code_of}
use Rattle.deciding.specs.Answers.{contents_bytes, out_of, code_if, bytes_if}
use Rattle.deciding.specs.Fast.{fast_long, fast_decided, fast_code, fast_bytes}
use Rattle.deciding.proofs.NumberLaws.{Numbered, some_number, fast_numbered, fast_at_most}

-- ---- of any decision on slices that are long enough or not

pub kept_length : (long whole : Bool) (d : Decision) (out : List ℕ) → length (bytes_if long whole d out) ≡ length out
unfolding out_of
kept_length false whole d out = refl
kept_length true whole Wait out = refl
kept_length true whole (Committed c) out = lay_length _ _ _
kept_length true whole (Accepting c) out = lay_length _ _ _
kept_length true whole (PreAccepting c) out = lay_length _ _ _
kept_length true whole (Refused k) out = refl

pub stays : (long whole : Bool) (d : Decision) (out : List ℕ) → code_if long d < 105 → bytes_if long whole d out ≡ out
unfolding out_of code_of
stays false whole d out h = refl
stays true whole Wait out h = refl
stays true whole (Committed c) out h = absurd (omega arith)
stays true whole (Accepting c) out h = absurd (omega arith)
stays true whole (PreAccepting c) out h = absurd (omega arith)
stays true whole (Refused k) out h = refl

-- what is written is what there is to go on with
pub record Written (whole : Bool) (d : Decision) (out new : List ℕ) : Type 0 where
  pub contents : Contents
  pub there : goes_on_with d ≡ Some contents
  pub laid : new ≡ lay out 0 (contents_bytes whole contents)

pub written : (long whole : Bool) (d : Decision) (out : List ℕ) → Numbered d → 105 ≤ code_if long d → Written whole d out (bytes_if long whole d out)
unfolding out_of code_of Numbered
written false whole d out n h = absurd (omega arith)
written true whole Wait out n h = absurd (omega arith)
written true whole (Committed c) out n h = record { contents = c; there = refl; laid = refl }
written true whole (Accepting c) out n h = record { contents = c; there = refl; laid = refl }
written true whole (PreAccepting c) out n h = record { contents = c; there = refl; laid = refl }
written true whole (Refused k) out n h = absurd (omega (arith, n.1))

pub zero_is_short : (long : Bool) (d : Decision) → Numbered d → code_if long d ≡ 0 → long ≡ false
zero_is_short false d n e = refl
zero_is_short true d n e = absurd (omega (arith, some_number d n, e))

pub short_is_zero : (long : Bool) (d : Decision) → long ≡ false → code_if long d ≡ 0
short_is_zero long d e = rw e

-- ---- the fast decision

module _ (c : Config) (avoided : ℕ) (replies silent out : List ℕ) where
  pub fast_length : length (fast_bytes c avoided replies silent out) ≡ length out
  fast_length = kept_length (fast_long replies silent out) false (fast_decided c avoided replies silent) out

  pub fast_stays : fast_code c avoided replies silent out < 105 → fast_bytes c avoided replies silent out ≡ out
  fast_stays = stays (fast_long replies silent out) false (fast_decided c avoided replies silent) out

  pub fast_written : 105 ≤ fast_code c avoided replies silent out → Written false (fast_decided c avoided replies silent) out (fast_bytes c avoided replies silent out)
  fast_written = written (fast_long replies silent out) false (fast_decided c avoided replies silent) out (fast_numbered c avoided replies silent)

  pub fast_no_pre_accept : fast_code c avoided replies silent out ≤ 106
  fast_no_pre_accept = go (fast_long replies silent out)
    where
      go : (long : Bool) → code_if long (fast_decided c avoided replies silent) ≤ 106
      go true = fast_at_most c avoided replies silent
      go false = omega arith

  pub fast_zero : fast_code c avoided replies silent out ≡ 0 → fast_long replies silent out ≡ false
  fast_zero = zero_is_short (fast_long replies silent out) (fast_decided c avoided replies silent) (fast_numbered c avoided replies silent)

  pub fast_short : fast_long replies silent out ≡ false → fast_code c avoided replies silent out ≡ 0
  fast_short = short_is_zero (fast_long replies silent out) (fast_decided c avoided replies silent)
