-- The cases that are proved, in one list, and the one statement over it.
use Rattle.std.specs.Prelude.{◌≡◌, List, [], ◌∷◌, Bool, true, false, ℕ}
use Rattle.deps.specs.Sets.{Dep, nothing, column, union_of}
use Rattle.deps.specs.Batches.{batch_of}
use Rattle.keys.specs.Columns.{identify_of}
use Rattle.base.specs.declared.config.Config.{Config}
use Rattle.base.specs.declared.status.Status.{Status}
use Rattle.base.specs.declared.status.Status.TheVariants.{Null, PreAccepting, Committed}
use Rattle.deps.specs.declared.batches.Request.{Request}
use Rattle.votes.specs.declared.answer.Decision.{Decision}
use Rattle.votes.specs.declared.answer.Decision.TheVariants as decision
use Rattle.decisions.specs.Fast.{fast_answer}
use Rattle.recovering.specs.Recovery.{choice_answer}
use Rattle.votes.specs.declared.contents.Contents.{Contents}
use Rattle.recovering.specs.declared.recovery.Rule.{Rule}
use Rattle.recovering.specs.declared.recovery.Rule.TheVariants.{Rust, Paper}
use Rattle.cases.specs.Notation.{rows, put, get, other, Stored, keys_after, config, seven, Says, nothing_said, reply, vote, marks, seqs, cols, statuses, batches, contents, at_default, Holds, sent_again, pre_accepted}

pub data Case : Type 0 where
  -- the union of two sets
  union : List Dep → List Dep → List Dep → Case
  -- what a batch waits for after these slots
  identify : List Stored → List Request → List Dep → Case
  -- the fast decision on these replies, with these replicas silent
  fast : Config → List Says → List Bool → Decision → Case
  -- the choice by a rule, at N 3, simple 2, super 3, on row 0 at its default ballot, with these acks and votes
  recover : Rule → List Bool → List Says → Decision → Case
  -- a PreAccept 0.0, ballot 5, sequence 1, empty, put, sent again so many times: sequence and dependencies
  pre_accepts : ℕ → ℕ → List Dep → Case

-- what a case says
unfoldable pub Claim : Case → Type 0
Claim (union a b r) = union_of (rows a) (rows b) ≡ rows r
Claim (identify past batch r) = identify_of (keys_after past) (batch_of batch) ≡ rows r
Claim (fast c l silent d) = fast_answer c false (marks l) (seqs l) (cols l) (seven false silent) ≡ d
Claim (recover rule acks l d) = choice_answer rule (config 3 2 3) at_default (seven false acks) (marks l) (statuses l) (seqs l) (cols l) (batches l) ≡ d
Claim (pre_accepts times seq deps) = Holds (sent_again times) (pre_accepted seq deps)

unfoldable pub Every : List Case → Type 0
Every [] = Unit
Every (c ∷ l) = Claim c × Every l

-- 0.1 put 5, 1.3 put 5, 0.2 put 7, 2.0 got 5
abbrev pub past : List Stored
past =
    record { row = 0; col = 1; requests = put 5 ∷ [] }
    ∷ record { row = 1; col = 3; requests = put 5 ∷ [] }
    ∷ record { row = 0; col = 2; requests = put 7 ∷ [] }
    ∷ record { row = 2; col = 0; requests = get 5 ∷ [] }
    ∷ []

-- two replies that differ
abbrev pub x : Says
x = reply 4 (column 1 ∷ [])

abbrev pub y : Says
y = reply 5 (nothing ∷ column 2 ∷ [])

-- a vote for an edit, and a Null one
abbrev pub edit : Contents
edit = contents 4 (column 1 ∷ []) (put 5 ∷ [])

abbrev pub vote_for : Status → Says
vote_for status = vote status 4 (column 1 ∷ []) (put 5 ∷ [])

abbrev pub null : Says
null = vote Null 0 [] []

abbrev pub acks12 : List Bool
acks12 = false ∷ true ∷ true ∷ []

unfoldable pub cases : List Case
cases =
    union (column 1 ∷ nothing ∷ column 3 ∷ []) (column 2 ∷ column 4 ∷ nothing ∷ []) (column 2 ∷ column 4 ∷ column 3 ∷ [])
    ∷ union (column 1 ∷ nothing ∷ column 3 ∷ []) [] (column 1 ∷ nothing ∷ column 3 ∷ [])
    ∷ identify past (get 5 ∷ []) (column 1 ∷ column 3 ∷ [])
    ∷ identify past (put 7 ∷ []) (column 2 ∷ [])
    ∷ identify past (put 5 ∷ get 7 ∷ []) (column 2 ∷ column 3 ∷ [])
    ∷ identify past (get 6 ∷ []) []
    ∷ identify past (other ∷ []) []
    ∷ fast (config 3 2 3) (reply 4 [] ∷ reply 4 [] ∷ []) [] decision.Wait
    ∷ fast (config 3 2 3) (reply 4 [] ∷ reply 4 [] ∷ []) (false ∷ false ∷ true ∷ []) (decision.Accepting (contents 4 [] []))
    ∷ fast (config 3 2 3) (reply 4 [] ∷ reply 4 [] ∷ reply 4 [] ∷ []) [] (decision.Committed (contents 4 [] []))
    ∷ fast (config 3 2 3) (x ∷ y ∷ []) [] (decision.Accepting (contents 5 (column 1 ∷ column 2 ∷ []) []))
    ∷ fast (config 4 2 2) (x ∷ y ∷ y ∷ x ∷ []) [] (decision.Committed (contents 4 (column 1 ∷ []) []))
    ∷ fast (config 3 2 4) (x ∷ y ∷ []) [] (decision.Refused 1)
    ∷ fast (config 3 2 3) (x ∷ y ∷ nothing_said ∷ y ∷ []) [] (decision.Refused 2)
    ∷ fast (config 3 2 3) (reply 4 (column 32 ∷ []) ∷ y ∷ []) [] (decision.Refused 4)
    ∷ fast (config 3 2 3) (reply 4294967296 [] ∷ y ∷ []) [] (decision.Refused 6)
    ∷ recover Rust acks12 (nothing_said ∷ vote_for PreAccepting ∷ vote_for PreAccepting ∷ []) (decision.Accepting edit)
    ∷ recover Paper acks12 (nothing_said ∷ vote_for PreAccepting ∷ vote_for PreAccepting ∷ []) (decision.Accepting edit)
    ∷ recover Rust acks12 (nothing_said ∷ vote_for PreAccepting ∷ null ∷ []) (decision.PreAccepting edit)
    ∷ recover Paper acks12 (nothing_said ∷ vote_for PreAccepting ∷ null ∷ []) (decision.Accepting edit)
    ∷ recover Rust acks12 (nothing_said ∷ vote_for Committed ∷ vote Committed 6 [] (put 5 ∷ []) ∷ []) (decision.Committed (contents 6 [] (put 5 ∷ [])))
    ∷ recover Paper acks12 (nothing_said ∷ vote_for Committed ∷ vote Committed 6 [] (put 5 ∷ []) ∷ []) (decision.Committed (contents 6 [] (put 5 ∷ [])))
    ∷ recover Rust acks12 (nothing_said ∷ vote PreAccepting 4 [] (put 256 ∷ []) ∷ null ∷ []) (decision.Refused 5)
    ∷ pre_accepts 0 1 []
    ∷ pre_accepts 1 2 (column 0 ∷ [])
    ∷ []
