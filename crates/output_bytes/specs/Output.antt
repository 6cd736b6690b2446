-- The output, 291 bytes: how many records, 1; two records of 145, each kind 1, peer 1, row 1, column 1, status 1, ballot asked with 8, ballot 8, contents 124.
use Rattle.std.specs.Prelude.{List, [], ◌∷◌, ◌++◌, ℕ, get_or}
use Rattle.base.specs.Status.{rank_of}
use Rattle.base.specs.declared.status.Status.{Status}
use Rattle.table.specs.declared.place.Place.{Place}
use Rattle.table.specs.Place.{place_of}
use Rattle.slots.specs.Slot.{blank_slot}
use Rattle.outcomes.specs.Output.{record_of}
use Rattle.outcomes.specs.declared.output.What.{What}
use Rattle.outcomes.specs.declared.output.What.TheVariants.{Nothing, Log, CommitNotice, PreAcceptReply, AcceptReply, ExpPrepareReply, NoteToSelf}
use Rattle.outcomes.specs.declared.output.Record.{Record}
use Rattle.outcomes.specs.declared.output.Output.{Output}
use Rattle.layout.specs.Numbers.{word_bytes}
use Rattle.slot_bytes.specs.Contents.{contents_bytes}
use Rattle.layout.specs.Numbers.{byte_for}

abbrev pub output_width : ℕ
output_width = 291

abbrev pub what_byte : What → ℕ
what_byte Nothing = 0
what_byte Log = 1
what_byte CommitNotice = 2
what_byte (PreAcceptReply to) = 3
what_byte (AcceptReply to) = 4
what_byte (ExpPrepareReply to asked) = 5
what_byte NoteToSelf = 6

-- the peer that a reply goes to; 0 where it is none
abbrev pub peer_of : What → ℕ
peer_of Nothing = 0
peer_of Log = 0
peer_of CommitNotice = 0
peer_of (PreAcceptReply to) = to
peer_of (AcceptReply to) = to
peer_of (ExpPrepareReply to asked) = to
peer_of NoteToSelf = 0

-- the ballot that an ExpPrepare asked with; 0 where there is none
abbrev pub asked_of : What → ℕ
asked_of Nothing = 0
asked_of Log = 0
asked_of CommitNotice = 0
asked_of (PreAcceptReply to) = 0
asked_of (AcceptReply to) = 0
asked_of (ExpPrepareReply to asked) = asked
asked_of NoteToSelf = 0

unfoldable pub tag_bytes : What → Place → Status → List ℕ
tag_bytes what at status =
    (what_byte what ∷ []) ++ byte_for (peer_of what) ++ byte_for at.row ++ byte_for at.col ++ (rank_of status ∷ [])

unfoldable pub record_bytes : Record → List ℕ
record_bytes r =
    tag_bytes r.what r.at r.status ++ word_bytes (asked_of r.what) ++ word_bytes r.ballot ++ contents_bytes r.seq r.deps r.batch

-- what is read past the records
abbrev pub blank_record : Record
blank_record = record_of Nothing (place_of 0 0) blank_slot

abbrev pub record_no : Output → ℕ → Record
record_no o i = get_or o.records i blank_record

unfoldable pub output_bytes : Output → List ℕ
output_bytes o = byte_for o.count ++ record_bytes (record_no o 0) ++ record_bytes (record_no o 1)
