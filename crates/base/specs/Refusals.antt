-- The numbers of the refusals, the limit of a sequence, and the first refusal of a list of tests.
use Rattle.std.specs.Prelude.{List, [], ◌∷◌, Bool, cond, ℕ, Result, Ok, Err}
use Rattle.base.specs.declared.refusals.Refusal.{Refusal}
use Rattle.base.specs.declared.refusals.Refusal.TheVariants.{OutsideBounds, NoReplica, NoColumn, BadDependency, BadBatch, OverLimit, NoSlot, ShortOrder, Cut, Unreadable, TooLong}

-- a configuration or table outside the bounds, or a bar past its row's slots
abbrev pub outside_bounds : ℕ
outside_bounds = 1

-- a peer, row, reply, vote, ack or silent replica at N or more
abbrev pub no_replica : ℕ
no_replica = 2

-- a column 32 or more
abbrev pub no_column : ℕ
no_column = 3

-- a dependency at column 32 or more, or in a row N or more
abbrev pub bad_dependency : ℕ
bad_dependency = 4

-- a batch over 4, or the key of a put or get above 255
abbrev pub bad_batch : ℕ
bad_batch = 5

-- a sequence, given or about to be stored, over the limit
abbrev pub over_limit : ℕ
over_limit = 6

-- a log event or Lead for a slot not in the table
abbrev pub no_slot : ℕ
no_slot = 7

-- an order list of fewer than 224 entries
abbrev pub short_order : ℕ
short_order = 8

-- a trace that ends inside a header or event
abbrev pub cut : ℕ
cut = 9

-- a trace number not in shortest form or over 64 bits, an unknown tag, kind or log status, or a batch count over 4
abbrev pub unreadable : ℕ
unreadable = 10

-- a trace over 65,536 bytes
abbrev pub too_long : ℕ
too_long = 11

-- the limit of a sequence
abbrev pub sequence_limit : ℕ
sequence_limit = 4294967295

-- tests in their order, each with the number of its refusal; the first that fails gives its own, and 0 is none
unfoldable pub first_refusal : List (Bool × ℕ) → ℕ
first_refusal [] = 0
first_refusal ((ok, number) ∷ rest) = cond ok (first_refusal rest) number

abbrev pub refusal_number : Refusal → ℕ
refusal_number OutsideBounds = outside_bounds
refusal_number NoReplica = no_replica
refusal_number NoColumn = no_column
refusal_number BadDependency = bad_dependency
refusal_number BadBatch = bad_batch
refusal_number OverLimit = over_limit
refusal_number NoSlot = no_slot
refusal_number ShortOrder = short_order
refusal_number Cut = cut
refusal_number Unreadable = unreadable
refusal_number TooLong = too_long

-- the number that a test answers, 0 where nothing is refused
abbrev pub refused_number : {A : Type 0} → Result A Refusal → ℕ
refused_number (Ok _) = 0
refused_number (Err refusal) = refusal_number refusal
