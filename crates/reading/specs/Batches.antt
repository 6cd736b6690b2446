-- Requests and batches: a count of at most 4, and per request client, id, kind; key for a put and a get, value for a put.
use Rattle.std.specs.Prelude.{List, [], ◌∷◌, cond, ℕ, zero, suc, eqb}
use Rattle.deps.specs.Batches.{batch_of}
use Rattle.deps.specs.declared.batches.Batch.{Batch}
use Rattle.deps.specs.declared.batches.Kind.{Kind}
use Rattle.deps.specs.declared.batches.Kind.TheVariants.{Other, Put, Get}
use Rattle.deps.specs.declared.batches.Request.{Request}
use Rattle.groups.specs.Cursor.{Numbers, numbers_from, number_within}
use Rattle.groups.specs.Numbers.{Cursor}
use Rattle.reading.specs.Fields.{nth}

-- ---- what was read, and where it ends or what was refused

pub record KindRead : Type 0 where
  pub kind : Kind
  pub cursor : Cursor

pub record RequestRead : Type 0 where
  pub request : Request
  pub cursor : Cursor

pub record BatchRead : Type 0 where
  pub batch : Batch
  pub cursor : Cursor

-- ---- kinds: 0 other, 1 put, 2 get

abbrev pub get_in : Numbers → KindRead
get_in x = record { kind = Get (nth x 0); cursor = x.cursor }

abbrev pub put_in : Numbers → KindRead
put_in x = record { kind = Put (nth x 0) (nth x 1); cursor = x.cursor }

abbrev pub kind_by : ℕ → List ℕ → Cursor → KindRead
kind_by which s c =
    cond (eqb which 0) (record { kind = Other; cursor = c })
    (cond (eqb which 2) (get_in (numbers_from 1 s c)) (put_in (numbers_from 2 s c)))

unfoldable pub kind_from : List ℕ → Cursor → KindRead
kind_from s c = kind_by (number_within 0 2 s c).value s (number_within 0 2 s c).cursor

-- ---- requests

abbrev pub request_in : Numbers → KindRead → RequestRead
request_in x k = record { request = record { client = nth x 0; id = nth x 1; kind = k.kind }; cursor = k.cursor }

unfoldable pub request_from : List ℕ → Cursor → RequestRead
request_from s c = request_in (numbers_from 2 s c) (kind_from s (numbers_from 2 s c).cursor)

-- so many
pub record Requests : Type 0 where
  pub requests : List Request
  pub cursor : Cursor

unfoldable pub requests_from : ℕ → List ℕ → Cursor → Requests
requests_from zero s c = record { requests = []; cursor = c }
requests_from (suc many) s c =
    record {
      requests = (request_from s c).request ∷ (requests_from many s (request_from s c).cursor).requests;
      cursor = (requests_from many s (request_from s c).cursor).cursor;
    }

-- ---- a batch

abbrev pub batch_in : Requests → BatchRead
batch_in x = record { batch = batch_of x.requests; cursor = x.cursor }

unfoldable pub batch_from : List ℕ → Cursor → BatchRead
batch_from s c = batch_in (requests_from (number_within 0 4 s c).value s (number_within 0 4 s c).cursor)
