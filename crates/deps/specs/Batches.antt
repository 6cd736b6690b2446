-- Requests and batches.
use mathlib.Core.List.{List, [], ◌∷◌, ◌++◌, flat_map}
use Rattle.std.specs.Prelude.{Bool, true, false, cond, ◌&&◌, ltb, leb, eqb, ℕ, suc, ◌-◌, min, length, take, replicate, get_or, set}
use Rattle.base.specs.Below.{all_below}
use Rattle.deps.specs.declared.batches.Kind.{Kind}
use Rattle.deps.specs.declared.batches.Kind.TheVariants.{Other, Put, Get}
use Rattle.deps.specs.declared.batches.Request.{Request}
use Rattle.deps.specs.declared.batches.Batch.{Batch}

abbrev pub no_request : Request
no_request = record { client = 0; id = 0; kind = Other }

-- the batch of these requests, at most 4
abbrev pub batch_of : List Request → Batch
batch_of l = record { count = length l; reqs = l ++ replicate (4 - length l) no_request }

abbrev pub no_op : Batch
no_op = batch_of []

-- the requests that a batch has: what stands past its count is nobody's
abbrev pub present : Batch → List Request
present b = take b.count b.reqs

abbrev pub request : Batch → ℕ → Request
request b i = get_or b.reqs i no_request

-- one request more, where there is room
unfoldable pub with_request : Batch → Request → Batch
with_request b q = cond (ltb b.count 4) (record { count = suc b.count; reqs = set b.reqs b.count q }) b

-- within the bounds: at most 4 requests, no key of a put or get above 255; else refusal 5
abbrev pub kind_fits : Kind → Bool
kind_fits Other = true
kind_fits (Put key value) = leb key 255
kind_fits (Get key) = leb key 255

abbrev pub request_fits : Batch → ℕ → Bool
request_fits b i = kind_fits (request b i).kind

unfoldable pub batch_fits : Batch → Bool
batch_fits b = leb b.count 4 && all_below b.count (request_fits b)

-- equal requests: client, id and kind, of which other has no more to compare
abbrev pub same_kind : Kind → Kind → Bool
same_kind Other Other = true
same_kind Other (Put l w) = false
same_kind Other (Get l) = false
same_kind (Put k v) Other = false
same_kind (Put k v) (Put l w) = eqb k l && eqb v w
same_kind (Put k v) (Get l) = false
same_kind (Get k) Other = false
same_kind (Get k) (Put l w) = false
same_kind (Get k) (Get l) = eqb k l

unfoldable pub same_request : Request → Request → Bool
same_request p q = eqb p.client q.client && (eqb p.id q.id && same_kind p.kind q.kind)

abbrev pub same_at : Batch → Batch → ℕ → Bool
same_at a b i = same_request (request a i) (request b i)

-- equal batches: the count and the requests present, of which there are no more than 4
unfoldable pub same_batch : Batch → Batch → Bool
same_batch a b = eqb a.count b.count && all_below (min a.count 4) (same_at a b)

-- the key that a put or get names
abbrev pub named : Kind → List ℕ
named Other = []
named (Put key value) = key ∷ []
named (Get key) = key ∷ []

abbrev pub key_named : Request → List ℕ
key_named q = named q.kind

-- the keys of all puts and gets
abbrev pub named_keys : Batch → List ℕ
named_keys b = flat_map key_named (present b)
