-- A request, 27 bytes: client 8, id 8, kind 1, key 2, value 8. A batch, 109: count 1, four requests.
use Rattle.std.specs.Prelude.{◌≡◌, List, [], ◌∷◌, ◌++◌, Bool, cond, ◌&&◌, ◌||◌, ℕ, ◌+◌, ◌*◌, ◌<◌, ◌≤◌, ◌^◌, min, eqb, length, get_or, drop}
use Rattle.base.specs.Below.{all_below}
use Rattle.deps.specs.Batches.{request}
use Rattle.deps.specs.declared.batches.Kind.{Kind}
use Rattle.deps.specs.declared.batches.Kind.TheVariants.{Other, Put, Get}
use Rattle.deps.specs.declared.batches.Request.{Request}
use Rattle.deps.specs.declared.batches.Batch.{Batch}
use Rattle.layout.specs.Numbers.{word_of, word_bytes, short_of, short_bytes, byte_of}
use Rattle.layout.specs.Each.{each_at, each_bytes}

-- 1 for a put, 2 for a get, 0 for other, as which every other byte is read
abbrev pub kind_of : ℕ → ℕ → ℕ → Kind
kind_of b key value = cond (eqb b 1) (Put key value) (cond (eqb b 2) (Get key) Other)

abbrev pub kind_byte : Kind → ℕ
kind_byte Other = 0
kind_byte (Put key value) = 1
kind_byte (Get key) = 2

-- 0 where the kind has none
abbrev pub key_of : Kind → ℕ
key_of Other = 0
key_of (Put key value) = key
key_of (Get key) = key

abbrev pub value_of : Kind → ℕ
value_of Other = 0
value_of (Put key value) = value
value_of (Get key) = 0

unfoldable pub request_at : List ℕ → Request
request_at l =
    record {
      client = word_of l;
      id = word_of (drop 8 l);
      kind = kind_of (get_or l 16 0) (short_of (drop 17 l)) (word_of (drop 19 l));
    }

unfoldable pub request_bytes : Request → List ℕ
request_bytes q =
    word_bytes q.client ++ word_bytes q.id ++ (kind_byte q.kind ∷ []) ++ short_bytes (key_of q.kind) ++ word_bytes (value_of q.kind)

unfoldable pub batch_at : List ℕ → Batch
batch_at l = record { count = byte_of l; reqs = each_at request_at 27 4 (drop 1 l) }

abbrev pub request_in : Batch → ℕ → List ℕ
request_in b i = request_bytes (request b i)

-- a count above 255 as 255
unfoldable pub batch_bytes : Batch → List ℕ
batch_bytes b = (min b.count 255 ∷ []) ++ each_bytes (request_in b) 4

-- where the kind has no key or value, those bytes are 0
abbrev pub kind_plain : ℕ → ℕ → ℕ → Bool
kind_plain b key value = eqb b 1 || (eqb value 0 && (eqb b 2 || eqb key 0))

unfoldable pub request_plain : List ℕ → Bool
request_plain l = kind_plain (get_or l 16 0) (short_of (drop 17 l)) (word_of (drop 19 l))

abbrev pub plain_at : List ℕ → ℕ → Bool
plain_at l i = request_plain (drop (1 + 27 * i) l)

unfoldable pub batch_plain : List ℕ → Bool
batch_plain l = all_below 4 (plain_at l)

-- what its bytes hold whole: words of 64 bits, keys of 16, a count of 8, four requests
pub record RequestFits (q : Request) : Type 0 where
  pub client : q.client < 256 ^ 8
  pub id : q.id < 256 ^ 8
  pub key : key_of q.kind < 256 ^ 2
  pub value : value_of q.kind < 256 ^ 8

pub record BatchFits (b : Batch) : Type 0 where
  pub count : b.count ≤ 255
  pub four : length b.reqs ≡ 4
  pub each : (i : ℕ) → i < 4 → RequestFits (request b i)
