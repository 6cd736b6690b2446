-- Requests and batches in bytes: how long they are, and that they read back.
use mathlib.Core.Path.{◌≡◌, refl}
use mathlib.Core.List.{List, ◌++◌}
use Prim.Native.Nat.{ℕ, ◌+◌, ◌*◌, ◌<◌, min}
use native.Mathlib.Omega.{arith}
use lib.ListN.{length, get_or, drop, length-append}
use lib.Seq.{drop-drop, get_or-drop}
use Rattle.deps.specs.Batches.{no_request, request}
use Rattle.deps.specs.declared.batches.Kind.{Kind}
use Rattle.deps.specs.declared.batches.Kind.TheVariants.{Other, Put, Get}
use Rattle.deps.specs.declared.batches.Request.{Request}
use Rattle.deps.specs.declared.batches.Batch.{Batch}
use Rattle.layout.specs.Numbers.{word_of, short_of, number_bytes}
use Rattle.layout.specs.Each.{each_at, each_bytes}
use Rattle.layout.specs.Batches.{kind_of, kind_byte, key_of, value_of, request_at, request_bytes, request_in, batch_at, batch_bytes, RequestFits, BatchFits}
use Rattle.layout.proofs.NumberLaws.{word_back, short_back, number_length}
use Rattle.layout.proofs.EachLaws.{bytes_length, each_back, each_length}

-- ---- requests

pub request_length : (q : Request) → length (request_bytes q) ≡ 27
unfolding request_bytes
request_length q = simp (length-append, number_length)

pub request_is : (l : List ℕ) (at client id key value b : ℕ) (k : Kind) → client ≡ word_of (drop at l) → id ≡ word_of (drop (at + 8) l) → key ≡ short_of (drop (at + 17) l)
    → value ≡ word_of (drop (at + 19) l) → b ≡ get_or l (at + 16) 0 → k ≡ kind_of b key value → ◌≡◌ {A = Request} (record { client = client; id = id; kind = k }) (request_at (drop at l))
unfolding request_at
request_is l at client id key value b k e₁ e₂ e₃ e₄ e₅ e₆ = simp (e₁, e₂, e₆, e₃, e₄, e₅, drop-drop, get_or-drop)

kind_back : (k : Kind) → kind_of (kind_byte k) (key_of k) (value_of k) ≡ k
kind_back Other = refl
kind_back (Put key value) = refl
kind_back (Get key) = refl

pub kind_below : (k : Kind) → kind_byte k < 3
kind_below Other = omega arith
kind_below (Put key value) = omega arith
kind_below (Get key) = omega arith

pub request_back : (q : Request) (r : List ℕ) → RequestFits q → request_at (request_bytes q ++ r) ≡ q
unfolding request_at request_bytes number_bytes
request_back q r g =
    let e₁ = word_back q.client (drop 8 (request_bytes q ++ r)) g.client in
    let e₂ = word_back q.id (drop 16 (request_bytes q ++ r)) g.id in
    let e₃ = short_back (key_of q.kind) (drop 19 (request_bytes q ++ r)) g.key in
    let e₄ = word_back (value_of q.kind) r g.value in
    rw (e₁, e₂, e₃, e₄, kind_back q.kind)

-- ---- batches

pub four_length : (b : Batch) → length (each_bytes (request_in b) 4) ≡ 108
four_length b = bytes_length (request_in b) 27 (λ i. request_length (request b i)) 4

pub batch_length : (b : Batch) → length (batch_bytes b) ≡ 109
unfolding batch_bytes
batch_length b = rw (length-append, four_length b)

pub batch_is : (l : List ℕ) (at count : ℕ) (q : List Request) → count ≡ get_or l at 0 → q ≡ each_at request_at 27 4 (drop (at + 1) l)
    → ◌≡◌ {A = Batch} (record { count = count; reqs = q }) (batch_at (drop at l))
unfolding batch_at
batch_is l at count q e₁ e₂ =
    let z : at + 0 ≡ at = omega arith in
    simp (e₁, e₂, drop-drop, get_or-drop, z)

pub batch_back : (b : Batch) (r : List ℕ) → BatchFits b → batch_at (batch_bytes b ++ r) ≡ b
unfolding batch_at batch_bytes
batch_back b r g =
    let e₁ : min b.count 255 ≡ b.count = omega (arith, g.count) in
    let e₂ = each_back (request_in b) 27 (λ i. request_length (request b i)) request_at 4 b.reqs no_request r g.four (λ i t p. request_back (request b i) t (g.each i p)) in
    rw (e₁, e₂)

-- what is read has four requests
pub reqs_length : (l : List ℕ) → length (batch_at l).reqs ≡ 4
unfolding batch_at
reqs_length l = each_length request_at 27 4 (drop 1 l)

-- where a batch has a request
pub request_place : (s : List ℕ) (at i : ℕ) → drop (at + 1 + 27 * i) s ≡ drop (1 + 27 * i) (drop at s)
request_place s at i =
    let e : at + 1 + 27 * i ≡ at + (1 + 27 * i) = omega arith in
    rw (drop-drop, e)
