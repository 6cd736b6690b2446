-- Equality of kinds and requests: the tests say so exactly. And the test of batches is an equivalence, as the trait of `==` asks.
use mathlib.Core.Path.{◌≡◌, refl, ap, sym, ◌∙◌}
use mathlib.Core.Bool.{true, true≢false}
use Prim.Native.Nat.{ℕ, min}
use native.Mathlib.Omega.{arith}
use borrow.Author.Tests.{eqb-true, eq-eqb}
use lib.Dec.{eqb}
use Rattle.std.specs.Cmp.{IsEquivalence, both_ways, equiv}
use Rattle.base.proofs.Loops.{all_at, all_each, both_true}
use Rattle.deps.specs.Batches.{request, same_kind, same_request, same_at, same_batch}
use Rattle.deps.specs.declared.batches.Kind.{Kind}
use Rattle.deps.specs.declared.batches.Kind.TheVariants.{Other, Put, Get}
use Rattle.deps.specs.declared.batches.Request.{Request}
use Rattle.deps.specs.declared.batches.Batch.{Batch}

pub same_kinds : (k l : Kind) → same_kind k l ≡ true → k ≡ l
same_kinds Other Other e = refl
same_kinds Other (Put l w) e = absurd (true≢false (sym e))
same_kinds Other (Get l) e = absurd (true≢false (sym e))
same_kinds (Put k v) Other e = absurd (true≢false (sym e))
same_kinds (Put k v) (Put l w) e =
    let p = both_true (eqb k l) (eqb v w) e in
    rw (eqb-true k l p.0, eqb-true v w p.1)
same_kinds (Put k v) (Get l) e = absurd (true≢false (sym e))
same_kinds (Get k) Other e = absurd (true≢false (sym e))
same_kinds (Get k) (Put l w) e = absurd (true≢false (sym e))
same_kinds (Get k) (Get l) e = ap Get (eqb-true k l e)

pub kind_itself : (k : Kind) → same_kind k k ≡ true
kind_itself Other = refl
kind_itself (Put k v) = rw (eq-eqb k k refl, eq-eqb v v refl)
kind_itself (Get k) = eq-eqb k k refl

abbrev made : ℕ → ℕ → Kind → Request
made client id kind = record { client = client; id = id; kind = kind }

pub same_requests : (p q : Request) → same_request p q ≡ true → p ≡ q
unfolding same_request
same_requests p q e =
    let s = both_true _ _ e in
    let t = both_true _ _ s.1 in
    let c : p.client ≡ q.client = eqb-true _ _ s.0 in
    let i : p.id ≡ q.id = eqb-true _ _ t.0 in
    let k : p.kind ≡ q.kind = same_kinds _ _ t.1 in
    let r : made p.client p.id p.kind ≡ made q.client q.id q.kind = rw (c, i, k) in
    r

pub request_itself : (p : Request) → same_request p p ≡ true
unfolding same_request
request_itself p = rw (eq-eqb p.client p.client refl, eq-eqb p.id p.id refl, kind_itself p.kind)

-- so they are equivalences, whatever the batches hold
pub sym_requests : (p q : Request) → same_request p q ≡ true → same_request q p ≡ true
sym_requests p q e = rw (same_requests p q e) (request_itself q)

pub trans_requests : (p q r : Request) → same_request p q ≡ true → same_request q r ≡ true → same_request p r ≡ true
trans_requests p q r e f = rw (same_requests p q e) f

pub batch_itself : (a : Batch) → same_batch a a ≡ true
unfolding same_batch
batch_itself a = rw (eq-eqb a.count a.count refl, all_each (same_at a a) (min a.count 4) (λ i h. request_itself (request a i)))

pub sym_batches : (a b : Batch) → same_batch a b ≡ true → same_batch b a ≡ true
unfolding same_batch
sym_batches a b e =
    let s = both_true _ _ e in
    let n : a.count ≡ b.count = eqb-true _ _ s.0 in
    rw (eq-eqb b.count a.count (sym n), all_each (same_at b a) (min b.count 4) (λ i h. sym_requests _ _ (all_at (same_at a b) _ s.1 i (omega arith))))

pub trans_batches : (a b d : Batch) → same_batch a b ≡ true → same_batch b d ≡ true → same_batch a d ≡ true
unfolding same_batch
trans_batches a b d e f =
    let s = both_true _ _ e in
    let t = both_true _ _ f in
    let n : a.count ≡ b.count = eqb-true _ _ s.0 in
    let m : b.count ≡ d.count = eqb-true _ _ t.0 in
    rw (
      eq-eqb a.count d.count (n ∙ m),
      all_each (same_at a d) (min a.count 4)
          (λ i h. trans_requests (request a i) (request b i) (request d i) (all_at (same_at a b) _ s.1 i h) (all_at (same_at b d) _ t.1 i (omega arith))),
    )

-- in one
pub batches_alike : IsEquivalence same_batch
batches_alike = equiv (record { symm = λ a b. both_ways (same_batch a b) (same_batch b a) (sym_batches a b) (sym_batches b a); trans = trans_batches }) batch_itself
