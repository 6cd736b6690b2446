-- Laws of batches: what a batch holds, when it is within the bounds, and what equal batches have in common.
use mathlib.Core.Path.{◌≡◌, refl, ap, sym, ◌∙◌}
use mathlib.Core.List.Memᴰ
use mathlib.Core.List.{List, [], ◌∷◌, ◌++◌, flat_map, Memᴰ}
use mathlib.Core.Logic.{⊎_elim}
use mathlib.Core.Bool.{Bool, true}
use Prim.Native.Nat.{ℕ, suc, zero, ◌<◌, ◌≤◌, min}
use native.Mathlib.Omega.{arith}
use borrow.Author.Tests.{lt-ltb, le-leb, leb-true, eqb-true, eq-eqb}
use lib.ListN.{length, get_or, length-take}
use lib.Seq.{take-append_seam, take-suc-set, get_or-take, ext_get_or}
use Rattle.deps.specs.Batches.{no_request, batch_of, present, request, with_request, kind_fits, request_fits, batch_fits, named, key_named, named_keys, same_request, same_at, same_batch}
use Rattle.deps.specs.Equal.{same_requests, request_itself}
pub use Rattle.deps.specs.Equal.{batch_itself, sym_batches, trans_batches}
use Rattle.deps.specs.declared.batches.Kind.{Kind}
use Rattle.deps.specs.declared.batches.Kind.TheVariants.{Other, Put, Get}
use Rattle.deps.specs.declared.batches.Request.{Request}
use Rattle.deps.specs.declared.batches.Batch.{Batch}
use Rattle.base.proofs.Loops.{all_at, all_each, both_true}
use Rattle.base.proofs.Chains.{all_same, all_listed, all_pointwise}
use lib.Pointwise.{pointwise}
use Rattle.base.specs.Below.{all_below}
use Rattle.std.specs.List.{list_all}

pub held_number : (b : Batch) → length b.reqs ≡ 4 → length (present b) ≡ min b.count 4
held_number b l = rw (length-take, l)

-- ---- what a batch holds

pub batch_of_holds : (l : List Request) → present (batch_of l) ≡ l
batch_of_holds l = take-append_seam l _

pub with_holds : (b : Batch) (q : Request) → length b.reqs ≡ 4 → b.count < 4 → present (with_request b q) ≡ present b ++ (q ∷ [])
unfolding with_request
with_holds b q l h = rw (lt-ltb b.count 4 h) (take-suc-set b.reqs b.count q (omega arith))

-- ---- refusal 5 exactly when

kind_fits_key : (kind : Kind) (key : ℕ) → kind_fits kind ≡ true → Memᴰ key (named kind) → key ≤ 255
kind_fits_key Other key h m = absurd (Memᴰ.not-nil m)
kind_fits_key (Put k v) key h m = rw (Memᴰ.eq_of_singleton m) (leb-true k 255 h)
kind_fits_key (Get k) key h m = rw (Memᴰ.eq_of_singleton m) (leb-true k 255 h)

key_fits_kind : (kind : Kind) → ((key : ℕ) → Memᴰ key (named kind) → key ≤ 255) → kind_fits kind ≡ true
key_fits_kind Other h = refl
key_fits_kind (Put k v) h = le-leb k 255 (h k (Memᴰ.head refl))
key_fits_kind (Get k) h = le-leb k 255 (h k (Memᴰ.head refl))

abbrev fits_at : List Request → ℕ → Bool
fits_at l i = kind_fits (get_or l i no_request).kind

fit_named : (l : List Request) (key : ℕ) → ((i : ℕ) → i < length l → fits_at l i ≡ true) → Memᴰ key (flat_map key_named l) → key ≤ 255
unfolding flat_map
fit_named [] key h m = absurd (Memᴰ.not-nil m)
fit_named (q ∷ l) key h m =
    ⊎_elim
    (λ (e : Memᴰ key (key_named q)). kind_fits_key q.kind key (h 0 (omega arith)) e)
    (λ (e : Memᴰ key (flat_map key_named l)). fit_named l key (λ i lt. h (suc i) (omega arith)) e)
    (Memᴰ.append_cases (key_named q) m)

named_fit_lem : (l : List Request) → ((key : ℕ) → Memᴰ key (flat_map key_named l) → key ≤ 255) → (i : ℕ) → i < length l → fits_at l i ≡ true
unfolding flat_map
named_fit_lem [] h i lt = absurd (omega arith)
named_fit_lem (q ∷ l) h zero lt = key_fits_kind q.kind (λ key m. h key (Memᴰ.append_left (flat_map key_named l) m))
named_fit_lem (q ∷ l) h (suc i) lt = named_fit_lem l (λ key m. h key (Memᴰ.append_right (key_named q) m)) i (omega arith)

pub batch_fits_each : (b : Batch) → length b.reqs ≡ 4 → batch_fits b ≡ true → (b.count ≤ 4) × ((key : ℕ) → Memᴰ key (named_keys b) → key ≤ 255)
unfolding batch_fits
batch_fits_each b l h =
    let s = both_true _ _ h in
    (leb-true _ _ s.0, λ key m. fit_named (present b) key (λ i lt. rw (get_or-take b.count b.reqs i no_request (omega (arith, held_number b l))) (all_at (request_fits b) _ s.1 i (omega (arith, held_number b l)))) m)

pub each_batch_fits : (b : Batch) → length b.reqs ≡ 4 → b.count ≤ 4 → ((key : ℕ) → Memᴰ key (named_keys b) → key ≤ 255) → batch_fits b ≡ true
unfolding batch_fits
each_batch_fits b l n h =
    rw (le-leb b.count 4 n, all_each (request_fits b) b.count (λ i lt. rw (← get_or-take b.count b.reqs i no_request lt) (named_fit_lem (present b) h i (omega (arith, held_number b l)))))

-- a chain over the requests that it holds tests as many
pub present_fit : (b : Batch) → b.count ≤ length b.reqs → list_all (λ (q : Request). kind_fits q.kind) (present b) ≡ all_below b.count (request_fits b)
present_fit b h =
    let l : length (present b) ≡ b.count = omega (arith, length-take b.count b.reqs) in
    all_listed (λ (q : Request). kind_fits q.kind) (present b) no_request
    ∙ rw l (all_same _ (request_fits b) b.count (λ i k. ap (λ (q : Request). kind_fits q.kind) (get_or-take b.count b.reqs i no_request k)))

-- ---- equality of batches: the tests say so exactly

pub same_batches : (a b : Batch) → length a.reqs ≡ 4 → length b.reqs ≡ 4 → same_batch a b ≡ true → (a.count ≡ b.count) × (present a ≡ present b)
unfolding same_batch
same_batches a b la lb e =
    let s = both_true _ _ e in
    let n : a.count ≡ b.count = eqb-true _ _ s.0 in
    let ha = held_number a la in
    let hb = held_number b lb in (
      n,
      ext_get_or no_request (present a) (present b) (omega arith)
          (λ i h. get_or-take a.count a.reqs i no_request (omega arith)
          ∙ same_requests _ _ (all_at (same_at a b) _ s.1 i (omega arith))
          ∙ sym (get_or-take b.count b.reqs i no_request (omega arith))),
    )

pub batches_same : (a b : Batch) → length a.reqs ≡ 4 → length b.reqs ≡ 4 → a.count ≡ b.count → present a ≡ present b → same_batch a b ≡ true
unfolding same_batch
batches_same a b la lb n e =
    rw (eq-eqb a.count b.count n, all_each (same_at a b) (min a.count 4) (λ i h. rw (← at i (omega (arith, held_number a la))) (request_itself (request a i))))
  where
    at : (i : ℕ) → i < length (present a) → request a i ≡ request b i
    at i h =
        let ha = held_number a la in
        sym (get_or-take a.count a.reqs i no_request (omega arith)) ∙ ap (λ (l : List Request). get_or l i no_request) e ∙ get_or-take b.count b.reqs i no_request (omega arith)

-- the test says what `==` of the requests that they hold says, by a test of requests that says what `same_request` says
pub present_same : (eq : Request → Request → Bool) → ((p q : Request) → eq p q ≡ same_request p q) → (a b : Batch) → length a.reqs ≡ 4 → length b.reqs ≡ 4 → a.count ≡ b.count → pointwise eq (present a) (present b) ≡ same_batch a b
unfolding same_batch
present_same eq h a b la lb n =
    let ha = held_number a la in
    let hb = held_number b lb in
    all_pointwise eq same_request h (present a) (present b) no_request (omega arith)
    ∙ rw (ha, eq-eqb a.count b.count n)
    (all_same _ (same_at a b) (min a.count 4) (λ i l. rw (get_or-take a.count a.reqs i no_request (omega arith), get_or-take b.count b.reqs i no_request (omega arith)) refl))
