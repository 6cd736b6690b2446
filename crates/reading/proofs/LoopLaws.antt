-- One turn of the loops that read dependencies and requests: what is left to read, over what is read.
use mathlib.Core.Path.{◌≡◌, refl, ap, sym, ◌∙◌}
use mathlib.Core.List.{List, [], ◌∷◌, map, foldl}
use Prim.Native.Nat.{ℕ, zero, suc, ◌+◌, ◌-◌, ◌<◌, ◌≤◌}
use native.Mathlib.Numerals.{add-one}
use native.Mathlib.Omega.{arith}
use lib.ListN.{length, replicate, set}
use lib.Seq.{sets}
use Rattle.deps.specs.Batches.{no_op, batch_of, with_request}
use Rattle.deps.specs.declared.batches.Request.{Request}
use Rattle.deps.specs.declared.batches.Batch.{Batch}
use Rattle.std.specs.Prelude.{Result, Ok, Err}
use Rattle.std.specs.Result.{IsErrAnd}
use Rattle.std.specs.Borrow.{Bor}
use Rattle.base.specs.declared.refusals.Refusal.{Refusal}
use Rattle.deps.specs.declared.sets.DepSet.{DepSet}
use Rattle.groups.specs.Numbers.{Cursor}
use Rattle.groups.specs.Cursor.{number_from, numbers_from}
use Rattle.groups.specs.Told.{standing, Took}
use Rattle.groups.specs.declared.cursor.Cursor as Reader
use Rattle.groups.proofs.ReadLaws.{numbers_stay_stopped}
use Rattle.groups.proofs.ToldLaws.{refusal_some, handed_on}
use Rattle.reading.specs.Fields.{set_from}
use Rattle.reading.specs.Batches.{request_from, requests_from}
use Rattle.reading.specs.Held.{held_dep, held_set, held_request, held_batch}
use Rattle.reading.proofs.KeepLaws.{requests_stopped}

-- ---- dependencies

map_set : {A B : Type 0} (f : A → B) (l : List A) (i : ℕ) (a : A) → map f (set l i a) ≡ set (map f l) i (f a)
map_set f [] i a = refl
map_set f (b ∷ l) zero a = refl
map_set f (b ∷ l) (suc i) a = ap (λ m. f b ∷ m) (map_set f l i a)

map_sets : {A B : Type 0} (f : A → B) (vs l : List A) (i : ℕ) → map f (sets l i vs) ≡ sets (map f l) i (map f vs)
map_sets f [] l i = refl
map_sets f (v ∷ vs) l i = map_sets f vs (set l i v) (suc i) ∙ ap (λ m. sets m (suc i) (map f vs)) (map_set f l i v)

-- so many dependencies are left, to be written over cols from a row on
abbrev deps_left : ℕ → List ℕ → Cursor → List ℕ → ℕ → List ℕ
deps_left left s c cols row = sets cols row (map held_dep (numbers_from left s c).values)

-- rows of a set were read from a cursor, and none was refused
pub record SetTo (n : ℕ) (c : Reader.Cursor) (cols : List ℕ) (row : ℕ) (now : Reader.Cursor) : Type 0 where
  pub trace : now.trace ≡ c.trace
  pub going : (standing now.place).refusal ≡ 0
  pub left : deps_left (n - row) c.trace.now (standing now.place) cols row ≡ deps_left n c.trace.now (standing c.place) (replicate 7 0) 0
  pub next : (numbers_from (n - row) c.trace.now (standing now.place)).cursor ≡ (numbers_from n c.trace.now (standing c.place)).cursor

module _ (n : ℕ) (c : Reader.Cursor) (cols : List ℕ) (row : ℕ) (now last : Reader.Cursor) (w : SetTo n c cols row now) where
  row_trace : now.trace.now ≡ c.trace.now
  row_trace = ap (λ (b : Bor (List ℕ)). b.now) w.trace

  module _ (h : row < n) where
    row_left : n - row ≡ suc (n - (row + 1))
    row_left = omega arith

    pub row_read : (number : ℕ) → Took now (Ok number) last (number_from now.trace.now (standing now.place)).value (number_from now.trace.now (standing now.place)).cursor
        → SetTo n c (set cols row (held_dep number)) (row + 1) last
    unfolding numbers_from
    row_read number t =
        let told = rw row_trace at t.told.0 in
        let place = rw row_trace at t.place in
        record {
          trace = t.trace ∙ w.trace;
          going = ap (λ (x : Cursor). x.refusal) t.place ∙ t.told.1;
          left =
              let x = number_from c.trace.now (standing now.place) in
              rw (place, told)
              (ap (λ (k : ℕ). sets (set cols row (held_dep x.value)) k (map held_dep (numbers_from (n - (row + 1)) c.trace.now x.cursor).values)) (add-one row)
              ∙ rw row_left at w.left);
          next = rw place (rw row_left at w.next);
        }

    pub row_refused : (e : Refusal) → Took {A = ℕ} now (Err e) last (number_from now.trace.now (standing now.place)).value (number_from now.trace.now (standing now.place)).cursor
        → (r : Result DepSet Refusal) → IsErrAnd r (λ x. x ≡ e)
        → Took c r last (held_set (set_from n c.trace.now (standing c.place)).set) (set_from n c.trace.now (standing c.place)).cursor
    unfolding set_from numbers_from
    row_refused e t r k =
        let place = rw row_trace at t.place in
        let told = rw row_trace at t.told in
        let still = numbers_stay_stopped (n - (row + 1)) c.trace.now (number_from c.trace.now (standing now.place)).cursor (λ z. omega (arith, told, refusal_some e)) in
        let all : (numbers_from n c.trace.now (standing c.place)).cursor ≡ (number_from c.trace.now (standing now.place)).cursor
        = sym w.next ∙ rw row_left still in
        rw (handed_on r e k, all) (record { trace = t.trace ∙ w.trace; place = place; told = told })

  pub rows_read : n ≤ row → Took c (Ok (record { cols = cols })) now (held_set (set_from n c.trace.now (standing c.place)).set) (set_from n c.trace.now (standing c.place)).cursor
  unfolding set_from numbers_from
  rows_read h =
      let g : n - row ≡ 0 = omega arith in
      let all = sym (map_sets held_dep (numbers_from n c.trace.now (standing c.place)).values (replicate 7 0) 0) in
      let p : cols ≡ map held_dep (sets (replicate 7 0) 0 (numbers_from n c.trace.now (standing c.place)).values) = rw g at w.left ∙ all in
      let q : standing now.place ≡ (numbers_from n c.trace.now (standing c.place)).cursor = rw g at w.next in
      rw (← p, ← q) (record { trace = w.trace; place = refl; told = (refl, w.going) })

-- ---- requests

-- so many requests are left, to be added to a batch
abbrev with_left : ℕ → List ℕ → Cursor → Batch → Batch
with_left left s c b = foldl with_request b (map held_request (requests_from left s c).requests)

-- requests of a batch were read from a cursor, and none was refused
pub record BatchTo (many : ℕ) (c : Reader.Cursor) (batch : Batch) (i : ℕ) (now : Reader.Cursor) : Type 0 where
  pub trace : now.trace ≡ c.trace
  pub going : (standing now.place).refusal ≡ 0
  pub left : with_left (many - i) c.trace.now (standing now.place) batch ≡ with_left many c.trace.now (standing c.place) no_op
  pub next : (requests_from (many - i) c.trace.now (standing now.place)).cursor ≡ (requests_from many c.trace.now (standing c.place)).cursor

pub requests_length : (many : ℕ) (s : List ℕ) (c : Cursor) → length (requests_from many s c).requests ≡ many
unfolding requests_from
requests_length zero s c = refl
requests_length (suc many) s c = ap suc (requests_length many s (request_from s c).cursor)

-- at most four requests one after the other are the batch of them
all_added : (l : List Request) → length l ≤ 4 → foldl with_request no_op (map held_request l) ≡ held_batch (batch_of l)
unfolding with_request
all_added [] h = refl
all_added (a ∷ []) h = refl
all_added (a ∷ b ∷ []) h = refl
all_added (a ∷ b ∷ c ∷ []) h = refl
all_added (a ∷ b ∷ c ∷ d ∷ []) h = refl
all_added (a ∷ b ∷ c ∷ d ∷ e ∷ l) h = absurd (omega arith)

module _ (many : ℕ) (c : Reader.Cursor) (batch : Batch) (i : ℕ) (now last : Reader.Cursor) (w : BatchTo many c batch i now) where
  request_trace : now.trace.now ≡ c.trace.now
  request_trace = ap (λ (b : Bor (List ℕ)). b.now) w.trace

  module _ (h : i < many) where
    request_left : many - i ≡ suc (many - (i + 1))
    request_left = omega arith

    pub request_read : (request : Request)
        → Took now (Ok request) last (held_request (request_from now.trace.now (standing now.place)).request) (request_from now.trace.now (standing now.place)).cursor
        → BatchTo many c (with_request batch request) (i + 1) last
    unfolding requests_from
    request_read request t =
        let told = rw request_trace at t.told.0 in
        let place = rw request_trace at t.place in
        record {
          trace = t.trace ∙ w.trace;
          going = ap (λ (x : Cursor). x.refusal) t.place ∙ t.told.1;
          left = rw (place, told) (rw request_left at w.left);
          next = rw place (rw request_left at w.next);
        }

    pub request_refused : (e : Refusal)
        → Took {A = Request} now (Err e) last (held_request (request_from now.trace.now (standing now.place)).request) (request_from now.trace.now (standing now.place)).cursor
        → Took {A = Batch} c (Err e) last batch (requests_from many c.trace.now (standing c.place)).cursor
    unfolding requests_from
    request_refused e t =
        let place = rw request_trace at t.place in
        let told = rw request_trace at t.told in
        let still = requests_stopped c.trace.now (request_from c.trace.now (standing now.place)).cursor (λ z. omega (arith, told, refusal_some e)) (many - (i + 1)) in
        let all : (requests_from many c.trace.now (standing c.place)).cursor ≡ (request_from c.trace.now (standing now.place)).cursor
        = sym w.next ∙ rw request_left still in
        rw all (record { trace = t.trace ∙ w.trace; place = place; told = told })

  pub requests_read : many ≤ i → many ≤ 4
      → Took c (Ok batch) now (held_batch (batch_of (requests_from many c.trace.now (standing c.place)).requests)) (requests_from many c.trace.now (standing c.place)).cursor
  unfolding requests_from
  requests_read h m =
      let g : many - i ≡ 0 = omega arith in
      let l = (requests_from many c.trace.now (standing c.place)).requests in
      let p : batch ≡ held_batch (batch_of l) = rw g at w.left ∙ all_added l (omega (arith, requests_length many c.trace.now (standing c.place))) in
      let q : standing now.place ≡ (requests_from many c.trace.now (standing c.place)).cursor = rw g at w.next in
      rw (← p, ← q) (record { trace = w.trace; place = refl; told = (refl, w.going) })
