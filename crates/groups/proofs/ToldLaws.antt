-- What each return of the functions over a cursor says.
use mathlib.Core.Path.{◌≡◌, refl, ap, sym, ◌∙◌}
use mathlib.Core.List.{List, ◌++◌, append-nil, append_assoc}
use Prim.Native.Nat.{ℕ, suc, ◌+◌, ◌-◌, ◌<◌, ◌≤◌}
use native.Mathlib.Omega.{arith}
use native.Mathlib.Numerals.{add-one}
use lib.ListN.{length, take, set, length-set}
use lib.Seq.{take_all, take-suc-set}
use Rattle.std.specs.Prelude.{Result, Ok, Err}
use Rattle.std.specs.Borrow.{Bor}
use Rattle.std.specs.Result.{IsErrAnd}
use Rattle.std.proofs.lemmas.Result.{err_from_is_err_and}
use Rattle.base.specs.Refusals.{refusal_number}
use Rattle.base.specs.declared.refusals.Refusal.{Refusal}
use Rattle.base.specs.declared.refusals.Refusal.TheVariants.{OutsideBounds, NoReplica, NoColumn, BadDependency, BadBatch, OverLimit, NoSlot, ShortOrder, Cut, Unreadable, TooLong}
use Rattle.groups.specs.Numbers.{Cursor, Number, read, stopped, number_at}
use Rattle.groups.specs.Cursor.{number_from, Numbers, numbers_from}
use Rattle.groups.specs.Told.{standing, Took}
use Rattle.groups.specs.declared.cursor.Cursor as Reader
use Rattle.groups.proofs.CursorLaws.{from_place}
use Rattle.groups.proofs.ReadLaws.{numbers_stay_stopped}

-- each refusal has a number, and 0 is none
pub refusal_some : (r : Refusal) → 0 < refusal_number r
refusal_some OutsideBounds = omega arith
refusal_some NoReplica = omega arith
refusal_some NoColumn = omega arith
refusal_some BadDependency = omega arith
refusal_some BadBatch = omega arith
refusal_some OverLimit = omega arith
refusal_some NoSlot = omega arith
refusal_some ShortOrder = omega arith
refusal_some Cut = omega arith
refusal_some Unreadable = omega arith
refusal_some TooLong = omega arith

-- a refusal that `?` hands on is the same
pub handed_on : {A : Type 0} (r : Result A Refusal) (e : Refusal) → IsErrAnd r (λ x. x ≡ e) → r ≡ Err e
handed_on r e h = let p = err_from_is_err_and r h in p.1 ∙ ap (λ (x : Refusal). Err x) p.2

-- the cursor that met it stays there, and it is told of all that was to be read
module _ {B : Type 0} {before now : Reader.Cursor} {e : Refusal} {part : B} {d : Cursor} (t : Took {A = B} before (Err e) now part d) where
  pub was_refused : d.refusal ≡ 0 → ⊥
  was_refused z = omega (arith, t.told, refusal_some e)

  pub passed_on : {A : Type 0} (r : Result A Refusal) {value : A} {next : Cursor} → IsErrAnd r (λ x. x ≡ e) → next ≡ d → Took before r now value next
  passed_on r h f = rw (handed_on r e h, f) (record { trace = t.trace; place = t.place; told = t.told })

-- what the exits of functions over a cursor take
pub ruleset hands_on = (passed_on, was_refused)

-- what is read after other things, said of the cursor before them
pub then_took : {A B : Type 0} {first now last : Reader.Cursor} {a v : A} {d : Cursor} {r : Result B Refusal} (value : List ℕ → Cursor → B) (next : List ℕ → Cursor → Cursor)
    → Took first (Ok a) now v d → Took now r last (value now.trace.now (standing now.place)) (next now.trace.now (standing now.place))
    → Took first r last (value first.trace.now d) (next first.trace.now d)
then_took {first = first} {now = now} {last = last} {r = r} value next p q =
    let f : now.trace.now ≡ first.trace.now = ap (λ (b : Bor (List ℕ)). b.now) p.trace in
    let t = rw (f, p.place) at q in
    record { trace = q.trace ∙ p.trace; place = t.place; told = t.told }

-- ---- one number

module _ (c : Reader.Cursor) where
  -- a refused cursor refuses all that leaves a refused one as it is
  pub place_refused : {A : Type 0} {value : A} {next : Cursor} (e : Refusal) → c.place ≡ Err e → (r : Result A Refusal) → IsErrAnd r (λ x. x ≡ e)
      → (((standing c.place).refusal ≡ 0 → ⊥) → next ≡ standing c.place) → Took c r c value next
  place_refused e f r h k =
      let g : (standing c.place).refusal ≡ refusal_number e = ap (λ (p : Result ℕ Refusal). (standing p).refusal) f in
      rw (handed_on r e h, k (λ z. omega (arith, refusal_some e, g))) (record { trace = refl; place = refl; told = g })

  module _ (at : ℕ) (f : c.place ≡ Ok at) where
    from_there : (n : Number) → n ≡ number_at c.trace.now at → number_from c.trace.now (standing c.place) ≡ n
    from_there n h = rw f (sym (from_place c.trace.now (record { at = at; refusal = 0 }) refl) ∙ sym h)

    pub number_read : (value next : ℕ) → read value next ≡ number_at c.trace.now at
        → Took c (Ok value) (record { trace = c.trace; place = Ok next }) (number_from c.trace.now (standing c.place)).value (number_from c.trace.now (standing c.place)).cursor
    number_read value next h = rw (from_there (read value next) h) (record { trace = refl; place = refl; told = (refl, refl) })

    pub number_refused : (e : Refusal) → stopped (refusal_number e) ≡ number_at c.trace.now at
        → Took {A = ℕ} c (Err e) (record { trace = c.trace; place = Err e }) (number_from c.trace.now (standing c.place)).value (number_from c.trace.now (standing c.place)).cursor
    number_refused e h = rw (from_there (stopped (refusal_number e)) h) (record { trace = refl; place = refl; told = refl })

-- ---- so many

-- values that were read, before what is read then
abbrev pub before_them : List ℕ → Numbers → Numbers
before_them values x = record { values = values ++ x.values; cursor = x.cursor }

-- so many of all were read into a list of their length, and none was refused
pub record ReadTo (many : ℕ) (c : Reader.Cursor) (values : List ℕ) (i : ℕ) (now : Reader.Cursor) : Type 0 where
  pub long : length values ≡ many
  pub trace : now.trace ≡ c.trace
  pub going : (standing now.place).refusal ≡ 0
  pub read : numbers_from many c.trace.now (standing c.place) ≡ before_them (take i values) (numbers_from (many - i) c.trace.now (standing now.place))

module _ (many : ℕ) (c : Reader.Cursor) where
  module _ (values : List ℕ) (i : ℕ) (now last : Reader.Cursor) (w : ReadTo many c values i now) where
    same_trace : now.trace.now ≡ c.trace.now
    same_trace = ap (λ (b : Bor (List ℕ)). b.now) w.trace

    module _ (l : i < many) where
      pub read_one : (value : ℕ) → Took now (Ok value) last (number_from now.trace.now (standing now.place)).value (number_from now.trace.now (standing now.place)).cursor
          → ReadTo many c (set values i value) (i + 1) last
      unfolding numbers_from
      read_one value t =
          let m : i < length values = omega (arith, w.long) in
          let e : many - i ≡ suc (many - (i + 1)) = omega arith in
          let told = rw same_trace at t.told.0 in
          let place = rw same_trace at t.place in
          record {
            long = simp length-set w.long;
            trace = t.trace ∙ w.trace;
            going = ap (λ (x : Cursor). x.refusal) t.place ∙ t.told.1;
            read = w.read ∙ rw (e, add-one, take-suc-set values i value m, append_assoc, told, place);
          }

      pub one_refused : (e : Refusal) → Took {A = ℕ} now (Err e) last (number_from now.trace.now (standing now.place)).value (number_from now.trace.now (standing now.place)).cursor
          → (r : Result (List ℕ) Refusal) → IsErrAnd r (λ x. x ≡ e)
          → Took c r last (numbers_from many c.trace.now (standing c.place)).values (numbers_from many c.trace.now (standing c.place)).cursor
      unfolding numbers_from
      one_refused e t r h =
          let g : many - i ≡ suc (many - (i + 1)) = omega arith in
          let place = rw same_trace at t.place in
          let told = rw same_trace at t.told in
          let k = numbers_stay_stopped (many - (i + 1)) c.trace.now (number_from c.trace.now (standing now.place)).cursor (λ z. omega (arith, told, refusal_some e)) in
          let all : (numbers_from many c.trace.now (standing c.place)).cursor ≡ (number_from c.trace.now (standing now.place)).cursor
          = ap (λ (x : Numbers). x.cursor) w.read ∙ rw g k in
          rw (handed_on r e h, all) (record { trace = t.trace ∙ w.trace; place = place; told = told })

    pub all_read : many ≤ i → Took c (Ok values) now (numbers_from many c.trace.now (standing c.place)).values (numbers_from many c.trace.now (standing c.place)).cursor
    unfolding numbers_from
    all_read l =
        let e : many - i ≡ 0 = omega arith in
        let f : take i values ≡ values = take_all i values (omega (arith, w.long)) in
        let read = rw (e, f, append-nil) at w.read in
        rw read (record { trace = w.trace; place = refl; told = (refl, w.going) })
