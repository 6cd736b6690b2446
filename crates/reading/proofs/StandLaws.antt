-- Numbers that stand from one place of a trace to another.
use mathlib.Core.Path.{◌≡◌, refl, ap, sym, ◌∙◌}
use mathlib.Core.List.{List, [], ◌∷◌, ◌++◌, append_assoc, append-nil, flat_map}
use Prim.Native.Nat.{ℕ, ◌+◌, ◌<◌, ◌≤◌, ◌^◌}
use native.Mathlib.Omega.{arith}
use lib.ListN.{length, drop, length-append, length-drop}
use Rattle.groups.specs.Numbers.{bytes_of}
use Rattle.groups.specs.Reads.{Reads, Fit}
use Rattle.groups.specs.Numbers.{Cursor}
use Rattle.groups.proofs.NumberLaws.{some_bytes}
use Rattle.groups.proofs.ReadLaws.{reads_none, reads_then, after}

-- from the one place to the other the trace has the bytes of these numbers, each of 64 bits
pub record Stand (s : List ℕ) (c : Cursor) (numbers : List ℕ) (d : Cursor) : Type 0 where
  pub reads : Reads s c (flat_map bytes_of numbers) d
  pub fit : Fit numbers

-- one list after another
flat_append : (a b : List ℕ) → flat_map bytes_of (a ++ b) ≡ flat_map bytes_of a ++ flat_map bytes_of b
unfolding flat_map
flat_append [] b = refl
flat_append (v ∷ a) b = rw (flat_append a b, append_assoc)

fit_append : (a b : List ℕ) → Fit a → Fit b → Fit (a ++ b)
fit_append [] b f g = g
fit_append (v ∷ a) b f g = (f.0, fit_append a b f.1 g)

pub stand_none : {s : List ℕ} {c : Cursor} → c.refusal ≡ 0 → Stand s c [] c
unfolding flat_map
stand_none h = record { reads = reads_none h; fit = tt }

pub stand_one : {s : List ℕ} {c : Cursor} {v : ℕ} {d : Cursor} → Reads s c (bytes_of v) d → v < 2 ^ 64 → Stand s c (v ∷ []) d
unfolding flat_map
stand_one r h = record { reads = rw append-nil r; fit = (h, tt) }

pub stand_then : {s : List ℕ} {c : Cursor} {a : List ℕ} {d : Cursor} {b : List ℕ} {e : Cursor} → Stand s c a d → Stand s d b e → Stand s c (a ++ b) e
stand_then {s} {c} {a} {d} {b} {e} p q =
    record { reads = rw (flat_append a b) (reads_then p.reads q.reads); fit = fit_append a b p.fit q.fit }

-- none take no place
pub stand_nil : {s : List ℕ} {c d : Cursor} → Stand s c [] d → c ≡ d
unfolding flat_map
stand_nil {s} {c} {d} h =
    let e : d.at ≡ c.at = omega arith in
    ap (λ (a : ℕ). record { at = a; refusal = c.refusal }) (sym e) ∙ ap (λ (k : ℕ). record { at = d.at; refusal = k }) (h.reads.starts ∙ sym h.reads.ends)

-- the parts of a list stand one after the other
fit_parts : (a b : List ℕ) → Fit (a ++ b) → Fit a × Fit b
fit_parts [] b f = (tt, f)
fit_parts (v ∷ a) b f = let r = fit_parts a b f.1 in ((f.0, r.0), r.1)

-- the place after so many bytes
abbrev pub place_after : Cursor → List ℕ → Cursor
place_after c bytes = record { at = c.at + length bytes; refusal = 0 }

pub reads_after : (s : List ℕ) (c : Cursor) (bytes rest : List ℕ) → c.refusal ≡ 0 → drop c.at s ≡ bytes ++ rest → Reads s c bytes (place_after c bytes)
reads_after s c bytes rest z e =
    record { starts = z; ends = refl; place = refl; holds = e ∙ ap (λ (l : List ℕ). bytes ++ l) (sym (after s c.at bytes rest e)) }

pub after_is : {s : List ℕ} {c : Cursor} {bytes : List ℕ} {d : Cursor} → Reads s c bytes d → place_after c bytes ≡ d
after_is {s} {c} {bytes} {d} r =
    ap (λ (a : ℕ). record { at = a; refusal = 0 }) (sym r.place) ∙ ap (λ (k : ℕ). record { at = d.at; refusal = k }) (sym r.ends)

pub stand_parts : {s : List ℕ} {c e : Cursor} (a b : List ℕ) → Stand s c (a ++ b) e → (d : Cursor) × (Stand s c a d) × (Stand s d b e)
stand_parts {s} {c} {e} a b p =
    let r : Reads s c (flat_map bytes_of a ++ flat_map bytes_of b) e = rw (flat_append a b) at p.reads in
    let f = fit_parts a b p.fit in
    let g : drop c.at s ≡ flat_map bytes_of a ++ (flat_map bytes_of b ++ drop e.at s) = rw append_assoc at r.holds in (
      place_after c (flat_map bytes_of a),
      record { reads = reads_after s c (flat_map bytes_of a) (flat_map bytes_of b ++ drop e.at s) r.starts g; fit = f.0 },
      record {
        reads =
            record {
              starts = refl;
              ends = r.ends;
              place = r.place ∙ simp length-append (omega arith);
              holds = after s c.at (flat_map bytes_of a) (flat_map bytes_of b ++ drop e.at s) g;
            };
        fit = f.1;
      },
    )

-- each number has one or more
pub bytes_each : (l : List ℕ) → length l ≤ length (flat_map bytes_of l)
unfolding flat_map
bytes_each [] = omega arith
bytes_each (v ∷ l) = rw length-append (omega (arith, some_bytes v, bytes_each l))

-- where there are some, they end inside the trace
pub ends_inside : {s : List ℕ} {c : Cursor} {bytes : List ℕ} {d : Cursor} → Reads s c bytes d → 0 < length bytes → d.at ≤ length s
ends_inside {s} {c} {bytes} {d} r h = omega (arith, simp (length-append, length-drop) at (ap length r.holds))
