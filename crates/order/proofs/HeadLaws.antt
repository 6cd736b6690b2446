-- The heads as they are found and moved on, and that they decide what is written next.
use mathlib.Core.Path.{◌≡◌, refl, sym, ap, subst}
use mathlib.Core.Bool.{Bool, true, false}
use mathlib.Core.List.{List}
use Prim.Native.Nat.{ℕ, ◌+◌, ◌*◌, ◌/◌, ◌%◌, ◌≤◌, ◌<◌}
use native.Mathlib.Decide.{ℕ_discrete}
use native.Mathlib.Omega.{arith}
use lib.ListN.{get_or}
use Rattle.std.specs.Prelude.{Option, None, Some, MatchOption}
use Rattle.base.specs.Marks.{marked}
use Rattle.leads.specs.Depends.{Valid, Leads, here}
use Rattle.leads.specs.Frontier.{In, frontier}
use Rattle.leads.proofs.PathLaws.{leads_trans, down_to}
use Rattle.leads.proofs.FrontierLaws.{frontier_low, frontier_sound, frontier_whole}
use Rattle.leads.proofs.LeastLaws.{start_at}
use Rattle.order.specs.Listed.{On}
use Rattle.order.specs.Rule.{Ready, Lowest}
use Rattle.order.specs.Heads.{col_of, reach_of, FirstFrom, HeadAt, HeadsFrom, Held, Under, ReadyRow, NextRow, left}
use Rattle.order.specs.declared.heads.Head.{Head}
use Rattle.order.proofs.ReadyLaws.{some_ready}
use Rattle.order.proofs.RuleLaws.{ready_led}
use Rattle.order.proofs.LeftLaws.{left_length, on_left, left_slot, left_on}

-- ---- found and moved on

-- the first column at which the row is marked, as the search over its columns finds it
pub found_first : (todo : List Bool) (row c : ℕ) (r : Option ℕ) → c ≤ 32
    → MatchOption r ((k : ℕ) → c ≤ k → k < 32 → marked todo (32 * row + k) ≡ false) (λ i. (c ≤ i) × (i < 32) × (marked todo (32 * row + i) ≡ true) × ((k : ℕ) → c ≤ k → k < i → marked todo (32 * row + k) ≡ false))
    → MatchOption r (FirstFrom todo row c 32) (λ col. (col < 32) × FirstFrom todo row c col)
found_first todo row c None le none = record { small = omega arith; after = le; on = λ lt. absurd (omega arith); none = none }
found_first todo row c (Some i) le (after, small, on, none) = (small, record { small = omega arith; after = after; on = λ _. on; none = none })

module _ (deps : List ℕ) (todo : List Bool) (v : Valid deps) (row c col : ℕ) (F : List ℕ) where
  pub moved_on : row < 7 → col < 32 → FirstFrom todo row c col → F ≡ frontier deps (32 * row + col) → HeadAt deps todo row c col F
  moved_on hr hc f is = record { first = f; exact = λ _. is; start = start_at deps v row col F hr hc is }

pub settled : (deps : List ℕ) (todo : List Bool) (c : ℕ → ℕ) (heads : List Head) → HeadsFrom deps todo c heads → Held deps todo heads
settled deps todo c heads h = record {
  each = λ row lt.
      let p = h.each row lt in
      record {
        first = record { small = p.first.small; after = omega arith; on = p.first.on; none = λ x le small. absurd (omega arith) };
        exact = p.exact;
        start = p.start;
      };
}

-- ---- what the heads decide

-- the head of a row
abbrev pub head_of : List Head → ℕ → ℕ
head_of heads row = 32 * row + col_of heads row

module _ {deps : List ℕ} {todo : List Bool} (v : Valid deps) {heads : List Head} (held : Held deps todo heads) where
  pub head_on : (row : ℕ) → row < 7 → col_of heads row < 32 → On (left todo heads) (head_of heads row)
  head_on row hr hc =
      let e : head_of heads row / 32 ≡ row = omega arith in
      on_left todo heads (head_of heads row) (omega arith) ((held.each row hr).first.on hc) (rw e (omega arith))

  -- a slot to be written leads to its row's head
  to_head : (k : ℕ) → On (left todo heads) k → (k / 32 < 7) × (col_of heads (k / 32) ≤ k % 32) × (Leads deps k (head_of heads (k / 32)))
  to_head k on =
      let lt = left_slot todo heads k on in
      let le = (left_on todo heads k on).1 in
      (omega arith, le, down_to deps k k (head_of heads (k / 32)) (omega arith) (omega arith) (here refl))

  module _ (row other : ℕ) (hr : row < 7) (ho : other < 7) (hc : col_of heads row < 32) where
    under_leads : Under heads row other → (col_of heads other < 32) × (Leads deps (head_of heads row) (head_of heads other))
    under_leads u =
        let u' : col_of heads other < get_or (frontier deps (head_of heads row)) other 0 = subst (λ (F : List ℕ). col_of heads other < get_or F other 0) ((held.each row hr).exact hc) u in
        let small : col_of heads other < 32 = omega (arith, frontier_low deps v (head_of heads row) other) in
        let e : head_of heads other / 32 ≡ other = omega arith in
        let f : head_of heads other % 32 ≡ col_of heads other = omega arith in
        (small, frontier_sound deps v (head_of heads row) (head_of heads other) (rw (e, f) u'))

    leads_under : col_of heads other < 32 → Leads deps (head_of heads row) (head_of heads other) → Under heads row other
    leads_under small l =
        let e : head_of heads other / 32 ≡ other = omega arith in
        let f : head_of heads other % 32 ≡ col_of heads other = omega arith in
        subst (λ (F : List ℕ). col_of heads other < get_or F other 0) (sym ((held.each row hr).exact hc)) (rw (e, f) at (frontier_whole deps v (head_of heads row) (head_of heads other) (omega arith) l))

  -- the readiness of a head is decided by the heads alone
  ready_slot : (row : ℕ) → row < 7 → ReadyRow heads row → Ready deps (left todo heads) (head_of heads row)
  ready_slot row hr rr = (
    head_on row hr rr.some,
    λ k on l.
        let w = to_head k on in
        let other = k / 32 in
        let u = leads_under row other hr w.0 rr.some (omega (arith, w.1)) (leads_trans l w.2) in
        let back = under_leads other row w.0 hr (omega (arith, w.1)) (rr.back other w.0 u) in
        leads_trans w.2 back.1,
  )

  ready_row : (row : ℕ) → row < 7 → col_of heads row < 32 → Ready deps (left todo heads) (head_of heads row) → ReadyRow heads row
  ready_row row hr hc rd = record {
    some = hc;
    back = λ other ho u.
        let w = under_leads row other hr ho hc u in
        leads_under other row ho hr w.0 hc (rd.1 (head_of heads other) (head_on other ho w.0) w.1);
  }

  -- then all left that is in its frontier is its component
  pub ready_all_mates : (row k : ℕ) → row < 7 → ReadyRow heads row → On (left todo heads) k → In (reach_of heads row) k → (Leads deps (head_of heads row) k) × (Leads deps k (head_of heads row))
  ready_all_mates row k hr rr on inside =
      let l = frontier_sound deps v (head_of heads row) k (subst (λ (F : List ℕ). In F k) ((held.each row hr).exact rr.some) inside) in
      (l, (ready_slot row hr rr).1 k on l)

  pub mate_inside : (row k : ℕ) → row < 7 → col_of heads row < 32 → Leads deps (head_of heads row) k → In (reach_of heads row) k
  mate_inside row k hr hc l = subst (λ (F : List ℕ). In F k) (sym ((held.each row hr).exact hc)) (frontier_whole deps v (head_of heads row) k (omega arith) l)

  -- where a slot is ready, its row's head is
  ready_head : (i : ℕ) → Ready deps (left todo heads) i → (i / 32 < 7) × (ReadyRow heads (i / 32))
  ready_head i rd =
      let w = to_head i rd.0 in
      let row = i / 32 in
      let hc : col_of heads row < 32 = omega (arith, w.1) in
      (w.0, ready_row row w.0 hc (ready_led (left todo heads) i (head_of heads row) rd (head_on row w.0 hc) w.2))

  pub lowest_head : (row : ℕ) → row < 7 → NextRow heads row → Lowest deps (left todo heads) (head_of heads row)
  lowest_head row hr n = (
    ready_slot row hr (n.ready hr),
    λ i lt rd.
        let w = ready_head i rd in
        let le = (to_head i rd.0).1 in
        elim (ℕ_discrete (i / 32) row) [
          | yes e ↦
              let same : col_of heads (i / 32) ≡ col_of heads row = ap (col_of heads) e in
              absurd (omega (arith, le))
          | no ne ↦ n.none (i / 32) (omega (arith, n.small, (held.each row hr).first.small)) w.1
        ],
  )

  -- where no head is ready, nothing is left
  pub none_left : NextRow heads 7 → (j : ℕ) → On (left todo heads) j → ⊥
  none_left n j on =
      let w = some_ready deps (left todo heads) v (omega (arith, left_length todo heads)) j on in
      let x = ready_head w.0 w.1 in
      n.none (w.0 / 32) (omega (arith, x.0)) x.1
