-- `layout::batches::batch_fits` meets its contract: the count, and every request below it has a key that fits.
use Rattle.std.proofs.Common.{rules}
use mathlib.Core.Path.{◌≡◌, ap, sym, ◌∙◌}
use mathlib.Core.List.{List}
use Prim.Native.Nat.{ℕ, ◌≤◌, ◌<◌, ◌+◌, ◌*◌}
use native.Mathlib.Omega.{arith}
use borrow.Author.Tests.{le-leb, lt-leb}
use lib.ListN.{get_or, drop}
use lib.Seq.{drop-drop, get_or-drop}
use Rattle.deps.specs.Batches.{no_request, kind_fits, request_fits, batch_fits}
use Rattle.deps.specs.declared.batches.Request.{Request}
use Rattle.layout.specs.Batches.{request_at, batch_at}
use Rattle.layout.proofs.EachLaws.{each_is}
use Rattle.layout.proofs.BatchLaws.{request_place}
use Rattle.layout.proofs.RangeLaws.{all_over, all_same}
use Rattle.layout.proofs.batches.batch_fits.Goals as goal

count_first : (s : List ℕ) (at : ℕ) → get_or s at 0 ≡ (batch_at (drop at s)).count
unfolding batch_at
count_first s at = sym (get_or-drop at s 0 0 ∙ ap (λ (k : ℕ). get_or s k 0) (omega arith))

request_first : (s : List ℕ) (at i : ℕ) → i < 4 → kind_fits (request_at (drop (at + 1 + 27 * i) s)).kind ≡ request_fits (batch_at (drop at s)) i
unfolding batch_at
request_first s at i q =
    sym (ap (λ (x : Request). kind_fits x.kind) (each_is request_at 27 4 i (drop 1 (drop at s)) no_request q ∙ ap request_at (drop-drop (27 * i) 1 (drop at s) ∙ sym (request_place s at i))))

pub returns-else-count-le4 : goal.returns-else-count-le4
unfolding batch_fits
returns-else-count-le4 c =
    let n = c.from-count.ensures ∙ count_first c.args.s.now c.args.at in
    let over : 4 < (batch_at (drop c.args.at c.args.s.now)).count = omega (arith, n, c.if-count-le4.false) in
    rw (n, lt-leb _ _ over)

pub returns-then-count-le4 : goal.returns-then-count-le4
unfolding batch_fits
returns-then-count-le4 c =
    let a = c.args in
    let b = batch_at (drop a.at a.s.now) in
    let n = c.from-count.ensures ∙ count_first a.s.now a.at in
    let four : b.count ≤ 4 = rw n at c.if-count-le4.true in
    let all = all_over (λ (i : ℕ). kind_fits (request_at (drop (a.at + 1 + 27 * i) a.s.now)).kind) c.from-count.result _ _ _ c.all.ensures.ran (λ i b q h. (search rules, search rules)) in
    rw (le-leb _ _ four, ← n) (all ∙ all_same _ (request_fits b) c.from-count.result (λ i l. request_first a.s.now a.at i (omega (arith, c.if-count-le4.true))))
