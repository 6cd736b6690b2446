-- `keys::columns::Keys::refresh` meets its contract: raised so far are the keys that the requests passed put.
use mathlib.Core.Path.{◌≡◌, refl, ap, ◌∙◌}
use mathlib.Core.List.{List, [], foldl, flat_map}
use Prim.Native.Nat.{ℕ}
use lib.ListN.{get_or}
use lib.Seq.{take_all}
use Rattle.base.proofs.Loops.{fold_none, fold_more}
use Rattle.deps.specs.Batches.{no_request}
use Rattle.deps.specs.declared.batches.Kind.{Kind}
use Rattle.deps.specs.declared.batches.Kind.TheVariants.{Other, Put, Get}
use Rattle.deps.specs.declared.batches.Request.{Request}
use Rattle.keys.specs.Columns.{entered, key_entered, raise_key, refreshed_by}
use Rattle.keys.proofs.columns.Keys.refresh.Goals as goal
use Rattle.keys.proofs.columns.Keys.refresh.Goals.{in_default, in-Put}

enters_none : (kind : Kind) → ((key value : ℕ) → kind ≡ Put key value → ⊥) → entered kind ≡ []
enters_none Other h = refl
enters_none (Put key value) h = absurd (h key value refl)
enters_none (Get key) h = refl

pub loop-request-init : goal.loop-request-init
loop-request-init c = fold_none (raise_key c.args.row c.args.col) key_entered c.args.self c.requests-request-items.result.now

pub loop-request-preserved : goal.loop-request-preserved
loop-request-preserved c =
    let a = c.args in
    let f = raise_key a.row a.col in
    let p = c.loop-request in
    let l = c.requests-request-items.result.now in
    let kind = (get_or l p.request-index no_request).kind in
    let more = fold_more f key_entered a.self l p.request-index no_request c.loop-request-test.true p.invariant in
    elim c.match-request.branch [
      | in_default w ↦ more (w.out-is ∙ rw (enters_none kind w.in_default.not-Put))
      | in-Put w ↦ more (w.out-is ∙ w.raise.ensures ∙ ap (f p.out) w.from.ensures ∙ rw w.in-Put.is)
    ]

pub returns : goal.returns
unfolding refreshed_by
returns c =
    let a = c.args in
    let all = c.requests-request-items in
    c.loop-request.invariant ∙ ap (λ (l : List Request). foldl (raise_key a.row a.col) a.self (flat_map key_entered l)) (take_all c.loop-request.request-index all.result.now c.loop-request-test.false ∙ all.ensures)
