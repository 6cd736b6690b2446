-- `keys::columns::Keys::identify` meets its contract: joined so far are the keys that the requests passed name.
use mathlib.Core.Path.{◌≡◌, ap, ◌∙◌}
use mathlib.Core.List.{List, [], ◌∷◌, foldl, flat_map}
use mathlib.Core.Logic.{◌⊎◌, inl, inr}
use Prim.Native.Nat.{ℕ}
use lib.ListN.{get_or}
use lib.Seq.{take_all}
use Rattle.base.proofs.Loops.{fold_none, fold_more}
use Rattle.deps.specs.Sets.{empty_set, union_of}
use Rattle.deps.specs.Batches.{no_request, named, key_named}
use Rattle.deps.specs.declared.batches.Kind.{Kind}
use Rattle.deps.specs.declared.batches.Kind.TheVariants.{Put, Get}
use Rattle.deps.specs.declared.batches.Request.{Request}
use Rattle.keys.specs.Columns.{identify_of, columns_of, join_key}
use Rattle.keys.proofs.columns.Keys.identify.Goals as goal
use Rattle.keys.proofs.columns.Keys.identify.Goals.{in_default, in-Put2}

names_it : (kind : Kind) (key : ℕ) → ((value : ℕ) × (kind ≡ Put key value)) ⊎ (kind ≡ Get key) → key ∷ [] ≡ named kind
names_it kind key (inl (value, e)) = rw e
names_it kind key (inr e) = rw e

pub loop-request-init : goal.loop-request-init
loop-request-init c = fold_none (join_key c.args.self) key_named empty_set c.requests-request-items.result.now

pub loop-request-preserved : goal.loop-request-preserved
loop-request-preserved c =
    let f = join_key c.args.self in
    let p = c.loop-request in
    let l = c.requests-request-items.result.now in
    let kind = (get_or l p.request-index no_request).kind in
    let more = fold_more f key_named empty_set l p.request-index no_request c.loop-request-test.true p.invariant in
    elim c.match-request.branch [
      | in_default w ↦ more (w.out-is ∙ rw w.in_default.is)
      | in-Put2 w ↦ more (w.out-is ∙ w.union-out.ensures ∙ ap (union_of p.out) (w.columns.ensures ∙ ap (columns_of c.args.self) w.from.ensures) ∙ ap (foldl f p.out) (names_it kind w.in-Put.key w.in-Put.is))
    ]

pub returns : goal.returns
unfolding identify_of
returns c =
    let all = c.requests-request-items in
    c.loop-request.invariant ∙ ap (λ (l : List Request). foldl (join_key c.args.self) empty_set (flat_map key_named l)) (take_all c.loop-request.request-index all.result.now c.loop-request-test.false ∙ all.ensures)
