-- `layout::batches::key_fits` meets its contract: no value is looked at.
-- whatever the value
use mathlib.Core.Path.{◌≡◌, refl, ap, sym, ◌∙◌}
use mathlib.Core.List.{List}
use mathlib.Core.Bool.{Bool, true, false, cond}
use Prim.Native.Nat.{ℕ, ◌+◌}
use lib.Dec.{eqb}
use lib.ListN.{get_or, drop}
use lib.Seq.{drop-drop, get_or-drop}
use Rattle.deps.specs.Batches.{kind_fits}
use Rattle.deps.specs.declared.batches.Kind.TheVariants.{Other, Put, Get}
use Rattle.layout.specs.Numbers.{word_of, short_of}
use Rattle.layout.specs.Batches.{kind_of, request_at}
use Rattle.layout.proofs.batches.key_fits.Goals as goal

any_value : (b key value other : ℕ) → kind_fits (kind_of b key value) ≡ kind_fits (kind_of b key other)
any_value b key value other = go (eqb b 1) (eqb b 2)
  where
    go : (p g : Bool) → kind_fits (cond p (Put key value) (cond g (Get key) Other)) ≡ kind_fits (cond p (Put key other) (cond g (Get key) Other))
    go true g = refl
    go false true = refl
    go false false = refl

from_first : (s : List ℕ) (at : ℕ) → kind_fits (kind_of (get_or s (at + 16) 0) (short_of (drop (at + 17) s)) 0) ≡ kind_fits (request_at (drop at s)).kind
unfolding request_at
from_first s at = sym (rw (get_or-drop, drop-drop) (any_value (get_or s (at + 16) 0) (short_of (drop (at + 17) s)) (word_of (drop 19 (drop at s))) 0))

pub returns : goal.returns
returns c =
    let a = c.args in
    c.fits.ensures
    ∙ ap kind_fits c.kind_of.ensures
    ∙ ap (λ (key : ℕ). kind_fits (kind_of (get_or a.s.now (a.at + 16) 0) key 0)) c.short.ensures
    ∙ from_first a.s.now a.at
