-- A contract that is an equality with a definition admits one outcome.
use mathlib.Core.Path.{◌≡◌, sym, ◌∙◌}

pub one_outcome : {A : Type 0} {said r s : A} → r ≡ said → s ≡ said → r ≡ s
one_outcome e f = e ∙ sym f
