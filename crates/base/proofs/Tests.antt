-- What the test of a call's result says of what the call ensures it to be.
use mathlib.Core.Path.{◌≡◌, sym, ◌∙◌}
use mathlib.Core.Bool.{Bool, true, false}

pub passed : {x y : Bool} → x ≡ y → x ≡ true → y ≡ true
passed e h = sym e ∙ h

pub failed : {x y : Bool} → x ≡ y → x ≡ false → y ≡ false
failed e h = sym e ∙ h
