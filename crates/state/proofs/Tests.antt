-- Which way a choice goes whose test is known.
use mathlib.Core.Bool.{Bool, true, false, cond}
use mathlib.Core.Path.{◌≡◌}

pub when : {A : Type 0} {t : Bool} {x a : A} (b : A) → t ≡ true → x ≡ a → x ≡ cond t a b
when b h e = rw h e

pub unless : {A : Type 0} {t : Bool} {x b : A} (a : A) → t ≡ false → x ≡ b → x ≡ cond t a b
unless a h e = rw h e
