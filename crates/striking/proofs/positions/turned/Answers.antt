-- `positions::turned`: the steps are the definition's own.
use Prim.Native.Nat.{ℕ}
use mathlib.Core.Path.{refl, ap, ◌∙◌}
use mathlib.Core.List.{[], ◌∷◌}
use Rattle.striking.specs.Turning.{number, made, turn, turned}
use Rattle.striking.proofs.positions.turned.Goals as goal

pub returns : goal.returns
unfolding made turn turned
returns c = c.exchanged.ensures 17 refl ∙ ap (λ (n : ℕ). made (n ∷ []) (turn _ 17 (number 0))) (c.exchanged-once.ensures 34 refl)
