-- `entering::underscore`: each turn sets wire 9 in the next even column, so that after j turns j columns have it.
use mathlib.Core.Path.{refl}
use Rattle.glyph.specs.Entering.{underscore}
use Rattle.glyph.proofs.Turns.{underscore-turn}
use Rattle.glyph.proofs.entering.underscore.Goals as goal

pub loop-j-init : goal.loop-j-init
unfolding underscore
loop-j-init c = refl

pub loop-j-preserved : goal.loop-j-preserved
loop-j-preserved c = underscore-turn _ _ _ c.loop-j.j c.loop-j.invariant c.or_in.ensures
