-- `entering::enter_narrow`: each turn enters the next column of the glyph, so that after k turns k columns are entered.
use mathlib.Core.Path.{refl}
use Rattle.glyph.specs.Entering.{enter_narrow}
use Rattle.glyph.proofs.Turns.{narrow_turn}
use Rattle.glyph.proofs.entering.enter_narrow.Goals as goal

pub loop-k-init : goal.loop-k-init
unfolding enter_narrow
loop-k-init c = refl

pub loop-k-preserved : goal.loop-k-preserved
loop-k-preserved c = narrow_turn _ _ _ _ _ c.loop-k.k _ c.column.ensures c.loop-k.invariant c.or_in.ensures
