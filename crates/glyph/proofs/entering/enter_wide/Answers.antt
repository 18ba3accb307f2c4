-- `entering::enter_wide`: each turn enters the next column of the glyph twice, so that after k turns k columns are entered.
use mathlib.Core.Path.{refl}
use Rattle.glyph.specs.Entering.{enter_wide}
use Rattle.glyph.proofs.Turns.{wide_turn}
use Rattle.glyph.proofs.entering.enter_wide.Goals as goal

pub loop-k-init : goal.loop-k-init
unfolding enter_wide
loop-k-init c = refl

pub loop-k-preserved : goal.loop-k-preserved
loop-k-preserved c = wide_turn _ _ _ _ _ c.loop-k.k _ c.column-wires.ensures c.loop-k.invariant c.or_in.ensures c.or_in-in-loop-k.ensures
