-- `entering::enter_narrow`: each turn enters the next column of the glyph, so that after k turns k columns are entered.
use mathlib.Core.Path.{◌≡◌}
use Rattle.glyph.specs.Entering.{enter_narrow}
use Rattle.glyph.proofs.entering.enter_narrow.Given as goal

abbrev pub invariant-loop-k : goal.invariant-loop-k
invariant-loop-k l = l.line ≡ enter_narrow l.k l.glyphs l.n l.at l.stride l.initial.line
