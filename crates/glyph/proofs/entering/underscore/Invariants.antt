-- `entering::underscore`: each turn sets wire 9 in the next even column, so that after j turns j columns have it.
use mathlib.Core.Path.{◌≡◌}
use Rattle.glyph.specs.Entering.{underscore}
use Rattle.glyph.proofs.entering.underscore.Given as goal

abbrev pub invariant-loop-j : goal.invariant-loop-j
invariant-loop-j l = l.line ≡ underscore l.j l.at l.stride l.initial.line
