-- `words::all_well_formed`: the glyphs before the one at hand have passed; one that fails makes the whole false, and past the last all have passed.
use mathlib.Core.Path.{sym, ◌∙◌}
use native.Mathlib.Omega.{arith}
use borrow.Author.Count.{below_none, below_more}
use Rattle.glyph.specs.Words.{all_well_formed}
use Rattle.glyph.proofs.Each.{none_fails, one_fails}
use Rattle.glyph.proofs.words.all_well_formed.Goals as goal

pub returns-then-not-well_formed : goal.returns-then-not-well_formed
unfolding all_well_formed
returns-then-not-well_formed c = one_fails _ (omega arith) (sym c.well_formed-in-loop-n.ensures ∙ c.if-not-well_formed.true)

pub returns : goal.returns
unfolding all_well_formed
returns c = none_fails _ (omega arith) c.loop-n.invariant
