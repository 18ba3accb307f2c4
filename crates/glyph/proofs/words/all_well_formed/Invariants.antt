-- `words::all_well_formed`: the glyphs before the one at hand have passed; one that fails makes the whole false, and past the last all have passed.
use Prim.Native.Nat.{◌-◌}
use Rattle.glyph.specs.Words.{well_formed}
use Rattle.glyph.proofs.Each.{Passed}
use Rattle.glyph.proofs.words.all_well_formed.Given as goal

abbrev pub invariant-loop-n : goal.invariant-loop-n
invariant-loop-n l = Passed (well_formed l.glyphs) l.n

abbrev pub decreases-loop-n : goal.decreases-loop-n
decreases-loop-n l = l.k - l.n
