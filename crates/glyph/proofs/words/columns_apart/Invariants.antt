-- `words::columns_apart`: the pairs before the one at hand have passed; one that fails makes the whole false, and past the last all have passed.
use Prim.Native.Nat.{◌-◌}
use Rattle.glyph.specs.Words.{apart}
use Rattle.glyph.proofs.Each.{Passed}
use Rattle.glyph.proofs.words.columns_apart.Given as goal

abbrev pub invariant-loop-k : goal.invariant-loop-k
invariant-loop-k l = Passed (apart l.glyphs l.n) l.k

abbrev pub decreases-loop-k : goal.decreases-loop-k
decreases-loop-k l = 6 - l.k
