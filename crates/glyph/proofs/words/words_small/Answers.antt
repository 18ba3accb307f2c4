-- `words::words_small`: the words before the one at hand have passed; one that fails makes the whole false, and past the last all have passed.
use Prim.Native.Nat.{ℕ}
use mathlib.Core.Path.{sym, ap, ◌∙◌}
use native.Mathlib.Omega.{arith}
use borrow.Author.Count.{below_none, below_more}
use borrow.Author.Tests.{le-leb, lt-leb}
use lib.Dec.{leb}
use Rattle.glyph.specs.Words.{small}
use Rattle.glyph.proofs.Each.{none_fails, one_fails}
use Rattle.glyph.proofs.words.words_small.Goals as goal

pub returns-then-word-gt511 : goal.returns-then-word-gt511
unfolding small
returns-then-word-gt511 c = one_fails _ (omega arith) (ap (λ (w : ℕ). leb w 511) (sym c.word.ensures) ∙ lt-leb c.word.result 511 (omega arith))

pub loop-k-preserved : goal.loop-k-preserved
unfolding small
loop-k-preserved c =
    below_more _ _ c.loop-k.invariant
    (ap (λ (w : ℕ). leb w 511) (sym c.word.ensures) ∙ le-leb c.word.result 511 (omega arith))

pub returns : goal.returns
returns c = none_fails _ (omega arith) c.loop-k.invariant
