-- `words::columns_apart`: the pairs before the one at hand have passed; one that fails makes the whole false, and past the last all have passed.
use Prim.Native.Nat.{ℕ}
use mathlib.Core.Path.{◌≡◌, sym, ap₂, ◌∙◌}
use native.Mathlib.Omega.{arith}
use borrow.Author.Count.{below_none, below_more}
use borrow.Author.Tests.{eq-eqb, ne_eqb}
use lib.Bits.{bit_and}
use lib.Dec.{eqb}
use Rattle.glyph.specs.Words.{apart}
use Rattle.glyph.proofs.Each.{none_fails, one_fails}
use Rattle.glyph.proofs.words.columns_apart.Goals as goal
use Rattle.glyph.proofs.words.columns_apart.Goals.{After-column-in-loop-k}

-- what the two columns that were read have in common
abbrev common : After-column-in-loop-k → ℕ
common c = bit_and c.column.result c.column-in-loop-k.result

-- the pair at hand is judged by it
pair : (c : After-column-in-loop-k)
    → let a = c.args in
    apart a.glyphs.now a.n c.loop-k.k ≡ eqb (common c) 0
unfolding apart
pair c = sym (ap₂ (λ (left right : ℕ). eqb (bit_and left right) 0) c.column.ensures c.column-in-loop-k.ensures)

pub returns-then-column-ne0 : goal.returns-then-column-ne0
returns-then-column-ne0 c =
    one_fails _ (omega arith)
    (pair (goal.at.returns-then-column-ne0 c).After-column-in-loop-k
    ∙ ne_eqb (common (goal.at.returns-then-column-ne0 c).After-column-in-loop-k) 0 (λ none. omega arith))

pub loop-k-preserved : goal.loop-k-preserved
loop-k-preserved c = below_more _ _ c.loop-k.invariant
    (pair (goal.at.loop-k-preserved c).After-column-in-loop-k ∙ eq-eqb (common (goal.at.loop-k-preserved c).After-column-in-loop-k) 0 (omega arith))

pub returns : goal.returns
returns c = none_fails _ (omega arith) c.loop-k.invariant
