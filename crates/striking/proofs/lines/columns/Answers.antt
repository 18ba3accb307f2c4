-- `lines::columns`: each turn strikes the eight columns that are next; the columns left make of the page what all make of it at entry, and at W
-- none is left.
use Prim.Native.Nat.{◌+◌, ◌<◌}
use native.Mathlib.Omega.{arith}
use Rattle.sheet.specs.declared.Model.TheVariants.{Lp2}
use Rattle.sheet.specs.Edition.{lp2}
use Rattle.striking.proofs.Striking.{Walked, walked_more, all_walked}
use Rattle.striking.proofs.lines.columns.Goals as goal
use Rattle.striking.proofs.lines.columns.Goals.{After-eight_columns, In-loop-column}

below : (c : In-loop-column) → c.loop-column.column < lp2.width c.args.pitch
below c = omega (arith, c.loop-column-test, c.width-w.ensures)

-- so many more are struck
more : (c : After-eight_columns)
    → Walked Lp2 c.args.line.now c.args.pitch c.args.row c.args.page.now (c.loop-column.column + 8) c.eight_columns.new.page
more c =
    walked_more Lp2 _ _ _ _ _ _ _ c.requires.full c.loop-column.invariant (below (goal.at.After-eight_columns c).In-loop-column)
    c.eight_columns.ensures

pub loop-column-preserved : goal.loop-column-preserved
loop-column-preserved c = more (goal.at.loop-column-preserved c).After-eight_columns

pub returns : goal.returns
returns c =
    all_walked Lp2 _ _ _ _ _ _ c.requires.full c.loop-column.invariant (omega (arith, c.loop-column-test, c.width-w.ensures))

pub returns-2 : goal.returns-2
returns-2 c =
    all_walked Lp2 _ _ _ _ _ _ c.requires.full (more (goal.at.returns-2 c).After-eight_columns)
    (omega (arith, c.if-w-column-gt8.false, c.width-w.ensures))
