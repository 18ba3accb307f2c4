-- `lines::positions`: each turn strikes the eighty positions that are next; those left make of the page what all make of it at entry, and at W none is
-- left.
use Prim.Native.Nat.{◌+◌, ◌<◌}
use native.Mathlib.Omega.{arith}
use Rattle.sheet.specs.declared.Model.TheVariants.{Dg6215}
use Rattle.sheet.specs.Edition.{dg6215}
use Rattle.striking.proofs.Striking.{Walked, walked_more, all_walked}
use Rattle.striking.proofs.lines.positions.Goals as goal
use Rattle.striking.proofs.lines.positions.Goals.{After-eighty_positions, In-loop-position}

below : (c : In-loop-position) → c.loop-position.position < dg6215.width c.args.pitch
below c = omega (arith, c.loop-position-test, c.width-w.ensures)

-- so many more are struck
more : (c : After-eighty_positions)
    → Walked Dg6215 c.args.line.now c.args.pitch c.args.row c.args.page.now (c.loop-position.position + 80) c.eighty_positions.new.page
more c =
    walked_more Dg6215 _ _ _ _ _ _ _ c.requires.full c.loop-position.invariant (below (goal.at.After-eighty_positions c).In-loop-position)
    c.eighty_positions.ensures

pub loop-position-preserved : goal.loop-position-preserved
loop-position-preserved c = more (goal.at.loop-position-preserved c).After-eighty_positions

pub returns : goal.returns
returns c =
    all_walked Dg6215 _ _ _ _ _ _ c.requires.full c.loop-position.invariant (omega (arith, c.loop-position-test, c.width-w.ensures))

pub returns-2 : goal.returns-2
returns-2 c =
    all_walked Dg6215 _ _ _ _ _ _ c.requires.full (more (goal.at.returns-2 c).After-eighty_positions)
    (omega (arith, c.if-w-position-gt80.false, c.width-w.ensures))
