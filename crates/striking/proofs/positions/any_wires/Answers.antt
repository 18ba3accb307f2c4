-- `positions::any_wires`: the wires of the columns so far, joined to those of the columns left, are the wires of all.
use native.Mathlib.Omega.{arith}
use Rattle.striking.proofs.Grouping.{any_more, any_last}
use Rattle.striking.proofs.positions.any_wires.Goals as goal

pub loop-column-preserved : goal.loop-column-preserved
loop-column-preserved c = any_more _ c.loop-column.column-index _ _ (omega arith) c.loop-column.invariant

pub returns : goal.returns
returns c = any_last _ c.loop-column.column-index _ _ (omega arith) c.loop-column.invariant
