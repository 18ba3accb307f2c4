-- `positions::any_wires`: the wires of the columns so far, joined to those of the columns left, are the wires of all.
use mathlib.Core.Path.{◌≡◌}
use lib.Bits.{bit_or}
use lib.ListN.{drop}
use Rattle.striking.specs.Groups.{any_wires}
use Rattle.striking.proofs.positions.any_wires.Given as goal

abbrev pub invariant-loop-column : goal.invariant-loop-column
invariant-loop-column l = bit_or l.any (any_wires (drop l.column-index l.columns)) ≡ any_wires l.columns
