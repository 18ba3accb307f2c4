-- Each turn reads a byte or is the last.
use Rattle.std.proofs.Common.{◌-◌, ◌≤◌, length}
use Rattle.edges.proofs.read_full.Given as goal

abbrev pub invariant-loop-more : goal.invariant-loop-more
invariant-loop-more g l = l.done ≤ length l.bytes

abbrev pub decreases-loop-more : goal.decreases-loop-more
decreases-loop-more g l = length l.bytes - l.done
