-- `positions::eighty_positions`: positions with no wire leave the page as it is; else each turn strikes the sixteen that are next, and those left make of
-- the page what all eighty make of it at entry.
use Prim.Native.Nat.{◌-◌}
use Rattle.striking.proofs.Striking.{EightyLeft}
use Rattle.striking.proofs.positions.eighty_positions.Given as goal

abbrev pub invariant-loop-k : goal.invariant-loop-k
invariant-loop-k l = EightyLeft l.line l.pitch l.row l.c l.initial.page l.k l.page

abbrev pub decreases-loop-k : goal.decreases-loop-k
decreases-loop-k l = 80 - l.k
