-- `lines::positions`: each turn strikes the eighty positions that are next; those left make of the page what all make of it at entry, and at W none is
-- left.
use Prim.Native.Nat.{◌-◌}
use Rattle.sheet.specs.declared.Model.TheVariants.{Dg6215}
use Rattle.striking.proofs.Striking.{Walked}
use Rattle.striking.proofs.lines.positions.Given as goal

abbrev pub invariant-loop-position : goal.invariant-loop-position
invariant-loop-position l = Walked Dg6215 l.line l.pitch l.row l.initial.page l.position l.page

abbrev pub decreases-loop-position : goal.decreases-loop-position
decreases-loop-position l = l.w - l.position
