-- `lines::columns`: each turn strikes the eight columns that are next; the columns left make of the page what all make of it at entry, and at W
-- none is left.
use Prim.Native.Nat.{◌-◌}
use Rattle.sheet.specs.declared.Model.TheVariants.{Lp2}
use Rattle.striking.proofs.Striking.{Walked}
use Rattle.striking.proofs.lines.columns.Given as goal

abbrev pub invariant-loop-column : goal.invariant-loop-column
invariant-loop-column l = Walked Lp2 l.line l.pitch l.row l.initial.page l.column l.page

abbrev pub decreases-loop-column : goal.decreases-loop-column
decreases-loop-column l = l.w - l.column
