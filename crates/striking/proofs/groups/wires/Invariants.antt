-- `groups::wires`: each turn joins the next wire, a row below the one before.
use mathlib.Core.Path.{◌≡◌}
use Rattle.sheet.specs.Edition.{lp2}
use Rattle.striking.proofs.Wires.{wired, wire_in}
use Rattle.striking.proofs.groups.wires.Given as goal

abbrev pub invariant-loop-row : goal.invariant-loop-row
invariant-loop-row g l = l.page ≡ wired lp2 g.row.N (wire_in g.row.N l.held) l.at l.initial.page l.row
