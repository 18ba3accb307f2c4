-- `terminators::first_tab`: a line that has no tab leaves the first tab to the lines below it, down to the last.
use Prim.Native.Nat.{◌-◌, ◌≤◌}
use mathlib.Core.Path.{◌≡◌}
use Rattle.carriage.proofs.TabsBelow.{tab_below}
use Rattle.carriage.proofs.terminators.first_tab.Given as goal

-- no tab stands on the lines up to i
abbrev pub invariant-loop-i : goal.invariant-loop-i
invariant-loop-i l = (l.i ≤ 2000) × (tab_below l.tabs l.last l.above ≡ tab_below l.tabs l.last l.i)

abbrev pub decreases-loop-i : goal.decreases-loop-i
decreases-loop-i l = l.last - l.i
