-- `groups::join`: each turn joins the next byte; those joined so far are the number without the bytes that are left.
use Prim.Native.Nat.{◌-◌, ◌*◌, ◌/◌, ◌^◌}
use mathlib.Core.Path.{◌≡◌}
use Rattle.striking.specs.Groups.{join}
use Rattle.striking.proofs.groups.join.Given as goal

abbrev pub invariant-loop-i : goal.invariant-loop-i
invariant-loop-i g l = l.page ≡ join l.initial.page l.at l.i (l.dots / 2 ^ (8 * (g.row.N - l.i)))
