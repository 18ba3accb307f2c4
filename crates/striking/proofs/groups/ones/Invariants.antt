-- `groups::ones`: each turn puts a 1 below those before it; each field takes five bits at most.
use Prim.Native.Nat.{◌*◌, ◌^◌, ◌<◌}
use mathlib.Core.Path.{◌≡◌}
use Rattle.striking.specs.Groups.{ones}
use Rattle.striking.proofs.groups.ones.Given as goal

abbrev pub invariant-loop : goal.invariant-loop
invariant-loop g l = (l.all ≡ ones (2 ^ g.row.N) l.counter) × (l.all < 2 ^ (5 * l.counter))
