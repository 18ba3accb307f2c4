-- `groups::fields`: each turn puts the next column below the fields; with those of the columns left below them they are the fields of all eight, and
-- each takes five bits at most.
use Prim.Native.Nat.{◌*◌, ◌^◌, ◌<◌}
use mathlib.Core.Path.{◌≡◌}
use lib.ListN.{drop}
use Rattle.striking.specs.Groups.{fields}
use Rattle.striking.proofs.groups.fields.Given as goal

abbrev pub invariant-loop-column : goal.invariant-loop-column
invariant-loop-column g l =
    (fields (2 ^ g.row.N) l.skip (drop l.column-index l.columns) l.f ≡ fields (2 ^ g.row.N) l.skip l.columns 0) × (l.f < 2 ^ (5 * l.column-index))
