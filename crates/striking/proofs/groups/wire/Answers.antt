-- `groups::wire`: the dots are the definition's, since the mask moved to the top of its field stays within 64 bits.
use Prim.Native.Nat.{ℕ, ◌*◌, ◌/◌, ◌^◌}
use mathlib.Core.Path.{ap, ◌∙◌}
use lib.Bits.{bit_and}
use Rattle.striking.specs.Groups.{join, wire_dots}
use Rattle.striking.proofs.Grouping.{field_top}
use Rattle.striking.proofs.groups.wire.Goals as goal

pub returns : goal.returns
unfolding wire_dots
returns g c =
    let a = c.args in
    let x : ℕ = a.fields / 2 ^ a.wire in
    c.join.ensures
    ∙ ap (join a.page.now a.at g.row.N)
    (field_top x c.ones.result g.row.N c.requires.1 c.requires.2 c.ones.ensures.below
    ∙ ap (λ (m : ℕ). bit_and x m * (2 ^ g.row.N / 2)) c.ones.ensures.value)
