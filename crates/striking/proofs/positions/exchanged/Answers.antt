-- `positions::exchanged`: the bits moved up stay within 64, since the mask does.
use Prim.Native.Nat.{ℕ, ◌*◌, ◌/◌}
use mathlib.Core.Path.{ap}
use lib.Bits.{bit_and, bit_xor}
use Rattle.striking.specs.Turning.{made, turn}
use Rattle.striking.proofs.positions.exchanged.Goals as goal

pub returns : goal.returns
unfolding made turn
returns c s is =
    let a = c.args in
    ap (λ (up : ℕ). let differing = bit_and (bit_xor a.f (a.f / up)) a.moved in bit_xor (bit_xor a.f differing) (differing * up)) is
