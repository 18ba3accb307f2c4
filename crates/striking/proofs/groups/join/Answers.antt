-- `groups::join`: each turn joins the next byte; those joined so far are the number without the bytes that are left.
use mathlib.Core.Path.{refl}
use native.Mathlib.Omega.{arith}
use Rattle.striking.specs.Groups.{join, join_byte}
use Rattle.striking.proofs.Joining.{join_more}
use Rattle.striking.proofs.groups.join.Goals as goal

pub loop-i-init : goal.loop-i-init
unfolding join
loop-i-init g c = refl

pub loop-i-preserved : goal.loop-i-preserved
unfolding join_byte
loop-i-preserved g c = join_more _ _ _ _ _ c.loop-i.i (omega arith) c.loop-i.invariant
