-- `downloads::copy`: the first i bytes are those of `from`, the rest those that were there.
use Rattle.std.proofs.Common.{◌<◌, length, arith}
use Rattle.commands.proofs.Copying.{copy_more}
use Rattle.commands.proofs.downloads.copy.Goals as goal

pub loop-i-preserved : goal.loop-i-preserved
loop-i-preserved c =
    let a = c.args in
    let l = c.loop-i in
    let ht : l.i < length a.to.now = omega arith in
    let hf : l.i < length a.from.now = omega arith in
    simp l.invariant (copy_more a.to.now a.from.now l.i ht hf)
