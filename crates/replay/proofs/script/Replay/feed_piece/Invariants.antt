-- Each turn takes a byte or is the last.
use Rattle.std.proofs.Common.{◌-◌, length}
use Rattle.replay.proofs.script.Replay.feed_piece.Given as goal

abbrev pub decreases-loop-taken : goal.decreases-loop-taken
decreases-loop-taken g l = length l.piece - l.taken
