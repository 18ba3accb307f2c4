-- A piece has at least the two bytes of its length.
use Rattle.std.proofs.Common.{length}
use Rattle.replay.proofs.script.Replay.feed_pieces.Given as goal

abbrev pub decreases-loop-left : goal.decreases-loop-left
decreases-loop-left g l = length l.left
