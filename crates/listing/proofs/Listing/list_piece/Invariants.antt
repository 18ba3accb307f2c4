-- Each turn takes a byte or is the last.
use Rattle.std.proofs.Common.{◌-◌, length}
use Rattle.listing.proofs.Listing.list_piece.Given as goal

abbrev pub decreases-loop-taken : goal.decreases-loop-taken
decreases-loop-taken g l = length l.piece - l.taken
