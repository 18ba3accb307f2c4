-- At each turn the sum of what is left, from the halves so far, is the sum of all.
use Rattle.std.proofs.Common.{◌≡◌, drop}
use Rattle.replay.specs.Adler.{sum_on}
use Rattle.replay.proofs.sums.adler.Given as goal

abbrev pub invariant-loop-byte : goal.invariant-loop-byte
invariant-loop-byte l = sum_on l.bytes 1 0 ≡ sum_on (drop l.byte-index l.bytes) l.halves.first l.halves.second
