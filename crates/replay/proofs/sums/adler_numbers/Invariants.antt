-- At each turn the sum of what is left, from the halves so far, is the sum of all; a number is two bytes.
use Rattle.std.proofs.Common.{◌≡◌, drop}
use Rattle.replay.specs.Adler.{sum_on, two_bytes}
use Rattle.replay.proofs.sums.adler_numbers.Given as goal

abbrev pub invariant-loop-number : goal.invariant-loop-number
invariant-loop-number l =
    sum_on (two_bytes l.numbers) 1 0 ≡ sum_on (two_bytes (drop l.number-index l.numbers)) l.halves.first l.halves.second
