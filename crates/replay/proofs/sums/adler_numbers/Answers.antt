-- A turn takes the two bytes of a number more.
use Rattle.std.proofs.Common.{◌∙◌, ℕ, ◌+◌, List, ◌∷◌, get_or, drop, ap, arith}
use Rattle.replay.specs.Adler.{sum_on, two_bytes}
use Rattle.replay.proofs.TwoBytes.{number_more}
use Rattle.replay.proofs.sums.adler_numbers.Goals as goal

pub loop-number-preserved : goal.loop-number-preserved
loop-number-preserved c =
    let i = c.loop-number.number-index in
    let halves = c.loop-number.halves in
    let bs = c.to_be_bytes.result in
    let rest : List ℕ = two_bytes (drop (i + 1) c.args.numbers.now) in
    c.loop-number.invariant
    ∙ ap (λ (xs : List ℕ). sum_on xs halves.first halves.second)
    (number_more c.args.numbers.now bs i c.loop-number-test.true (omega (arith, c.type_inv.numbers i)) c.to_be_bytes.ensures)
    ∙ c.with.ensures (get_or bs 1 0 ∷ rest)
    ∙ c.with-halves.ensures rest
