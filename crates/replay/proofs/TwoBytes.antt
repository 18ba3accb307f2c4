-- Numbers as bytes: those that are left begin with the two bytes of the first.
use Rattle.std.proofs.Common.{◌≡◌, ℕ, ◌+◌, ◌/◌, ◌%◌, ◌^◌, ◌<◌, List, [], ◌∷◌, length, get_or, drop, arith, add-one, drop-cons}
use Rattle.replay.specs.Adler.{two_bytes}

pub number_more : (ns bs : List ℕ) (i : ℕ) → i < length ns → get_or ns i 0 < 2 ^ 16
    → bs ≡ get_or ns i 0 / 256 % 256 ∷ get_or ns i 0 % 256 ∷ []
    → two_bytes (drop i ns) ≡ get_or bs 0 0 ∷ get_or bs 1 0 ∷ two_bytes (drop (i + 1) ns)
unfolding two_bytes
number_more ns bs i h k p =
    let high : get_or ns i 0 / 256 % 256 ≡ get_or ns i 0 / 256 = omega arith in
    simp (drop-cons ns i 0 h, add-one i, p, high)
