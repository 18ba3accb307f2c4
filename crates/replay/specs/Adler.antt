-- The Adler-32 sum of bytes.
use Rattle.std.specs.Prelude.{ℕ, ◌+◌, ◌*◌, ◌/◌, ◌%◌, List, [], ◌∷◌}

-- The sum of bytes after others: `first` is one more than the sum of those, and `second` the sum of what `first` was after each, both modulo 65,521.
unfoldable pub sum_on : List ℕ → ℕ → ℕ → ℕ
sum_on [] first second = second * 65536 + first
sum_on (b ∷ bs) first second = sum_on bs ((first + b) % 65521) ((second + (first + b) % 65521) % 65521)

abbrev pub adler : List ℕ → ℕ
adler bs = sum_on bs 1 0

-- numbers of sixteen bits as bytes, high first
unfoldable pub two_bytes : List ℕ → List ℕ
two_bytes [] = []
two_bytes (n ∷ ns) = n / 256 ∷ n % 256 ∷ two_bytes ns
