-- What memory can hold: the numbers that a slice of the code has room for.
use Rattle.std.specs.Prelude.{ℕ, ◌*◌, ◌^◌, ◌<◌, List, [], ◌∷◌, length}

-- each of a list has a property
abbrev pub All : {A : Type 0} → (A → Type 0) → List A → Type 0
All P [] = Unit {0}
All P (x ∷ xs) = P x × All P xs

-- each number of a list is below n
abbrev pub AllBelow : ℕ → List ℕ → Type 0
AllBelow n xs = All (λ (x : ℕ). x < n) xs

-- numbers of some bytes each: every number has room in its bytes, and all of them take fewer than 2 ^ 63 bytes
pub record HeldSlice (size : ℕ) (xs : List ℕ) : Type 0 where
  pub below : AllBelow (256 ^ size) xs
  pub room : length xs * size < 2 ^ 63

-- bytes
abbrev pub HeldBytes : List ℕ → Type 0
HeldBytes xs = HeldSlice 1 xs

-- the sixteen-bit numbers of a line store, one a column
abbrev pub HeldColumns : List ℕ → Type 0
HeldColumns xs = HeldSlice 2 xs
