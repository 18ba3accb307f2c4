-- How `src/` turns sixteen columns of a 6215 into nine wires: numbers made of others by masks, exclusive `or` and shifts. It states no rule.
use Rattle.std.specs.Prelude.{ℕ, ◌+◌, ◌*◌, ◌/◌, ◌^◌, List, [], ◌∷◌, drop, get_or, take}
use Rattle.std.specs.Int.Bits.{bit_and, bit_xor}
use Rattle.striking.specs.Groups.{side_by_side}

-- A number made of some others, of which `number` names one, from 0 on.
pub data Made : Type 0 where
  number : ℕ → Made
  masked : ℕ → Made → Made
  crossed : Made → Made → Made
  higher lower : ℕ → Made → Made

-- the number; `higher` and `lower` move it by so many bits
unfoldable pub made : List ℕ → Made → ℕ
made ns (number i) = get_or ns i 0
made ns (masked m x) = bit_and (made ns x) m
made ns (crossed x y) = bit_xor (made ns x) (made ns y)
made ns (higher s x) = made ns x * 2 ^ s
made ns (lower s x) = made ns x / 2 ^ s

-- a number in which the bits that `moved` names have changed places with those s bits higher
unfoldable pub turn : ℕ → ℕ → Made → Made
turn moved s x =
    let differing : Made = masked moved (crossed x (lower s x)) in
    crossed (crossed x differing) (higher s differing)

-- four wires of sixteen columns, each wire's sixteen bits side by side
unfoldable pub turned : Made → Made
turned x = turn 0x0000555500005555 17 (turn 0x0000000033333333 34 x)

-- the eight lowest wires of four columns, and above each column's those of the column eight further on
unfoldable pub paired : Made → Made → Made
paired four further = crossed (masked 0x00FF00FF00FF00FF four) (higher 8 (masked 0x00FF00FF00FF00FF further))

-- where the lower half of each byte of a number differs from the higher half of that of another
unfoldable pub differing : Made → Made → Made
differing x y = masked 0x0F0F0F0F0F0F0F0F (crossed x (lower 4 y))

-- the eight lowest wires of columns 0 to 3 and 8 to 11, and of columns 4 to 7 and 12 to 15
unfoldable pub left : Made
left = paired (number 0) (number 2)

unfoldable pub right : Made
right = paired (number 1) (number 3)

-- wires 2 to 5, sixteen bits each, wire 2 lowest: in the lower byte columns 0 to 7, column 0 highest, in the higher one columns 8 to 15
unfoldable pub two_to_five : Made
two_to_five = turned (crossed left (differing left right))

-- wires 6 to 9, in the same way
unfoldable pub six_to_nine : Made
six_to_nine = turned (crossed right (higher 4 (differing left right)))

-- wire 1, in the lowest sixteen bits, in the same way
unfoldable pub topmost : Made
topmost =
    let front : Made = crossed (lower 1 (masked 0x0100010001000100 (number 0))) (lower 5 (masked 0x0100010001000100 (number 1))) in
    let apart : Made =
    crossed (crossed front (higher 7 (masked 0x0100010001000100 (number 2)))) (higher 3 (masked 0x0100010001000100 (number 3))) in
    let near : Made = crossed apart (lower 17 apart) in
    crossed near (lower 34 near)

-- the sixteen columns of a line from column c on, four side by side in each number
unfoldable pub fours : List ℕ → ℕ → List ℕ
fours line c =
    side_by_side (take 4 (drop c line)) ∷ side_by_side (take 4 (drop (c + 4) line)) ∷ side_by_side (take 4 (drop (c + 8) line))
    ∷ side_by_side (take 4 (drop (c + 12) line)) ∷ []
