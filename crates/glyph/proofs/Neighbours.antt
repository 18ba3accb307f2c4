-- As whole numbers, columns have no bit in common exactly where no wire is set in both: a bit of their `and` is the `and` of their bits.
use Prim.Native.Nat.{ℕ, zero, suc, ◌+◌, ◌/◌, ◌%◌, ◌^◌, ◌<◌}
use mathlib.Core.Logic.{◌↔◌}
use mathlib.Core.Path.{◌≡◌, refl, ap, ap₂, ◌∙◌}
use native.Mathlib.Nat.{zero-div}
use native.Mathlib.Omega.{arith}
use lib.Bits.{bit_and, and_lt, and_mod, and_shr}
use lib.Pow.{shr-shr}
use Rattle.sheet.specs.Dots.{bit}
use Rattle.sheet.proofs.Bits.{bit_lt}

-- a bit of an `and` is the `and` of the two bits
bit-bit_and : (a b k : ℕ) → bit (bit_and a b) k ≡ bit_and (bit a k) (bit b k)
unfolding bit
bit-bit_and a b k = ap (λ (x : ℕ). x % 2) (and_shr a b k) ∙ and_mod (a / 2 ^ k) (b / 2 ^ k) 1

-- two bits of which not both are 1 have no 1 in common
and_none : (a b : ℕ) → a < 2 → b < 2 → (a ≡ 1 → b ≡ 1 → ⊥) → bit_and a b ≡ 0
and_none zero b p q h = refl
and_none (suc zero) zero p q h = refl
and_none (suc zero) (suc zero) p q h = absurd (h refl refl)
and_none (suc zero) (suc (suc b)) p q h = absurd (omega arith)
and_none (suc (suc a)) b p q h = absurd (omega arith)

-- a number of m bits none of which is set is 0
no_bits : (m n : ℕ) → n < 2 ^ m → ((k : ℕ) → k < m → bit n k ≡ 0) → n ≡ 0
unfolding bit
no_bits zero n h clear = omega arith
no_bits (suc m) n h clear =
    let low : n % 2 ≡ 0 = omega (arith, clear 0 (omega arith)) in
    let high : n / 2 ≡ 0 = no_bits m (n / 2) (omega arith) (λ k lt. ap (λ (x : ℕ). x % 2) (shr-shr n 1 k) ∙ clear (1 + k) (omega arith)) in
    omega arith

-- a bit that is set in two numbers is one that they have in common
set_in_both : (a b k : ℕ) → bit_and a b ≡ 0 → bit a k ≡ 1 → bit b k ≡ 1 → ⊥
unfolding bit
set_in_both a b k none p q =
    let one : bit (bit_and a b) k ≡ 1 = bit-bit_and a b k ∙ ap₂ bit_and p q in
    let nil : bit (bit_and a b) k ≡ 0 = ap (λ (n : ℕ). bit n k) none ∙ ap (λ (n : ℕ). n % 2) (zero-div (2 ^ k)) in
    omega arith

-- two columns below 512 have no bit in common exactly where no wire 1 to 9, bits 8 to 0, is set in both
pub no_wire_shared : (a b : ℕ) → a < 512 → b < 512 → (bit_and a b ≡ 0) ↔ ((w : ℕ) → w < 9 → bit a w ≡ 1 → bit b w ≡ 1 → ⊥)
no_wire_shared a b la lb = (
  λ none w lt. set_in_both a b w none,
  λ h. no_bits 9 (bit_and a b) (and_lt 9 a b la lb) (λ w lt. bit-bit_and a b w ∙ and_none (bit a w) (bit b w) (bit_lt a w) (bit_lt b w) (h w lt)),
)
