-- The bits of a number, and of numbers joined by `or`.
use Prim.Native.Nat.{ℕ, zero, suc, ◌+◌, ◌-◌, ◌/◌, ◌%◌, ◌^◌, ◌<◌}
use mathlib.Core.Path.{◌≡◌, refl, sym, ap, ◌∙◌}
use mathlib.Core.Logic.{◌≢◌}
use native.Mathlib.Omega.{arith}
use native.Mathlib.Nat.{div_self, div-eq_of_lt, mul-div_cancel, mul-mod_left, pow-suc}
use native.Mathlib.Decide.{dec_lt}
use lib.Arith.{bin_ind}
use lib.Pow.{pow_pos, pow-lt, pow-add}
use lib.Bits.{bit_or, or_shr, or_mod, or_zero_r}
use Rattle.sheet.specs.Dots.{bit}

-- a bit is 0 or 1
pub bit_lt : (n k : ℕ) → bit n k < 2
unfolding bit
bit_lt n k = omega arith

-- a bit of an `or` is the `or` of the two bits
bit-bit_or : (a b k : ℕ) → bit (bit_or a b) k ≡ bit_or (bit a k) (bit b k)
unfolding bit
bit-bit_or a b k = ap (λ (x : ℕ). x % 2) (or_shr a b k) ∙ or_mod (a / 2 ^ k) (b / 2 ^ k) 1

-- a power of 2 has its own bit set
bit_pow_same : (k : ℕ) → bit (2 ^ k) k ≡ 1
unfolding bit
bit_pow_same k = ap (λ (x : ℕ). x % 2) (div_self (pow_pos k))

-- a power of 2 has every other bit clear
bit_pow_other : (j k : ℕ) → j ≢ k → bit (2 ^ j) k ≡ 0
unfolding bit
bit_pow_other j k ne = go (dec_lt j k)
  where
    higher : (m : ℕ) → 2 ^ (suc m + k) / 2 ^ k % 2 ≡ 0
    higher m =
        ap (λ (x : ℕ). x / 2 ^ k % 2) (pow-add 2 (suc m) k)
        ∙ ap (λ (x : ℕ). x % 2) (mul-div_cancel (2 ^ suc m) (pow_pos k) ∙ pow-suc 2 m)
        ∙ mul-mod_left (2 ^ m) 2

    go : Dec (j < k) → 2 ^ j / 2 ^ k % 2 ≡ 0
    go (yes h) = ap (λ (x : ℕ). x % 2) (div-eq_of_lt (pow-lt h))
    go (no h) =
        let e : suc (j - k - 1) + k ≡ j = omega arith in
        ap (λ (x : ℕ). 2 ^ x / 2 ^ k % 2) (sym e) ∙ higher (j - k - 1)

-- a bit with 1 joined to it is 1
or_one : (b : ℕ) → b < 2 → bit_or b 1 ≡ 1
or_one zero h = refl
or_one (suc zero) h = refl
or_one (suc (suc b)) h = absurd (omega arith)

-- setting a bit sets it
pub bit_set_same : (a k : ℕ) → bit (bit_or a (2 ^ k)) k ≡ 1
bit_set_same a k = bit-bit_or a (2 ^ k) k ∙ ap (bit_or (bit a k)) (bit_pow_same k) ∙ or_one (bit a k) (bit_lt a k)

-- setting a bit keeps every other bit
pub bit_set_other : (a j k : ℕ) → j ≢ k → bit (bit_or a (2 ^ j)) k ≡ bit a k
bit_set_other a j k ne = bit-bit_or a (2 ^ j) k ∙ ap (bit_or (bit a k)) (bit_pow_other j k ne) ∙ or_zero_r (bit a k)

-- `or` of three digits
or_three : (x y z : ℕ) → x < 2 → y < 2 → z < 2 → bit_or (bit_or x y) z ≡ bit_or x (bit_or y z)
or_three zero y z h k l = refl
or_three (suc zero) zero z h k l = refl
or_three (suc zero) (suc zero) zero h k l = refl
or_three (suc zero) (suc zero) (suc zero) h k l = refl
or_three (suc zero) (suc zero) (suc (suc z)) h k l = absurd (omega arith)
or_three (suc zero) (suc (suc y)) z h k l = absurd (omega arith)
or_three (suc (suc x)) y z h k l = absurd (omega arith)

-- a number is its half and its lowest digit
halves : (a b : ℕ) → a / 2 ≡ b / 2 → a % 2 ≡ b % 2 → a ≡ b
halves a b p q = omega arith

-- `or` of three numbers may be taken from either side
pub or_assoc : (a b c : ℕ) → bit_or (bit_or a b) c ≡ bit_or a (bit_or b c)
or_assoc =
    bin_ind (λ (a : ℕ). (b c : ℕ) → bit_or (bit_or a b) c ≡ bit_or a (bit_or b c)) (λ b c. refl)
    (λ a ih b c.
    halves (bit_or (bit_or a b) c) (bit_or a (bit_or b c))
    (or_shr (bit_or a b) c 1
    ∙ ap (λ (x : ℕ). bit_or x (c / 2)) (or_shr a b 1)
    ∙ ih (b / 2) (c / 2)
    ∙ ap (bit_or (a / 2)) (sym (or_shr b c 1))
    ∙ sym (or_shr a (bit_or b c) 1))
    (or_mod (bit_or a b) c 1
    ∙ ap (λ (x : ℕ). bit_or x (c % 2)) (or_mod a b 1)
    ∙ or_three (a % 2) (b % 2) (c % 2) (omega arith) (omega arith) (omega arith)
    ∙ ap (bit_or (a % 2)) (sym (or_mod b c 1))
    ∙ sym (or_mod a (bit_or b c) 1)))
