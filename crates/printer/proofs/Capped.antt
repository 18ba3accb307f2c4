-- A number of a command counts by its true value, up to 9,999.
use Prim.Native.Nat.{ℕ, ◌+◌, ◌*◌, ◌<◌, ◌≤◌}
use mathlib.Core.Bool.{Bool, true, false, cond, true≢false}
use mathlib.Core.List.{List, [], ◌∷◌}
use mathlib.Core.Path.{◌≡◌, refl, ap, sym, ◌∙◌}
use native.Mathlib.Omega.{arith}
use borrow.Author.Tests.{le-ltb, leb-true, ltb-false, ne_eqb}
use lib.Dec.{leb, ltb}
use Rattle.std.specs.Prelude.{None, Option, Some}
use Rattle.printer.specs.Brackets.{capped, continues, with_digit}

-- some decimal digits behind a number
unfoldable pub decimal : ℕ → List ℕ → ℕ
decimal n [] = n
decimal n (d ∷ ds) = decimal (10 * n + d) ds

-- some digits read
unfoldable pub digits : List ℕ → Option ℕ → Option ℕ
digits [] s = s
digits (d ∷ ds) s = digits ds (with_digit d s)

-- one digit more, capped before or after it
one_digit : (n d : ℕ) (t : Bool) → ltb n 9999 ≡ t → capped (10 * cond t n 9999 + d) ≡ capped (10 * n + d)
one_digit n d true q = refl
one_digit n d false q =
    let l : 9999 ≤ n = ltb-false _ _ q in
    rw (le-ltb (10 * n + d) 9999 (omega arith), le-ltb (10 * 9999 + d) 9999 (omega arith))

pub digits_from : (ds : List ℕ) (n : ℕ) → digits ds (Some (capped n)) ≡ Some (capped (decimal n ds))
unfolding digits decimal with_digit
digits_from [] n = refl
digits_from (d ∷ ds) n = ap (λ (k : ℕ). digits ds (Some k)) (one_digit n d (ltb n 9999) refl) ∙ digits_from ds (10 * n + d)

-- THE LAW: digits 0 to 9 are read as their decimal number, up to 9,999
pub digits_count : (d : ℕ) (ds : List ℕ) → d < 9999 → digits (d ∷ ds) None ≡ Some (capped (decimal d ds))
unfolding digits with_digit
digits_count d ds h = ap (λ (k : ℕ). digits ds (Some k)) (sym (below d h)) ∙ digits_from ds d
  where
    below : (k : ℕ) → k < 9999 → capped k ≡ k
    below k l = go (ltb k 9999) refl
      where
        go : (t : Bool) → ltb k 9999 ≡ t → cond t k 9999 ≡ k
        go true q = refl
        go false q = absurd (omega (arith, ltb-false k 9999 q))

-- a byte that goes on and is no semicolon is 30 at least
pub digit_least : (b : ℕ) → continues b ≡ true → (b ≡ 0x3b → ⊥) → 0x30 ≤ b
unfolding continues
digit_least b h none = go (leb 0x30 b) refl
  where
    go : (t : Bool) → leb 0x30 b ≡ t → 0x30 ≤ b
    go true q = leb-true 0x30 b q
    go false q = absurd (true≢false (sym (rw (q, ne_eqb b 0x3b none) at h)))
