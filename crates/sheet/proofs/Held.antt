-- What is done to a list of numbers keeps them below their bound: a number stored, lists joined, a part taken, a line struck.
use Prim.Native.Nat.{ℕ, zero, suc, ◌-◌, ◌/◌, ◌%◌, ◌^◌, ◌≤◌, ◌<◌}
use mathlib.Core.List.{List, [], ◌∷◌, ◌++◌}
use native.Mathlib.Omega.{arith}
use native.Mathlib.Nat.{mul-le-mul_right, mul-le-mul_left}
use lib.Bits.{or_lt}
use lib.ListN.{drop, get_or, length, length-drop, replicate, set, take}
use lib.Pow.{pow_mono}
use Rattle.sheet.specs.declared.Form.{Form}
use Rattle.sheet.specs.declared.Pitch.{Pitch}
use Rattle.sheet.specs.declared.Row.{Row}
use Rattle.sheet.specs.Dots.{blacken, blacken_all, struck}
use Rattle.sheet.specs.Edition.{Edition}
use Rattle.sheet.specs.Form.{form_rows, rows_per_line}
use Rattle.sheet.specs.Held.{All, AllBelow, HeldSlice}
use Rattle.sheet.proofs.Editions.{Countable}
use Rattle.sheet.proofs.Units.{twelve_rows}

module _ {A : Type 0} (P : A → Type 0) where
  pub all-get_or : (xs : List A) (i : ℕ) (a : A) → All P xs → P a → P (get_or xs i a)
  all-get_or [] i a h p = p
  all-get_or (x ∷ xs) zero a h p = h.0
  all-get_or (x ∷ xs) (suc i) a h p = all-get_or xs i a h.1 p

  pub all_set : (xs : List A) (i : ℕ) (a : A) → All P xs → P a → All P (set xs i a)
  all_set [] i a h p = tt
  all_set (x ∷ xs) zero a h p = (p, h.1)
  all_set (x ∷ xs) (suc i) a h p = (h.0, all_set xs i a h.1 p)

  pub all_append : (xs ys : List A) → All P xs → All P ys → All P (xs ++ ys)
  all_append [] ys h k = k
  all_append (x ∷ xs) ys h k = (h.0, all_append xs ys h.1 k)

  pub all_take : (n : ℕ) (xs : List A) → All P xs → All P (take n xs)
  all_take zero xs h = tt
  all_take (suc n) [] h = tt
  all_take (suc n) (x ∷ xs) h = (h.0, all_take n xs h.1)

  pub all_drop : (n : ℕ) (xs : List A) → All P xs → All P (drop n xs)
  all_drop zero xs h = h
  all_drop (suc n) [] h = tt
  all_drop (suc n) (x ∷ xs) h = all_drop n xs h.1

  pub all_replicate : (n : ℕ) (a : A) → P a → All P (replicate n a)
  all_replicate zero a p = tt
  all_replicate (suc n) a p = (p, all_replicate n a p)

-- the rest of a slice
pub rest_held : (size n : ℕ) (xs : List ℕ) → HeldSlice size xs → HeldSlice size (drop n xs)
rest_held size n xs h =
    let fewer : length (drop n xs) ≤ length xs = omega (arith, length-drop n xs) in
    record { below = all_drop (λ x. x < 256 ^ size) n xs h.below; room = omega (arith, h.room, mul-le-mul_right size fewer) }

-- a dot is one of a byte's eight bits
blacken-below : (page : List ℕ) (d : ℕ) → AllBelow 256 page → AllBelow 256 (blacken page d)
unfolding blacken
blacken-below page d h =
    let P : ℕ → Type 0 = λ x. x < 256 in
    all_set P page (d / 8) _ h
    (or_lt 8 (get_or page (d / 8) 0) (2 ^ (7 - d % 8)) (all-get_or P page (d / 8) 0 h (omega arith))
    (omega (arith, pow_mono {i = 7 - d % 8} {j = 7} (omega arith))))

blacken_all-below : (page ds : List ℕ) → AllBelow 256 page → AllBelow 256 (blacken_all page ds)
unfolding blacken_all
blacken_all-below page [] h = h
blacken_all-below page (d ∷ ds) h = blacken_all-below (blacken page d) ds (blacken-below page d h)

-- a page of bytes with a line struck is one
pub struck-below : (e : Edition) (page line : List ℕ) (at : Row) (pitch : Pitch) → AllBelow 256 page → AllBelow 256 (struck e page line at pitch)
unfolding struck
struck-below e page line at pitch h = blacken_all-below page _ h

-- the rows of a form that the edition allows, counted
pub rows_counted : {e : Edition} → Countable e → (f : Form) → f.lines ≤ e.longest → form_rows f < 2 ^ 64
unfolding form_rows
rows_counted {e} c f h =
    omega (
      arith,
      c.rows,
      mul-le-mul_right (rows_per_line f.spacing) h,
      mul-le-mul_left e.longest (twelve_rows f.spacing),
    )
