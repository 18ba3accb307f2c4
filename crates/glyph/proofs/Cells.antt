-- What entering a character leaves in the positions of the line store.
use Prim.Native.Nat.{ℕ, zero, suc, ◌+◌, ◌*◌, ◌/◌, ◌≤◌, ◌<◌}
use mathlib.Core.Bool.{Bool, true, false}
use mathlib.Core.List.{List}
use mathlib.Core.Logic.{◌≢◌}
use mathlib.Core.Path.{◌≡◌, refl, ap, ◌∙◌}
use native.Mathlib.Omega.{arith}
use borrow.Author.Count.{below_more}
use lib.Bits.{bit_or}
use lib.ListN.{get_or, length}
use lib.Seq.{get_or-set_other, get_or-set_same}
use Rattle.glyph.specs.Entering.{cell, enter, enter_glyph, enter_narrow, enter_wide, or_in, underscore}
use Rattle.glyph.specs.Words.{column}
use Rattle.glyph.proofs.Lengths.{length_narrow, length-or_in, length-underscore, length_wide}
use Rattle.glyph.proofs.Strides.{distinct, later}

-- wires are or-ed in at their position
pub or_in_same : (at wires : ℕ) (line : List ℕ) → at < length line → get_or (or_in at wires line) at 0 ≡ bit_or wires (get_or line at 0)
unfolding or_in
or_in_same at wires line h = get_or-set_same line at _ 0 h

-- wires or-ed in leave every other position
pub or_in_other : (at wires : ℕ) (line : List ℕ) (c : ℕ) → c ≢ at → get_or (or_in at wires line) c 0 ≡ get_or line c 0
unfolding or_in
or_in_other at wires line c ne = get_or-set_other line at c _ 0 ne

-- none of the first `width` columns from `at` on stands at position c
abbrev pub Outside : ℕ → ℕ → ℕ → ℕ → Type 0
Outside at stride width c = (j : ℕ) → j < width → c ≢ at + stride * j

module _ (glyphs : List ℕ) (n at stride : ℕ) (line : List ℕ) where
  -- narrow, k columns leave the positions outside them
  narrow_outside : (k c : ℕ) → Outside at stride k c → get_or (enter_narrow k glyphs n at stride line) c 0 ≡ get_or line c 0
  unfolding enter_narrow
  narrow_outside zero c out = refl
  narrow_outside (suc k) c out = or_in_other _ _ _ _ (out k (omega arith)) ∙ narrow_outside k c (λ j lt. out j (omega arith))

  -- elongated, k columns leave the positions outside twice as many
  wide_outside : (k c : ℕ) → Outside at stride (2 * k) c → get_or (enter_wide k glyphs n at stride line) c 0 ≡ get_or line c 0
  unfolding enter_wide
  wide_outside zero c out = refl
  wide_outside (suc k) c out =
      or_in_other _ _ _ _ (out (2 * k + 1) (omega arith))
      ∙ or_in_other _ _ _ _ (out (2 * k) (omega arith))
      ∙ wide_outside k c (λ j lt. out j (omega arith))

-- an underscore of k columns leaves the positions outside twice as many
underscore_outside : (k at stride : ℕ) (line : List ℕ) (c : ℕ) → Outside at stride (2 * k) c → get_or (underscore k at stride line) c 0 ≡ get_or line c 0
unfolding underscore
underscore_outside zero at stride line c out = refl
underscore_outside (suc k) at stride line c out =
    or_in_other _ _ _ _ (out (2 * k) (omega arith)) ∙ underscore_outside k at stride line c (λ j lt. out j (omega arith))

module _ (glyphs : List ℕ) (n at stride : ℕ) (some : 1 ≤ stride) (line : List ℕ) where
  -- position c of the line store has column k of the glyph or-ed in
  abbrev Ored : List ℕ → ℕ → ℕ → Type 0
  Ored entered k c = get_or entered c 0 ≡ bit_or (column glyphs n k) (get_or line c 0)

  -- narrow, each of m columns is entered
  narrow_each : (m : ℕ) → at + stride * m ≤ length line → (k : ℕ) → k < m → Ored (enter_narrow m glyphs n at stride line) k (at + stride * k)
  unfolding enter_narrow
  narrow_each zero h k lt = absurd (omega arith)
  narrow_each (suc m) h k lt =
      below_more (λ (j : ℕ). Ored (enter_narrow (suc m) glyphs n at stride line) j (at + stride * j)) m
      (λ j below. or_in_other _ _ _ _ (omega (arith, later stride below)) ∙ narrow_each m (omega arith) j below)
      (or_in_same _ _ _ (omega (arith, length_narrow glyphs n at stride line m))
      ∙ ap (bit_or (column glyphs n m)) (narrow_outside glyphs n at stride line m _ (λ j below. omega (arith, later stride below))))
      k (omega arith)

  -- elongated, each of m columns is entered at the even place
  wide_even : (m : ℕ) → at + stride * (2 * m) ≤ length line → (k : ℕ) → k < m
      → Ored (enter_wide m glyphs n at stride line) k (at + stride * (2 * k))
  unfolding enter_wide
  wide_even zero h k lt = absurd (omega arith)
  wide_even (suc m) h k lt =
      below_more (λ (j : ℕ). Ored (enter_wide (suc m) glyphs n at stride line) j (at + stride * (2 * j))) m
      (λ j below.
      or_in_other _ _ _ _ (omega (arith, later stride below))
      ∙ or_in_other _ _ _ _ (omega (arith, later stride below))
      ∙ wide_even m (omega arith) j below)
      (or_in_other _ _ _ _ (omega arith)
      ∙ or_in_same _ _ _ (omega (arith, length_wide glyphs n at stride line m))
      ∙ ap (bit_or (column glyphs n m)) (wide_outside glyphs n at stride line m _ (λ j below. omega (arith, later stride below))))
      k (omega arith)

  -- elongated, each of m columns is entered at the odd place
  wide_odd : (m : ℕ) → at + stride * (2 * m) ≤ length line → (k : ℕ) → k < m
      → Ored (enter_wide m glyphs n at stride line) k (at + stride * (2 * k + 1))
  unfolding enter_wide
  wide_odd zero h k lt = absurd (omega arith)
  wide_odd (suc m) h k lt =
      below_more (λ (j : ℕ). Ored (enter_wide (suc m) glyphs n at stride line) j (at + stride * (2 * j + 1))) m
      (λ j below.
      or_in_other _ _ _ _ (omega (arith, later stride below))
      ∙ or_in_other _ _ _ _ (omega (arith, later stride below))
      ∙ wide_odd m (omega arith) j below)
      (or_in_same _ _ _ (simp length-or_in (omega (arith, length_wide glyphs n at stride line m)))
      ∙ ap (bit_or (column glyphs n m))
      (or_in_other _ _ _ _ (omega arith) ∙ wide_outside glyphs n at stride line m _ (λ j below. omega (arith, later stride below))))
      k (omega arith)

  -- narrow, column k of the glyph is or-ed into column k of the cell
  pub narrow_column : at + stride * 7 ≤ length line → (k : ℕ) → k < 7
      → get_or (enter_narrow 7 glyphs n at stride line) (at + stride * k) 0 ≡ bit_or (column glyphs n k) (get_or line (at + stride * k) 0)
  narrow_column = narrow_each 7

  -- elongated, into columns 2k and 2k + 1
  pub wide_column : at + stride * 14 ≤ length line → (k : ℕ) → k < 7
      → (get_or (enter_wide 7 glyphs n at stride line) (at + stride * (2 * k)) 0
      ≡ bit_or (column glyphs n k) (get_or line (at + stride * (2 * k)) 0))
      × (get_or (enter_wide 7 glyphs n at stride line) (at + stride * (2 * k + 1)) 0
      ≡ bit_or (column glyphs n k) (get_or line (at + stride * (2 * k + 1)) 0))
  wide_column h k lt = (wide_even 7 h k lt, wide_odd 7 h k lt)

module _ (at stride : ℕ) (some : 1 ≤ stride) (line : List ℕ) where
  -- an underscore sets wire 9 in every even column
  pub underscore_even : (k : ℕ) → at + stride * (2 * k) ≤ length line → (j : ℕ) → j < k
      → get_or (underscore k at stride line) (at + stride * (2 * j)) 0 ≡ bit_or 1 (get_or line (at + stride * (2 * j)) 0)
  unfolding underscore
  underscore_even zero h j lt = absurd (omega arith)
  underscore_even (suc k) h j lt =
      below_more
      (λ (i : ℕ). get_or (underscore (suc k) at stride line) (at + stride * (2 * i)) 0 ≡ bit_or 1 (get_or line (at + stride * (2 * i)) 0)) k
      (λ i below. or_in_other _ _ _ _ (omega (arith, later stride below)) ∙ underscore_even k (omega arith) i below)
      (or_in_same _ _ _ (omega (arith, length-underscore k at stride line))
      ∙ ap (bit_or 1) (underscore_outside k at stride line _ (λ i below. omega (arith, later stride below))))
      j (omega arith)

  -- an underscore leaves every odd column
  pub underscore_odd : (k j : ℕ) → get_or (underscore k at stride line) (at + stride * (2 * j + 1)) 0 ≡ get_or line (at + stride * (2 * j + 1)) 0
  unfolding underscore
  underscore_odd zero j = refl
  underscore_odd (suc k) j = or_in_other _ _ _ _ (distinct stride some at (2 * j + 1) (2 * k) (omega arith)) ∙ underscore_odd k j

-- a cell has 10 to 20 columns
pub cell_bounds : (elongated : Bool) → (10 ≤ cell elongated) × (cell elongated ≤ 20)
unfolding cell
cell_bounds true = (omega arith, omega arith)
cell_bounds false = (omega arith, omega arith)

-- the underscore has two columns for each that it sets
half_cells : (elongated : Bool) → 2 * (cell elongated / 2) ≡ cell elongated
unfolding cell
half_cells true = refl
half_cells false = refl

-- a glyph leaves the positions at which no column of its cell stands
glyph_outside : (glyphs : List ℕ) (n : ℕ) (elongated : Bool) (at stride : ℕ) (line : List ℕ) (c : ℕ) → Outside at stride (cell elongated) c
    → get_or (enter_glyph glyphs n elongated at stride line) c 0 ≡ get_or line c 0
unfolding cell enter_glyph
glyph_outside glyphs n true at stride line c out = wide_outside glyphs n at stride line 7 c (λ j lt. out j (omega arith))
glyph_outside glyphs n false at stride line c out = narrow_outside glyphs n at stride line 7 c (λ j lt. out j (omega arith))

-- a character leaves the positions at which no column of its cell stands
pub enter_outside : (glyphs : List ℕ) (n : ℕ) (elongated underscored : Bool) (at stride : ℕ) (line : List ℕ) (c : ℕ)
    → Outside at stride (cell elongated) c → get_or (enter glyphs n elongated underscored at stride line) c 0 ≡ get_or line c 0
unfolding enter
enter_outside glyphs n elongated true at stride line c out =
    underscore_outside (cell elongated / 2) at stride _ c (rw half_cells out) ∙ glyph_outside glyphs n elongated at stride line c out
enter_outside glyphs n elongated false at stride line c out = glyph_outside glyphs n elongated at stride line c out
