-- Entering keeps every number of the line store within sixteen bits.
use Prim.Native.Nat.{ℕ, zero, suc, ◌+◌, ◌*◌, ◌/◌, ◌<◌}
use mathlib.Core.Bool.{Bool, true, false, cond}
use mathlib.Core.List.{List}
use native.Mathlib.Omega.{arith}
use lib.Bits.{or_lt}
use lib.ListN.{get_or}
use Rattle.sheet.specs.Held.{AllBelow}
use Rattle.sheet.proofs.Held.{all-get_or, all_set}
use Rattle.glyph.specs.Entering.{cell, enter, enter_glyph, enter_narrow, enter_wide, or_in, underscore}
use Rattle.glyph.specs.Words.{column}

-- either of two line stores
below-cond : (t : Bool) (a b : List ℕ) → AllBelow 65536 a → AllBelow 65536 b → AllBelow 65536 (cond t a b)
below-cond true a b h k = h
below-cond false a b h k = k

pub or_in-below : (at wires : ℕ) (line : List ℕ) → wires < 65536 → AllBelow 65536 line → AllBelow 65536 (or_in at wires line)
unfolding or_in
or_in-below at wires line w h =
    let P : ℕ → Type 0 = λ x. x < 65536 in
    all_set P line at _ h (or_lt 16 wires (get_or line at 0) w (all-get_or P line at 0 h (omega arith)))

-- a glyph's column has nine wires
column-below : (glyphs : List ℕ) (n k : ℕ) → column glyphs n k < 65536
unfolding column
column-below glyphs n k = omega arith

module _ (glyphs : List ℕ) (n at stride : ℕ) (line : List ℕ) (h : AllBelow 65536 line) where
  narrow_below : (k : ℕ) → AllBelow 65536 (enter_narrow k glyphs n at stride line)
  unfolding enter_narrow
  narrow_below zero = h
  narrow_below (suc k) = or_in-below (at + stride * k) _ _ (column-below glyphs n k) (narrow_below k)

  wide_below : (k : ℕ) → AllBelow 65536 (enter_wide k glyphs n at stride line)
  unfolding enter_wide
  wide_below zero = h
  wide_below (suc k) =
      or_in-below (at + stride * (2 * k + 1)) _ _ (column-below glyphs n k)
      (or_in-below (at + stride * (2 * k)) _ _ (column-below glyphs n k) (wide_below k))

underscore-below : (k at stride : ℕ) (line : List ℕ) → AllBelow 65536 line → AllBelow 65536 (underscore k at stride line)
unfolding underscore
underscore-below zero at stride line h = h
underscore-below (suc k) at stride line h = or_in-below (at + stride * (2 * k)) 1 _ (omega arith) (underscore-below k at stride line h)

pub enter-below : (glyphs : List ℕ) (n : ℕ) (elongated underscored : Bool) (at stride : ℕ) (line : List ℕ) → AllBelow 65536 line
    → AllBelow 65536 (enter glyphs n elongated underscored at stride line)
unfolding enter enter_glyph
enter-below glyphs n elongated underscored at stride line h =
    let inked : List ℕ = enter_glyph glyphs n elongated at stride line in
    let k : AllBelow 65536 inked = below-cond elongated _ _ (wide_below glyphs n at stride line h 7) (narrow_below glyphs n at stride line h 7) in
    below-cond underscored _ _ (underscore-below (cell elongated / 2) at stride inked k) k
