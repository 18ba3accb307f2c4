-- Entering a character keeps the length of the line store.
use Prim.Native.Nat.{ℕ, zero, suc, ◌/◌}
use mathlib.Core.Bool.{Bool, true, false, cond}
use mathlib.Core.List.{List}
use mathlib.Core.Path.{◌≡◌, refl, ◌∙◌}
use lib.ListN.{length, length-set}
use Rattle.glyph.specs.Entering.{cell, enter, enter_glyph, enter_narrow, enter_wide, or_in, underscore}

-- either of two lists of one length
length-cond : (t : Bool) (a b : List ℕ) (n : ℕ) → length a ≡ n → length b ≡ n → length (cond t a b) ≡ n
length-cond true a b n h k = h
length-cond false a b n h k = k

pub length-or_in : (at wires : ℕ) (line : List ℕ) → length (or_in at wires line) ≡ length line
unfolding or_in
length-or_in at wires line = length-set line at _

module _ (glyphs : List ℕ) (n at stride : ℕ) (line : List ℕ) where
  pub length_narrow : (k : ℕ) → length (enter_narrow k glyphs n at stride line) ≡ length line
  unfolding enter_narrow
  length_narrow zero = refl
  length_narrow (suc k) = length-or_in _ _ _ ∙ length_narrow k

  pub length_wide : (k : ℕ) → length (enter_wide k glyphs n at stride line) ≡ length line
  unfolding enter_wide
  length_wide zero = refl
  length_wide (suc k) = length-or_in _ _ _ ∙ length-or_in _ _ _ ∙ length_wide k

pub length-underscore : (k at stride : ℕ) (line : List ℕ) → length (underscore k at stride line) ≡ length line
unfolding underscore
length-underscore zero at stride line = refl
length-underscore (suc k) at stride line = length-or_in _ _ _ ∙ length-underscore k at stride line

pub length-enter : (glyphs : List ℕ) (n : ℕ) (elongated underscored : Bool) (at stride : ℕ) (line : List ℕ)
    → length (enter glyphs n elongated underscored at stride line) ≡ length line
unfolding enter enter_glyph
length-enter glyphs n elongated underscored at stride line =
    let inked : List ℕ = enter_glyph glyphs n elongated at stride line in
    let h : length inked ≡ length line = length-cond elongated _ _ _ (length_wide glyphs n at stride line 7) (length_narrow glyphs n at stride line 7) in
    length-cond underscored _ _ _ (length-underscore (cell elongated / 2) at stride inked ∙ h) h
