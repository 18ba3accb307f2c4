-- One turn of each loop that enters columns into the line store, said of the definition that it computes.
use Prim.Native.Nat.{ℕ, ◌+◌, ◌*◌, ◌≤◌, ◌<◌}
use mathlib.Core.List.{List}
use mathlib.Core.Path.{◌≡◌}
use native.Mathlib.Numerals.{add-one}
use native.Mathlib.Omega.{arith}
use Rattle.glyph.specs.Words.{column}
use Rattle.glyph.specs.Entering.{enter_narrow, enter_wide, or_in, underscore}
use Rattle.glyph.proofs.Strides.{later}

-- the column of turn k ends within a line that all n turns fit
pub next_fits : (at stride : ℕ) {k n long : ℕ} → k < n → at + stride * n ≤ long → at + stride * k + stride ≤ long
next_fits at stride more fits = omega (arith, later stride more)

module _ (glyphs : List ℕ) (n at stride : ℕ) (entry : List ℕ) (k wires : ℕ) {line : List ℕ} (here : wires ≡ column glyphs n k) where
  -- one column more, narrow
  pub narrow_turn : {next : List ℕ} → line ≡ enter_narrow k glyphs n at stride entry → next ≡ or_in (at + stride * k) wires line
      → next ≡ enter_narrow (k + 1) glyphs n at stride entry
  unfolding enter_narrow
  narrow_turn made e = rw add-one (cc)

  -- one column more, elongated
  pub wide_turn : {first next : List ℕ} → line ≡ enter_wide k glyphs n at stride entry → first ≡ or_in (at + stride * (2 * k)) wires line
      → next ≡ or_in (at + stride * (2 * k) + stride) wires first → next ≡ enter_wide (k + 1) glyphs n at stride entry
  unfolding enter_wide
  wide_turn made d e = let odd : at + stride * (2 * k) + stride ≡ at + stride * (2 * k + 1) = omega arith in rw add-one (cc)

-- one column more is underscored
pub underscore-turn : (at stride : ℕ) (entry : List ℕ) (k : ℕ) {line next : List ℕ} → line ≡ underscore k at stride entry
    → next ≡ or_in (at + stride * (2 * k)) 1 line → next ≡ underscore (k + 1) at stride entry
unfolding underscore
underscore-turn at stride entry k made e = rw add-one (cc)
