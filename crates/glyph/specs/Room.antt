-- What entering a character asks of the memory lent to it.
use Rattle.std.specs.Prelude.{ℕ, ◌+◌, ◌*◌, ◌≤◌, Bool, List, length}
use Rattle.glyph.specs.Entering.{cell}

-- A column takes one to five positions, the cell that begins at position `at` ends within the line store, and glyph n lies whole among the glyphs.
pub record Room (line glyphs : List ℕ) (n : ℕ) (elongated : Bool) (at stride : ℕ) : Type 0 where
  pub some : 1 ≤ stride
  pub most : stride ≤ 5
  pub fits : at + stride * cell elongated ≤ length line
  pub whole : 16 * n + 16 ≤ length glyphs
