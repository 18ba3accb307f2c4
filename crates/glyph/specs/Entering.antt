-- A character entered into the line store, its cell beginning at a position. Document 01, "Bytes outside plot mode", printing; document 02, #105.
-- A column takes `stride` positions, and its wires stand at the first of them.
use Rattle.std.specs.Prelude.{ℕ, zero, suc, ◌+◌, ◌*◌, ◌/◌, Bool, cond, List, get_or, set}
use Rattle.std.specs.Int.Bits.{bit_or}
use Rattle.glyph.specs.Words.{column}

-- the cell is 10 columns, or 20 elongated
unfoldable pub cell : Bool → ℕ
cell elongated = cond elongated 20 10

-- wires or-ed in at one position of the line store
unfoldable pub or_in : ℕ → ℕ → List ℕ → List ℕ
or_in at wires line = set line at (bit_or wires (get_or line at 0))

-- the first k columns of glyph n, each or-ed into its own
unfoldable pub enter_narrow : ℕ → List ℕ → ℕ → ℕ → ℕ → List ℕ → List ℕ
enter_narrow zero glyphs n at stride line = line
enter_narrow (suc k) glyphs n at stride line = or_in (at + stride * k) (column glyphs n k) (enter_narrow k glyphs n at stride line)

-- the same elongated: column k goes to 2k and 2k + 1
unfoldable pub enter_wide : ℕ → List ℕ → ℕ → ℕ → ℕ → List ℕ → List ℕ
enter_wide zero glyphs n at stride line = line
enter_wide (suc k) glyphs n at stride line =
    or_in (at + stride * (2 * k + 1)) (column glyphs n k) (or_in (at + stride * (2 * k)) (column glyphs n k) (enter_wide k glyphs n at stride line))

-- wire 9 added at the first k even columns
unfoldable pub underscore : ℕ → ℕ → ℕ → List ℕ → List ℕ
underscore zero at stride line = line
underscore (suc k) at stride line = or_in (at + stride * (2 * k)) 1 (underscore k at stride line)

-- the seven columns of glyph n
unfoldable pub enter_glyph : List ℕ → ℕ → Bool → ℕ → ℕ → List ℕ → List ℕ
enter_glyph glyphs n elongated at stride line = cond elongated (enter_wide 7 glyphs n at stride line) (enter_narrow 7 glyphs n at stride line)

-- a whole character: the glyph, and the underscore at the even columns of its cell
unfoldable pub enter : List ℕ → ℕ → Bool → Bool → ℕ → ℕ → List ℕ → List ℕ
enter glyphs n elongated underscored at stride line =
    let inked : List ℕ = enter_glyph glyphs n elongated at stride line in
    cond underscored (underscore (cell elongated / 2) at stride inked) inked
