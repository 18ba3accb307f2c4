-- What differs from one edition of the printer to another. Each rule that rests on one takes the edition: `lp2` is document 01's, `dg6215` the one
-- that #105 of document 02 adds.
use Rattle.std.specs.Prelude.{ℕ, ◌*◌, Bool, true, false}
use Rattle.sheet.specs.declared.Grid.{Grid}
use Rattle.sheet.specs.declared.Model.{Model}
use Rattle.sheet.specs.declared.Model.TheVariants.{Lp2, Dg6215}
use Rattle.sheet.specs.declared.Pitch.{Pitch}
use Rattle.sheet.specs.declared.Pitch.TheVariants.{Normal, Compressed}

-- The line store has a number for each position of a line. A column takes some positions, and its wires stand at the first of them.
pub record Edition : Type 0 where
  pub longest : ℕ  -- lines of the longest form
  pub bytes : ℕ  -- bytes of a row, eight grid positions each
  pub columns : ℕ  -- numbers of the line store
  pub width : Pitch → ℕ  -- W, the positions of a text line
  pub stride : Pitch → ℕ  -- the positions that a column takes
  pub grid : Pitch → ℕ → Grid  -- where a position stands
  pub mixed : Bool  -- the pitch may change anywhere in a line; else on fresh lines only
  pub brackets : Bool  -- ESC [ begins a command, and with it the form may change

-- a grid position
abbrev pub grid_at : ℕ → Grid
grid_at g = record { 0 = g }

-- columns stand 5 grid positions apart in normal pitch, 3 in compressed
abbrev pub apart_by : Pitch → ℕ
apart_by Normal = 5
apart_by Compressed = 3

-- W of LP2 is 1,320 in normal pitch and 2,200 in compressed
abbrev pub lp2_width : Pitch → ℕ
lp2_width Normal = 1320
lp2_width Compressed = 2200

-- LP2: forms of up to 99 lines, rows of 825 bytes, a line store of 2,200 numbers; a position is a column, and column c stands at grid position 5c or 3c
unfoldable pub lp2 : Edition
lp2 =
    record {
      longest = 99;
      bytes = 825;
      columns = 2200;
      width = lp2_width;
      stride = λ (p : Pitch). 1;
      grid = λ (p : Pitch) (c : ℕ). grid_at (apart_by p * c);
      mixed = false;
      brackets = false;
    }

-- 6215: forms of up to 112 lines, rows of 850 bytes, a line store of 6,800 numbers; a position is a grid position, and a column takes 5 or 3 of them
unfoldable pub dg6215 : Edition
dg6215 =
    record {
      longest = 112;
      bytes = 850;
      columns = 6800;
      width = λ (p : Pitch). 6800;
      stride = apart_by;
      grid = λ (p : Pitch) (c : ℕ). grid_at c;
      mixed = true;
      brackets = true;
    }

-- the description of a model
abbrev pub described : Model → Edition
described Lp2 = lp2
described Dg6215 = dg6215

-- the bytes of the longest page of any model: 112 lines at 6 an inch, 850 bytes a row
abbrev pub longest_page : ℕ
longest_page = 1142400
