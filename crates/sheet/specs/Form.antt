-- The sizes of a form, and the rules that lead from a line to a row and back.
use Rattle.std.specs.Prelude.{ℕ, ◌+◌, ◌-◌, ◌*◌, ◌/◌, ◌≤◌, Bool, cond, ◌&&◌, ◌||◌, List, eqb, leb, replicate}
use Rattle.sheet.specs.declared.Form.{Form}
use Rattle.sheet.specs.declared.Line.{Line}
use Rattle.sheet.specs.declared.Row.{Row}
use Rattle.sheet.specs.Edition.{Edition}

-- a form has 1 line at least, and at most as many as the edition's longest
unfoldable pub lines_allowed : Edition → ℕ → Bool
lines_allowed e lines = leb 1 lines && leb lines e.longest

-- 6 or 8 lines an inch
unfoldable pub spacing_allowed : ℕ → Bool
spacing_allowed spacing = eqb spacing 6 || eqb spacing 8

-- R, the rows of a line: at 72 rows an inch, 12 where 6 lines stand in an inch and 9 where 8 do
unfoldable pub rows_per_line : ℕ → ℕ
rows_per_line spacing = cond (eqb spacing 6) 12 9

-- L × R, the rows of a form
unfoldable pub form_rows : Form → ℕ
form_rows f = f.lines * rows_per_line f.spacing

-- the bytes of a form's page
unfoldable pub page_bytes : Edition → Form → ℕ
page_bytes e f = form_rows f * e.bytes

-- a page with no dot black
unfoldable pub blank_page : Edition → Form → List ℕ
blank_page e f = replicate (page_bytes e f) 0

-- the line store with no wire set in any column
unfoldable pub empty_line : Edition → List ℕ
empty_line e = replicate e.columns 0

-- a form has a line n: n is in 1..L
unfoldable pub has_line : Form → ℕ → Bool
has_line f n = leb 1 n && leb n f.lines

-- line n; the first line
abbrev pub line : ℕ → Line
line n = record { 0 = n }

abbrev pub first_line : Line
first_line = line 1

-- the line below a line
abbrev pub next_line : Line → Line
next_line n = line (n.0 + 1)

-- how many lines stand above a line, and how many from the top through it
abbrev pub lines_above : Line → ℕ
lines_above n = n.0 - 1

abbrev pub lines_through : Line → ℕ
lines_through n = n.0

-- the first row of a line
unfoldable pub first_row : Form → Line → Row
first_row f n = record { 0 = lines_above n * rows_per_line f.spacing }

-- the line that a row lies in: 1 + r ÷ R, rounded down
unfoldable pub line_of : Form → Row → Line
line_of f r = line (1 + r.0 / rows_per_line f.spacing)

-- row n, which has n rows above it
abbrev pub row : ℕ → Row
row n = record { 0 = n }

abbrev pub rows_above : Row → ℕ
rows_above r = r.0

-- the row that stands some rows lower
abbrev pub lower : ℕ → Row → Row
lower n r = record { 0 = r.0 + n }

-- the margins lie on the form: 1 ≤ N2 ≤ N3 ≤ L
unfoldable pub margins_allowed : Form → Bool
margins_allowed f = leb 1 f.top.0 && leb f.top.0 f.bottom.0 && leb f.bottom.0 f.lines

-- the margins are the form's own ends: 1 and L
unfoldable pub unmargined : Form → Bool
unmargined f = eqb f.top.0 1 && eqb f.bottom.0 f.lines

-- a form just opened: margins 1 and L
abbrev pub new_form : ℕ → ℕ → Form
new_form lines spacing = record { lines = lines; spacing = spacing; top = first_line; bottom = line lines }

-- the bytes of the page that so many lines at a spacing need, 0 where there is no such form
unfoldable pub page_size : Edition → ℕ → ℕ → ℕ
page_size e lines spacing = cond (lines_allowed e lines && spacing_allowed spacing) (page_bytes e (new_form lines spacing)) 0

-- the row that a form starts at: the first of line N2
unfoldable pub top_row : Form → Row
top_row f = first_row f f.top

-- a row is none above the top margin: (N2 − 1) × R ≤ r
unfoldable pub below_top : Form → Row → Bool
below_top f r = leb (top_row f).0 r.0

-- the nine wires of a line struck at row r stay above the bottom margin's end: r + 9 ≤ N3 × R
unfoldable pub fits : Form → Row → Bool
fits f r = leb (r.0 + 9) (lines_through f.bottom * rows_per_line f.spacing)

-- a top margin, and a form, that the code's numbers have room for
abbrev pub TopFits : Form → Type 0
TopFits f = (1 ≤ f.top.0) × (f.top.0 ≤ 128)

abbrev pub FormFits : Form → Type 0
FormFits f = (f.lines ≤ 112) × (1 ≤ f.top.0) × (f.top.0 ≤ 128)
