-- The lines of a form and its rows, and the lengths of a blank page and an empty line.
use Prim.Native.Nat.{ℕ, suc, ◌+◌, ◌-◌, ◌*◌, ◌≤◌, ◌<◌}
use mathlib.Core.Path.{◌≡◌, refl, sym}
use mathlib.Core.Bool.{Bool, ◌&&◌, ◌||◌, and-eq-true_iff, cond, false, true, true≢false}
use native.Mathlib.Omega.{arith}
use native.Mathlib.Nat.{mul-le-mul_left, mul-le-mul_right, div-lt_iff_lt-mul, le-div_iff_mul-le}
use lib.Dec.{eqb, leb}
use lib.ListN.{length, length-replicate}
use borrow.Author.Tests.{eqb-true, le-leb, leb-true}
use Rattle.sheet.specs.declared.Form.{Form}
use Rattle.sheet.specs.declared.Line.{Line}
use Rattle.sheet.specs.declared.Row.{Row}
use Rattle.sheet.specs.Edition.{Edition, longest_page}
use Rattle.sheet.specs.Form.{below_top, blank_page, empty_line, first_row, fits, form_rows, line_of, lines_allowed, lower, margins_allowed}
use Rattle.sheet.specs.Form.{page_bytes, rows_per_line, spacing_allowed, top_row}

-- a line has nine rows at least, one for each wire
pub nine_rows : (spacing : ℕ) → 9 ≤ rows_per_line spacing
unfolding rows_per_line
nine_rows spacing = either (eqb spacing 6)
  where
    either : (six : Bool) → 9 ≤ cond six 12 9
    either true = omega arith
    either false = omega arith

-- no more than eight lines stand in an inch
pub spacing-most : (spacing : ℕ) → spacing_allowed spacing ≡ true → spacing ≤ 8
unfolding spacing_allowed
spacing-most spacing = tested (eqb spacing 6) (eqb spacing 8) refl refl
  where
    tested : (six eight : Bool) → eqb spacing 6 ≡ six → eqb spacing 8 ≡ eight → six || eight ≡ true → spacing ≤ 8
    tested true eight p q h = omega (arith, eqb-true spacing 6 p)
    tested false true p q h = omega (arith, eqb-true spacing 8 q)
    tested false false p q h = absurd (true≢false (sym h))

-- a line has twelve rows at most
pub twelve_rows : (spacing : ℕ) → rows_per_line spacing ≤ 12
unfolding rows_per_line
twelve_rows spacing = either (eqb spacing 6)
  where
    either : (six : Bool) → cond six 12 9 ≤ 12
    either true = omega arith
    either false = omega arith

-- lines that are no more than 112 have 1,344 rows at most
pub lines-rows-most : (n spacing : ℕ) → n ≤ 112 → n * rows_per_line spacing ≤ 1344
lines-rows-most n spacing h = omega (arith, mul-le-mul_right (rows_per_line spacing) h, twelve_rows spacing)

-- twelve rows a line are the most
pub form_rows_in : (n : ℕ) (f : Form) → f.lines ≤ n → form_rows f ≤ n * 12
unfolding form_rows
form_rows_in n f h = omega (arith, mul-le-mul_right (rows_per_line f.spacing) h, mul-le-mul_left n (twelve_rows f.spacing))

-- a form of up to 112 lines has 1,344 rows at most
pub form_rows-most : (f : Form) → f.lines ≤ 112 → form_rows f ≤ 1344
unfolding form_rows
form_rows-most f h = lines-rows-most f.lines f.spacing h

-- no page is longer than that of 112 lines at 6 an inch, with rows of 850 bytes
pub page_bytes-most : (e : Edition) (f : Form) → e.bytes ≤ 850 → f.lines ≤ 112 → page_bytes e f ≤ longest_page
unfolding page_bytes
page_bytes-most e f b h = omega (arith, mul-le-mul_left (form_rows f) b, form_rows-most f h)

-- the lines of a form are no more than the longest form's
pub lines-most : (e : Edition) (lines : ℕ) → lines_allowed e lines ≡ true → lines ≤ e.longest
unfolding lines_allowed
lines-most e lines h = leb-true lines e.longest ((and-eq-true_iff (leb 1 lines) (leb lines e.longest)).0 h).1

-- margins that lie on a form
pub margins_inside : (f : Form) → margins_allowed f ≡ true → (1 ≤ f.top.0) × (f.top.0 ≤ f.lines)
unfolding margins_allowed
margins_inside f h =
    let a = (and-eq-true_iff (leb 1 f.top.0 && leb f.top.0 f.bottom.0) (leb f.bottom.0 f.lines)).0 h in
    let b = (and-eq-true_iff (leb 1 f.top.0) (leb f.top.0 f.bottom.0)).0 a.0 in
    (leb-true _ _ b.0, omega (arith, leb-true f.top.0 f.bottom.0 b.1, leb-true f.bottom.0 f.lines a.1))

-- a line up to line 128 has its first row at 1,524 at most
pub first_row-most : (f : Form) (n : Line) → n.0 ≤ 128 → (first_row f n).0 ≤ 1524
unfolding first_row
first_row-most f n h =
    let above : n.0 - 1 ≤ 127 = omega arith in
    omega (arith, mul-le-mul_right (rows_per_line f.spacing) above, twelve_rows f.spacing)

-- every line down to the bottom margin can be struck at its first row
pub line-fits : (f : Form) (n : Line) → 1 ≤ n.0 → n.0 ≤ f.bottom.0 → fits f (first_row f n) ≡ true
unfolding fits first_row
line-fits f n h l =
    let rows : ℕ = rows_per_line f.spacing in
    let below : suc (n.0 - 1) ≤ f.bottom.0 = omega arith in
    le-leb ((n.0 - 1) * rows + 9) (f.bottom.0 * rows) (omega (arith, mul-le-mul_right rows below, nine_rows f.spacing))

-- the first row of a line from the top margin on is none above it
pub line-below_top : (f : Form) (n : Line) → f.top.0 ≤ n.0 → below_top f (first_row f n) ≡ true
unfolding below_top top_row first_row
line-below_top f n h =
    let above : f.top.0 - 1 ≤ n.0 - 1 = omega arith in
    le-leb _ _ (mul-le-mul_right (rows_per_line f.spacing) above)

-- a row lower than one that is none above the top margin is none
pub lower-below_top : (f : Form) (k : ℕ) (r : Row) → below_top f r ≡ true → below_top f (lower k r) ≡ true
unfolding below_top
lower-below_top f k r h = let l : (top_row f).0 ≤ r.0 = leb-true _ _ h in le-leb (top_row f).0 (r.0 + k) (omega arith)

-- a row at which a line can be struck lies in a line above the bottom margin's end
pub line-inside : (f : Form) (r : Row) → fits f r ≡ true → (line_of f r).0 ≤ f.bottom.0
unfolding fits line_of
line-inside f r h =
    let rows : ℕ = rows_per_line f.spacing in
    let some : 0 < rows = omega (arith, nine_rows f.spacing) in
    let room : r.0 + 9 ≤ f.bottom.0 * rows = leb-true (r.0 + 9) (f.bottom.0 * rows) h in
    omega (arith, (div-lt_iff_lt-mul {k = rows} {x = r.0} {y = f.bottom.0} some).1 (omega arith))

-- and lies in none above the top margin
pub line-from_top : (f : Form) (r : Row) → below_top f r ≡ true → f.top.0 ≤ (line_of f r).0
unfolding below_top top_row first_row line_of
line-from_top f r h =
    let rows : ℕ = rows_per_line f.spacing in
    let some : 0 < rows = omega (arith, nine_rows f.spacing) in
    let above : (f.top.0 - 1) * rows ≤ r.0 = leb-true _ _ h in
    omega (arith, (le-div_iff_mul-le {k = rows} {x = f.top.0 - 1} {y = r.0} some).1 above)

-- and its nine wires strike rows of the form
pub fits-form : (f : Form) (r : ℕ) → f.bottom.0 ≤ f.lines → r + 9 ≤ f.bottom.0 * rows_per_line f.spacing → r + 9 ≤ form_rows f
unfolding form_rows
fits-form f r l h = omega (arith, mul-le-mul_right (rows_per_line f.spacing) l)

-- a blank page has the bytes of its form
pub length-blank_page : (e : Edition) (f : Form) → length (blank_page e f) ≡ page_bytes e f
unfolding blank_page
length-blank_page e f = length-replicate (page_bytes e f) 0

-- an empty line fills the line store
pub length-empty_line : (e : Edition) → length (empty_line e) ≡ e.columns
unfolding empty_line
length-empty_line e = length-replicate e.columns 0
