-- A page and a line store emptied.
use Prim.Native.Nat.{ℕ}
use mathlib.Core.Path.{◌≡◌, ap}
use mathlib.Core.List.{List}
use lib.ListN.{length, replicate}
use Rattle.sheet.specs.declared.Form.{Form}
use Rattle.sheet.specs.Edition.{Edition}
use Rattle.sheet.specs.Form.{blank_page, empty_line, page_bytes}

-- a page of its length that is all 0 is a blank page
pub page_emptied : (e : Edition) (f : Form) (page : List ℕ) → length page ≡ page_bytes e f → replicate (length page) 0 ≡ blank_page e f
unfolding blank_page
page_emptied e f page q = ap (λ (n : ℕ). replicate n 0) q

-- a line store of its length that is all 0 is an empty line
pub line_emptied : (e : Edition) (line : List ℕ) → length line ≡ e.columns → replicate (length line) 0 ≡ empty_line e
unfolding empty_line
line_emptied e line q = ap (λ (n : ℕ). replicate n 0) q
