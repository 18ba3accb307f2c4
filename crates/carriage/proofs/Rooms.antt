-- What a line that can be struck has: rows on the page, and a row and a line within bounds; and what columns are bounded by.
use Prim.Native.Nat.{ℕ, ◌+◌, ◌≤◌}
use mathlib.Core.List.{List}
use native.Mathlib.Nat.{mul-le-mul_right}
use native.Mathlib.Omega.{arith}
use borrow.Author.Tests.{le-leb}
use Rattle.sheet.specs.declared.Model.{Model}
use Rattle.sheet.specs.declared.Pitch.{Pitch}
use Rattle.sheet.specs.Edition.{described}
use Rattle.sheet.proofs.Editions.{described_bounded, described_proper}
use Rattle.sheet.specs.Form.{fits, form_rows, line_of, page_bytes}
use Rattle.sheet.proofs.Units.{fits-form, line-inside, lines-rows-most}
use Rattle.striking.specs.Room.{Room}
use Rattle.printer.specs.declared.Printer.{Printer}
use Rattle.printer.specs.Room.{Strikable}
use Rattle.state.proofs.Forms.{bottom_bounded}

module _ (w : Model) (p : Printer) (page line : List ℕ) (h : Strikable (described w) p page line) where
  -- the nine rows are on the page
  pub rows_on_page : Room (described w) page line p.head.row
  unfolding page_bytes
  rows_on_page =
      let on : p.head.row.0 + 9 ≤ form_rows p.form = fits-form p.form p.head.row.0 h.form.bottom h.row in
      record { rows = omega (arith, mul-le-mul_right (described w).bytes on, h.page); full = h.line }

  pub row_bound : p.head.row.0 ≤ 1344
  row_bound = omega (arith, h.row, lines-rows-most p.form.bottom.0 p.form.spacing (bottom_bounded w p.form h.form))

  pub line_bound : (line_of p.form p.head.row).0 ≤ 112
  unfolding fits
  line_bound = omega (arith, line-inside p.form p.head.row (le-leb _ _ h.row), bottom_bounded w p.form h.form)

-- what a model's columns are bounded by
module _ (w : Model) (pitch : Pitch) where
  pub columns_most : (described w).columns ≤ 6800
  columns_most = (described_bounded w).columns

  pub width_most : (described w).width pitch ≤ (described w).columns
  width_most = (described_proper w).wide pitch

  pub stride_some : 1 ≤ (described w).stride pitch
  stride_some = (described_proper w).takes pitch

  pub stride_most : (described w).stride pitch ≤ 5
  stride_most = (described_bounded w).stride pitch
