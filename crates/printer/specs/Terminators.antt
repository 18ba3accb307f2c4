-- The line terminators. Document 01, "Bytes outside plot mode".
use Rattle.std.specs.Prelude.{Bool, cond, List, [], ◌∷◌, drop, take, None, Option, Some}
use Rattle.sheet.specs.declared.Line.{Line}
use Rattle.sheet.specs.declared.Row.{Row}
use Rattle.sheet.specs.Dots.{struck}
use Rattle.sheet.specs.Edition.{Edition}
use Rattle.sheet.specs.Form.{empty_line, first_row, fits, line_of, lines_above, lines_through, lower, next_line, rows_per_line, top_row}
use Rattle.printer.specs.Machine.{Machine, fresh_head, with_head, with_line, with_page}
use Rattle.printer.specs.Steps.{Step, finished, quiet}
use Rattle.printer.specs.Tabs.{line_tabs}

-- the line that the head stands in
abbrev pub current_line : Machine → Line
current_line m = line_of m.printer.form m.printer.head.row

-- the first tabbed line of those whose tabs are given, the first of them line n
unfoldable pub first_tab : Line → List Bool → Option Line
first_tab n [] = None
first_tab n (t ∷ ts) = cond t (Some n) (first_tab (next_line n) ts)

module _ (e : Edition) where
  -- the line struck at the current row, its store zeroed, and the head on a fresh line at row r
  unfoldable pub strike : Row → Machine → Machine
  strike r m =
      with_head (fresh_head r)
      (with_line (empty_line e) (with_page (struck e m.page m.line m.printer.head.row m.printer.style.pitch) m))

  -- 0A: the row grows by R, or by 7 on a plot line; if then r + 9 > N3 × R, form finished, and the next starts at line N2
  unfoldable pub newline : Machine → Step
  newline m =
      let r : Row = lower (cond m.printer.head.plotted 7 (rows_per_line m.printer.form.spacing)) m.printer.head.row in
      cond (fits m.printer.form r) (quiet (strike r m)) (finished (strike (top_row m.printer.form) m))

  -- 0C: form finished, and the next starts at line N2
  unfoldable pub form_feed : Machine → Step
  form_feed m = finished (strike (top_row m.printer.form) m)

  -- 0D: no move
  unfoldable pub carriage_return : Machine → Step
  carriage_return m = quiet (strike m.printer.head.row m)

  -- To the next tabbed line below. If tabs stand but none below: form finished, then the lowest-numbered tabbed line. With no tab: as 0D.
  unfoldable pub tab_to : Option Line → Option Line → Machine → Step
  tab_to (Some n) lowest m = quiet (strike (first_row m.printer.form n) m)
  tab_to None (Some n) m = finished (strike (first_row m.printer.form n) m)
  tab_to None None m = carriage_return m

  -- 0B: by the tabs below the current line, and by those from line N2 on; tabs outside the margins count as none
  unfoldable pub vertical_tab : Machine → Step
  vertical_tab m =
      let n : Line = current_line m in
      let top : Line = m.printer.form.top in
      let tabs : List Bool = take (lines_through m.printer.form.bottom) (line_tabs m.printer.tabs) in
      tab_to (first_tab (next_line n) (drop (lines_through n) tabs)) (first_tab top (drop (lines_above top) tabs)) m
