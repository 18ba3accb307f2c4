-- A printing byte. Document 01, "Bytes outside plot mode", printing.
use Rattle.std.specs.Prelude.{ℕ, ◌+◌, ◌*◌, false, cond, List, leb}
use Rattle.sheet.specs.Edition.{Edition}
use Rattle.glyph.specs.Entering.{cell, enter}
use Rattle.printer.specs.declared.Fault.TheVariants.{LineFull, PlotLine}
use Rattle.printer.specs.declared.Head.{Head}
use Rattle.printer.specs.declared.Printer.{Printer}
use Rattle.printer.specs.declared.Style.{Style}
use Rattle.printer.specs.Machine.{Machine, with_head, with_line}
use Rattle.printer.specs.Steps.{Step, noted, quiet}

-- the head at a column, on a line that is no longer fresh
abbrev pub moved_to : ℕ → Head → Head
moved_to c h = record { row = h.row; column = c; fresh = false; plotted = h.plotted; plotting = h.plotting }

-- the line with character b entered at the current position, its glyph taken from the download store or from the resident font
unfoldable pub entered : Edition → List ℕ → ℕ → Machine → List ℕ
entered e font b m =
    let s : Style = m.printer.style in
    enter (cond s.downloaded m.store font) b s.elongated s.underscore m.printer.head.column (e.stride s.pitch) m.line

-- the position past some columns from the current one
abbrev pub past : Edition → ℕ → Printer → ℕ
past e columns p = p.head.column + e.stride p.style.pitch * columns

-- On a plot line: note 46, tested before 44. The cell's end past W: note 44 and nothing entered. Else the character is entered and the position
-- moves to that end.
unfoldable pub print : Edition → List ℕ → ℕ → ℕ → Machine → Step
print e font b place m =
    let next : ℕ = past e (cell m.printer.style.elongated) m.printer in
    cond m.printer.head.plotted (noted PlotLine place m)
    (cond (leb next (e.width m.printer.style.pitch))
    (quiet (with_line (entered e font b m) (with_head (moved_to next m.printer.head) m)))
    (noted LineFull place m))
