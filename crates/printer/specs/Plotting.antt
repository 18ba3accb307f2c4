-- Plot mode. Document 01, "Plot mode".
use Rattle.std.specs.Prelude.{ℕ, Bool, false, cond, not, ◌&&◌, eqb, leb, ltb}
use Rattle.sheet.specs.Edition.{Edition}
use Rattle.glyph.specs.Entering.{or_in}
use Rattle.printer.specs.declared.Fault.TheVariants.{HighByte, LineFull, WrongBytes}
use Rattle.printer.specs.declared.Head.{Head}
use Rattle.printer.specs.Machine.{Machine, with_head, with_line}
use Rattle.printer.specs.Printing.{moved_to, past}
use Rattle.printer.specs.Steps.{Step, noted, quiet}

-- a column of that value, bits 0 to 6, the bottom seven wires; one that ends past W: note 44, dropped. (A plot line is not fresh.)
unfoldable pub plot : Edition → ℕ → ℕ → Machine → Step
plot e v place m =
    let next : ℕ = past e 1 m.printer in
    cond (leb next (e.width m.printer.style.pitch))
    (quiet (with_line (or_in m.printer.head.column v m.line) (with_head (moved_to next m.printer.head) m)))
    (noted LineFull place m)

-- plot mode is left; the line stays a plot line
abbrev pub leave_plot : Machine → Machine
leave_plot m =
    let h : Head = m.printer.head in
    with_head (record { row = h.row; column = h.column; fresh = h.fresh; plotted = h.plotted; plotting = false }) m

-- 00..7F other than 1B are columns
unfoldable pub plots : ℕ → Bool
plots b = ltb b 0x80 && not (eqb b 0x1b)

-- a byte by itself, other than 1B: 00..7F enters a column, 80..FF: note 46
unfoldable pub plot_byte : Edition → ℕ → ℕ → Machine → Step
plot_byte e b place m = cond (plots b) (plot e b place m) (noted HighByte place m)

-- ESC and a byte: 1B 1B enters 1B, 1B 65 leaves, 1B with another byte: note 46
unfoldable pub plot_escape : Edition → ℕ → ℕ → Machine → Step
plot_escape e b place m = cond (eqb b 0x1b) (plot e 0x1b place m) (cond (eqb b 0x65) (quiet (leave_plot m)) (noted WrongBytes place m))
