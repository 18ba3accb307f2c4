-- The commands that ESC begins, but for the download. Document 01, "Bytes outside plot mode", the table.
use Rattle.std.specs.Prelude.{ℕ, Bool, true, false, cond, ◌&&◌, eqb}
use Rattle.sheet.specs.declared.Line.{Line}
use Rattle.sheet.specs.declared.Pitch.{Pitch}
use Rattle.sheet.specs.declared.Pitch.TheVariants.{Normal, Compressed}
use Rattle.sheet.specs.Edition.{Edition}
use Rattle.sheet.specs.Form.{empty_line, has_line, line, lines_above}
use Rattle.printer.specs.declared.Fault.TheVariants.{OutOfTurn, TabLine, UnknownCommand, WrongBytes}
use Rattle.printer.specs.declared.Head.{Head}
use Rattle.printer.specs.declared.Style.{Style}
use Rattle.printer.specs.Machine.{Machine, empty_store, fresh_head, plain_style, with_head, with_line, with_store, with_style, with_tabs}
use Rattle.printer.specs.Steps.{Step, noted, quiet}
use Rattle.printer.specs.Tabs.{no_tabs, with_tab}
use Rattle.printer.specs.Terminators.{current_line}

-- the tab of a line set or cleared
unfoldable pub tab : Bool → Line → Machine → Machine
tab on n m = with_tabs (with_tab on (lines_above n) m.printer.tabs) m

-- 5, 6: a vertical tab set or cleared at the current line
unfoldable pub tab_here : Bool → Machine → Machine
tab_here on m = tab on (current_line m) m

-- all tabs cleared
unfoldable pub clear_tabs : Machine → Machine
clear_tabs m = with_tabs no_tabs m

-- F: an item of the list, at its own place: n in 1..L is set; other n: note 48, skipped
unfoldable pub tab_item : ℕ → ℕ → Machine → Step
tab_item n place m = cond (has_line m.printer.form n) (quiet (tab true (line n) m)) (noted TabLine place m)

-- <, =: elongated on, off
abbrev pub set_elongated : Bool → Machine → Machine
set_elongated on m =
    let s : Style = m.printer.style in
    with_style (record { pitch = s.pitch; elongated = on; underscore = s.underscore; downloaded = s.downloaded }) m

-- a, b: underscore on, off
abbrev pub set_underscore : Bool → Machine → Machine
set_underscore on m =
    let s : Style = m.printer.style in
    with_style (record { pitch = s.pitch; elongated = s.elongated; underscore = on; downloaded = s.downloaded }) m

-- downloaded glyphs on, or off: resident glyphs
abbrev pub set_downloaded : Bool → Machine → Machine
set_downloaded on m =
    let s : Style = m.printer.style in
    with_style (record { pitch = s.pitch; elongated = s.elongated; underscore = s.underscore; downloaded = on }) m

-- >, ?: compressed, normal
abbrev pub set_pitch : Pitch → Machine → Machine
set_pitch p m =
    let s : Style = m.printer.style in
    with_style (record { pitch = p; elongated = s.elongated; underscore = s.underscore; downloaded = s.downloaded }) m

-- d: plot mode begins, and with it a plot line, which is not fresh
abbrev pub begin_plot : Machine → Machine
begin_plot m =
    let h : Head = m.printer.head in
    with_head (record { row = h.row; column = h.column; fresh = false; plotted = true; plotting = true }) m

-- fresh lines only, else note 46
unfoldable pub in_turn : ℕ → Machine → Machine → Step
in_turn place m after = cond m.printer.head.fresh (quiet after) (noted OutOfTurn place m)

-- the pitch changes anywhere where the edition lets it, else on fresh lines only
unfoldable pub repitched : Edition → ℕ → Machine → Machine → Step
repitched e place m after = cond e.mixed (quiet after) (in_turn place m after)

-- the line dropped (store zeroed, column 0, no plot line), tabs and features off, normal pitch, download store zeroed; the row stays
unfoldable pub after_reset : Edition → Machine → Machine
after_reset e m = with_store empty_store (with_line (empty_line e) (with_style plain_style (with_head (fresh_head m.printer.head.row) (clear_tabs m))))

-- c 00: reset; another byte than 00: note 46
unfoldable pub reset : Edition → ℕ → ℕ → Machine → Step
reset e b place m = cond (eqb b 0) (quiet (after_reset e m)) (noted WrongBytes place m)

-- N 04 00: downloaded glyphs; any other pair: note 46
unfoldable pub select : ℕ → ℕ → ℕ → Machine → Step
select high low place m = cond (eqb high 4 && eqb low 0) (quiet (set_downloaded true m)) (noted WrongBytes place m)

-- ESC and one byte, which with it is a whole command, or unknown: note 42. (F, c, Y, N and, where it can, [ begin longer commands and do not come here.)
unfoldable pub escape : Edition → ℕ → ℕ → Machine → Step
escape e b place m =
    cond (eqb b 0x35) (quiet (tab_here true m))
    (cond (eqb b 0x36) (quiet (tab_here false m))
    (cond (eqb b 0x3c) (quiet (set_elongated true m))
    (cond (eqb b 0x3d) (quiet (set_elongated false m))
    (cond (eqb b 0x61) (quiet (set_underscore true m))
    (cond (eqb b 0x62) (quiet (set_underscore false m))
    (cond (eqb b 0x3e) (repitched e place m (set_pitch Compressed m))
    (cond (eqb b 0x3f) (repitched e place m (set_pitch Normal m))
    (cond (eqb b 0x64) (in_turn place m (begin_plot m))
    (cond (eqb b 0x65) (quiet m)
    (cond (eqb b 0x4f) (quiet (set_downloaded false m))
    (noted UnknownCommand place m)))))))))))
