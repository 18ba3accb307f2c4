-- Every case of the table holds, in both readings, and so do those of the 6215's commands.
use mathlib.Core.Path.{refl}
use Rattle.sheet.specs.declared.Model.TheVariants.{Lp2, Dg6215}
use Rattle.sheet.specs.Edition.{dg6215, lp2}
use Rattle.sheet.specs.Form.{below_top, empty_line, first_row, fits, form_rows}
use Rattle.sheet.specs.Form.{has_line, line_of, lines_allowed, margins_allowed, rows_per_line, spacing_allowed}
use Rattle.sheet.specs.Form.{top_row, unmargined}
use Rattle.glyph.specs.Words.{word, column, small, apart, each, well_formed, all_well_formed}
use Rattle.glyph.specs.Entering.{cell, or_in, enter_narrow, enter_wide, underscore, enter_glyph, enter}
use Rattle.printer.specs.Machine.{empty_store}
use Rattle.printer.specs.Tabs.{line_tabs, no_tabs, put_bit, tabs_through, with_tab, word_tabs}
use Rattle.printer.specs.Sound.{form_sound, untabbed, tabs_sound, fresh_sound, plot_sound, sound}
use Rattle.printer.specs.Closing.{close_line, close_command, closing}
use Rattle.printer.specs.Steps.{tell, tell_step}
use Rattle.printer.specs.Numbers.{close_report, note_number, told_report}
use Rattle.printer.specs.Printing.{entered, print}
use Rattle.printer.specs.Terminators.{first_tab, strike, newline, form_feed, carriage_return, tab_to, vertical_tab}
use Rattle.printer.specs.Escapes.{tab, tab_here, clear_tabs, tab_item, in_turn, repitched, after_reset, reset, select, escape}
use Rattle.printer.specs.Plotting.{plot, plots, plot_byte, plot_escape}
use Rattle.printer.specs.Downloads.{stage, total, out_of_range, replaced, download}
use Rattle.printer.specs.Alone.{prints, text_byte, alone}
use Rattle.printer.specs.Bytes.{bracket_byte, first_byte, text_escape, second_byte, tab_byte, payload_byte, act, step, run}
use Rattle.printer.specs.Commands.{cut_bracket, text, text_before}
use Rattle.printer.specs.Commands.{item, items, cut_tabs, cut_reset, cut_select, cut_checksum, cut_download, cut_escape, cut, set_tabs, obey}
use Rattle.printer.specs.Commands.{leave_download, leave_select, leave, read_cut, read, reading}
use Rattle.printer.specs.Brackets.{at_top, bracket, continues, digit_read, only, reform, reformed, resize, respace, setting_byte, settings, style}
use Rattle.printer.specs.Brackets.{with_digit}
use Rattle.printer.specs.Table.{forms, from_f_on, look_at, styles, table, table_6215, stated, found, Holds}

-- one statement over all of them
all_hold : Holds Lp2 table × Holds Dg6215 table_6215 × Holds Dg6215 styles × Holds Dg6215 forms
unfolding lp2 dg6215 margins_allowed unmargined top_row below_top
    lines_allowed spacing_allowed rows_per_line form_rows empty_line first_row line_of has_line fits word column small apart each
    well_formed all_well_formed cell or_in enter_narrow enter_wide underscore enter_glyph enter empty_store word_tabs line_tabs no_tabs put_bit
    with_tab form_sound untabbed tabs_sound fresh_sound plot_sound sound close_line close_command closing tell tell_step note_number told_report close_report
    entered print first_tab strike newline form_feed carriage_return tab_to vertical_tab tab tab_here clear_tabs tab_item in_turn repitched
    after_reset reset select escape plot plots plot_byte plot_escape stage total out_of_range replaced download prints text_byte alone first_byte text_escape
    second_byte tab_byte payload_byte act step run item items cut_tabs cut_reset cut_select cut_checksum cut_download cut_escape cut set_tabs
    obey leave_download leave_select leave read_cut read reading look_at table from_f_on table_6215 stated found styles forms
    continues with_digit digit_read setting_byte settings only at_top reformed reform style resize respace bracket tabs_through bracket_byte
    cut_bracket text text_before
all_hold = (
  record { by_bytes = λ font. refl; by_commands = λ font. refl },
  record { by_bytes = λ font. refl; by_commands = λ font. refl },
  record { by_bytes = λ font. refl; by_commands = λ font. refl },
  record { by_bytes = λ font. refl; by_commands = λ font. refl },
)

pub cases : Holds Lp2 table
cases = all_hold.0

pub cases_6215 : Holds Dg6215 table_6215
cases_6215 = all_hold.1

pub style_cases : Holds Dg6215 styles
style_cases = all_hold.2

pub form_cases : Holds Dg6215 forms
form_cases = all_hold.3
