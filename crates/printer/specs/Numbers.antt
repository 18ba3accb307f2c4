-- Document 01's numbers of what a caller is told.
use Rattle.std.specs.Prelude.{ℕ, List, [], ◌∷◌, get_or}
use Rattle.printer.specs.declared.Closing.{Closing}
use Rattle.printer.specs.declared.Closing.TheVariants.{Unsound, Unfinished, Unprinted, Clean}
use Rattle.printer.specs.declared.Fault.{Fault}
use Rattle.printer.specs.declared.Fault.TheVariants.{UnknownCommand, LineFull, Checksum, UnnamedControl, HighByte, OutOfTurn, WrongBytes}
use Rattle.printer.specs.declared.Fault.TheVariants.{PlotLine, DownloadRange, TabLine, IllFormed, FormSetting}
use Rattle.printer.specs.Steps.{Told, form, note}

-- the number of a note
unfoldable pub note_number : Fault → ℕ
note_number UnknownCommand = 42
note_number FormSetting = 43
note_number LineFull = 44
note_number Checksum = 45
note_number UnnamedControl = 46
note_number HighByte = 46
note_number OutOfTurn = 46
note_number WrongBytes = 46
note_number PlotLine = 46
note_number DownloadRange = 46
note_number TabLine = 48
note_number IllFormed = 80

-- an answer's number in document 01's table, and its values: of a note its number and place
pub record Report : Type 0 where
  pub number : ℕ
  pub values : List ℕ

-- value i of an answer, counted from 0; 0 where it has none
abbrev pub value : ℕ → Report → ℕ
value i r = get_or r.values i 0

-- a number without values
abbrev pub plain : ℕ → Report
plain n = record { number = n; values = [] }

-- 1: form finished
abbrev pub form_report : Report
form_report = plain 1

-- 2: note, with number and place
abbrev pub note_report : Fault → ℕ → Report
note_report f place = record { number = 2; values = note_number f ∷ place ∷ [] }

unfoldable pub told_report : Told → Report
told_report (form page) = form_report
told_report (note f place) = note_report f place

-- what closing answers: document 01 numbers the 10 alone, and the others are ours; an unfinished command has its place
unfoldable pub close_report : Closing → Report
close_report Unsound = plain 10
close_report (Unfinished place) = record { number = 2; values = place ∷ [] }
close_report Unprinted = plain 1
close_report Clean = plain 0
