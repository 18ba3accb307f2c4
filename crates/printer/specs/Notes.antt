-- A byte that is not obeyed. Document 01, "What a call gives back" and "Bytes outside plot mode".
use Rattle.std.specs.Prelude.{ℕ, ◌+◌, Bool, true, false, cond, ◌≡◌, None, Option, Some}
use Rattle.printer.specs.declared.Fault.{Fault}
use Rattle.printer.specs.declared.Fault.TheVariants.{UnknownCommand, LineFull, Checksum, UnnamedControl, HighByte, OutOfTurn, WrongBytes}
use Rattle.printer.specs.declared.Fault.TheVariants.{PlotLine, DownloadRange, TabLine, IllFormed, FormSetting}
use Rattle.printer.specs.declared.Pending.{Pending}
use Rattle.printer.specs.declared.Pending.TheVariants.{Nothing, Escape, Tabs, Reset, Select, SelectLow, CountHigh, CountLow, AddressHigh}
use Rattle.printer.specs.declared.Pending.TheVariants.{AddressLow, Payload, Bracket}
use Rattle.printer.specs.declared.Printer.{Printer}
use Rattle.printer.specs.Machine.{Machine, with_job, with_pending}
use Rattle.printer.specs.Sound.{begun}

-- a fault ends its command; a wrong item of a tab list is skipped, and the list goes on
unfoldable pub ends_command : Fault → Bool
ends_command UnknownCommand = true
ends_command LineFull = true
ends_command Checksum = true
ends_command UnnamedControl = true
ends_command HighByte = true
ends_command OutOfTurn = true
ends_command WrongBytes = true
ends_command PlotLine = true
ends_command DownloadRange = true
ends_command TabLine = false
ends_command IllFormed = true
ends_command FormSetting = true

-- a tab list is pending
abbrev pub in_list : Pending → Bool
in_list Nothing = false
in_list (Escape place) = false
in_list (Tabs place) = true
in_list (Reset place) = false
in_list (Select place) = false
in_list (SelectLow place high) = false
in_list (CountHigh place) = false
in_list (CountLow place high) = false
in_list (AddressHigh place count) = false
in_list (AddressLow place count high) = false
in_list (Payload place load) = false
in_list (Bracket place settings) = false

-- what is pending after a note
unfoldable pub left_pending : Fault → Pending → Pending
left_pending f q = cond (ends_command f) Nothing q

-- the machine with a byte counted and not obeyed
unfoldable pub passed_over : Fault → Machine → Machine
passed_over f m = with_pending (left_pending f m.printer.pending) (with_job (m.printer.job + 1) m)

-- the place of a command's first byte, by where the pending command began; with none pending it is the place of the byte that stands `here`
unfoldable pub first_place : Option ℕ → ℕ → ℕ
first_place None here = here
first_place (Some place) here = place

-- the place that a note carries: of the command's first byte, except inside a tab list, where it is the item's own
unfoldable pub note_place : Fault → Printer → ℕ
note_place f p = cond (ends_command f) (first_place (begun p.pending) p.job) p.job

-- all but the count of bytes and what is pending is as it was
pub record Untouched (m after : Machine) : Type 0 where
  pub page : after.page ≡ m.page
  pub line : after.line ≡ m.line
  pub staging : after.staging ≡ m.staging
  pub store : after.store ≡ m.store
  pub model : after.printer.model ≡ m.printer.model
  pub form : after.printer.form ≡ m.printer.form
  pub head : after.printer.head ≡ m.printer.head
  pub style : after.printer.style ≡ m.printer.style
  pub tabs : after.printer.tabs ≡ m.printer.tabs
