-- What memory can hold of the printer: the numbers that the types of the state have room for, and the memory lent.
use Rattle.std.specs.Prelude.{ℕ, ◌^◌, ◌<◌, List, None, Option, Some}
use Rattle.sheet.specs.Held.{HeldBytes, HeldColumns}
use Rattle.printer.specs.declared.Load.{Load}
use Rattle.printer.specs.declared.Pending.{Pending}
use Rattle.printer.specs.declared.Pending.TheVariants.{Nothing, Escape, Tabs, Reset, Select, SelectLow, CountHigh, CountLow, AddressHigh}
use Rattle.printer.specs.declared.Pending.TheVariants.{AddressLow, Payload, Bracket}
use Rattle.printer.specs.declared.Printer.{Printer}
use Rattle.printer.specs.declared.Settings.{Settings}
use Rattle.printer.specs.declared.TabSet.{TabSet}
use Rattle.printer.specs.Machine.{Machine}

-- a download whose payload is coming: a u16 each, and the sum a u8
pub record HeldLoad (l : Load) : Type 0 where
  pub count : l.count < 2 ^ 16
  pub address : l.address < 2 ^ 16
  pub taken : l.taken < 2 ^ 16
  pub sum : l.sum < 2 ^ 8

-- a number of a command that ESC [ begins: a u16
abbrev pub HeldSetting : Option ℕ → Type 0
HeldSetting None = Unit {0}
HeldSetting (Some n) = n < 2 ^ 16

-- its numbers, and the semicolons, a u8
pub record HeldSettings (s : Settings) : Type 0 where
  pub first : HeldSetting s.first
  pub second : HeldSetting s.second
  pub third : HeldSetting s.third
  pub semicolons : s.semicolons < 2 ^ 8

-- what is pending: a place is a u32, a byte a u8, a count a u16
abbrev pub HeldPending : Pending → Type 0
HeldPending Nothing = Unit {0}
HeldPending (Escape place) = place < 2 ^ 32
HeldPending (Tabs place) = place < 2 ^ 32
HeldPending (Reset place) = place < 2 ^ 32
HeldPending (Select place) = place < 2 ^ 32
HeldPending (SelectLow place high) = (place < 2 ^ 32) × (high < 2 ^ 8)
HeldPending (CountHigh place) = place < 2 ^ 32
HeldPending (CountLow place high) = (place < 2 ^ 32) × (high < 2 ^ 8)
HeldPending (AddressHigh place count) = (place < 2 ^ 32) × (count < 2 ^ 16)
HeldPending (AddressLow place count high) = (place < 2 ^ 32) × (count < 2 ^ 16) × (high < 2 ^ 8)
HeldPending (Payload place load) = (place < 2 ^ 32) × HeldLoad load
HeldPending (Bracket place settings) = (place < 2 ^ 32) × HeldSettings settings

-- the vertical tabs: two words, a u64 each
pub record HeldTabs (t : TabSet) : Type 0 where
  pub low : t.low < 2 ^ 64
  pub high : t.high < 2 ^ 64

-- the state: lines, spacing, margins, row and column are a usize each, the job's length is a u32
pub record HeldState (p : Printer) : Type 0 where
  pub lines : p.form.lines < 2 ^ 64
  pub spacing : p.form.spacing < 2 ^ 64
  pub top : p.form.top.0 < 2 ^ 64
  pub bottom : p.form.bottom.0 < 2 ^ 64
  pub job : p.job < 2 ^ 32
  pub pending : HeldPending p.pending
  pub row : p.head.row.0 < 2 ^ 64
  pub column : p.head.column < 2 ^ 64
  pub tabs : HeldTabs p.tabs

-- page, line store, staging and download store
pub record HeldStores (pg ln sg st : List ℕ) : Type 0 where
  pub page : HeldBytes pg
  pub line : HeldColumns ln
  pub staging : HeldBytes sg
  pub store : HeldBytes st

-- the memory lent, whatever the state
abbrev pub HeldMemory : Machine → Type 0
HeldMemory m = HeldStores m.page m.line m.staging m.store

-- the state and the memory lent
pub record Held (m : Machine) : Type 0 where
  pub printer : HeldState m.printer
  pub memory : HeldMemory m
