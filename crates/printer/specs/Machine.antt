-- The printer with the memory that it is lent. Document 01, "Memory lent".
use Rattle.std.specs.Prelude.{ℕ, true, false, List, replicate}
use Rattle.sheet.specs.declared.Form.{Form}
use Rattle.sheet.specs.declared.Model.{Model}
use Rattle.sheet.specs.declared.Pitch.TheVariants.{Normal}
use Rattle.sheet.specs.declared.Row.{Row}
use Rattle.sheet.specs.Edition.{Edition, described}
use Rattle.sheet.specs.Form.{blank_page, empty_line, new_form, top_row}
use Rattle.printer.specs.declared.Head.{Head}
use Rattle.printer.specs.declared.Pending.{Pending}
use Rattle.printer.specs.declared.Pending.TheVariants.{Nothing}
use Rattle.printer.specs.declared.Printer.{Printer}
use Rattle.printer.specs.declared.Style.{Style}
use Rattle.printer.specs.declared.TabSet.{TabSet}
use Rattle.printer.specs.Tabs.{no_tabs}

-- the state, the page, the line store, the staging store and the download store
pub record Machine : Type 0 where
  pub printer : Printer
  pub page : List ℕ
  pub line : List ℕ
  pub staging : List ℕ
  pub store : List ℕ

-- the bytes of the staging store, of the download store and of the resident font
abbrev pub store_size : ℕ
store_size = 2048

-- a staging store or a download store that holds nothing
unfoldable pub empty_store : List ℕ
empty_store = replicate store_size 0

-- the most bytes that a job may have
abbrev pub limit : ℕ
limit = 4294967295

-- the head on a fresh line at a row
abbrev pub fresh_head : Row → Head
fresh_head r = record { row = r; column = 0; fresh = true; plotted = false; plotting = false }

-- normal pitch, all features off
abbrev pub plain_style : Style
plain_style = record { pitch = Normal; elongated = false; underscore = false; downloaded = false }

-- the state at the start of a job: the form's first row (row 0, as margins open as 1 and L), column 0, normal pitch, all features off, no tabs
abbrev pub new_printer : Model → Form → Printer
new_printer w f = record { model = w; form = f; job = 0; pending = Nothing; head = fresh_head (top_row f); style = plain_style; tabs = no_tabs }

-- the shut state, L = 0
abbrev pub shut : Model → Printer
shut w = new_printer w (new_form 0 0)

-- the edition of a state
abbrev pub edition_of : Printer → Edition
edition_of p = described p.model

-- a job just opened: the page and the stores are zeroed
abbrev pub opened : Model → Form → Machine
opened w f =
    let e : Edition = described w in
    record { printer = new_printer w f; page = blank_page e f; line = empty_line e; staging = empty_store; store = empty_store }

-- The machine with one part of it changed.
abbrev pub with_printer : Printer → Machine → Machine
with_printer p m = record { printer = p; page = m.page; line = m.line; staging = m.staging; store = m.store }

abbrev pub with_page : List ℕ → Machine → Machine
with_page page m = record { printer = m.printer; page = page; line = m.line; staging = m.staging; store = m.store }

abbrev pub with_line : List ℕ → Machine → Machine
with_line line m = record { printer = m.printer; page = m.page; line = line; staging = m.staging; store = m.store }

abbrev pub with_staging : List ℕ → Machine → Machine
with_staging staging m = record { printer = m.printer; page = m.page; line = m.line; staging = staging; store = m.store }

abbrev pub with_store : List ℕ → Machine → Machine
with_store store m = record { printer = m.printer; page = m.page; line = m.line; staging = m.staging; store = store }

abbrev pub with_form : Form → Machine → Machine
with_form f m =
    let p : Printer = m.printer in
    with_printer (record { model = p.model; form = f; job = p.job; pending = p.pending; head = p.head; style = p.style; tabs = p.tabs }) m

abbrev pub with_job : ℕ → Machine → Machine
with_job n m =
    let p : Printer = m.printer in
    with_printer (record { model = p.model; form = p.form; job = n; pending = p.pending; head = p.head; style = p.style; tabs = p.tabs }) m

abbrev pub with_pending : Pending → Machine → Machine
with_pending q m =
    let p : Printer = m.printer in
    with_printer (record { model = p.model; form = p.form; job = p.job; pending = q; head = p.head; style = p.style; tabs = p.tabs }) m

abbrev pub with_head : Head → Machine → Machine
with_head h m =
    let p : Printer = m.printer in
    with_printer (record { model = p.model; form = p.form; job = p.job; pending = p.pending; head = h; style = p.style; tabs = p.tabs }) m

abbrev pub with_style : Style → Machine → Machine
with_style s m =
    let p : Printer = m.printer in
    with_printer (record { model = p.model; form = p.form; job = p.job; pending = p.pending; head = p.head; style = s; tabs = p.tabs }) m

abbrev pub with_tabs : TabSet → Machine → Machine
with_tabs t m =
    let p : Printer = m.printer in
    with_printer (record { model = p.model; form = p.form; job = p.job; pending = p.pending; head = p.head; style = p.style; tabs = t }) m
