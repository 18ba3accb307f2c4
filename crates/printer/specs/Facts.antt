-- What a sound state has, as facts; a law of `Soundness` says that a state has them exactly where `sound` holds.
use Rattle.std.specs.Prelude.{ℕ, ◌+◌, ◌*◌, ◌≤◌, ◌<◌, Bool, true, false, ◌||◌, List, ◌≡◌, T, get_or, None, Option, Some}
use Rattle.sheet.specs.declared.Form.{Form}
use Rattle.sheet.specs.Edition.{Edition}
use Rattle.sheet.specs.Form.{rows_per_line, spacing_allowed, top_row, unmargined}
use Rattle.printer.specs.declared.Head.{Head}
use Rattle.printer.specs.declared.Pending.{Pending}
use Rattle.printer.specs.declared.Pending.TheVariants.{Nothing, Escape, Tabs, Reset, Select, SelectLow, CountHigh, CountLow, AddressHigh}
use Rattle.printer.specs.declared.Pending.TheVariants.{AddressLow, Payload, Bracket}
use Rattle.printer.specs.declared.Printer.{Printer}
use Rattle.printer.specs.Sound.{at_most_escape, begun}
use Rattle.printer.specs.Tabs.{line_tabs}

-- a form with lines and a spacing in range, and margins on it
pub record SoundForm (e : Edition) (f : Form) : Type 0 where
  pub most : f.lines ≤ e.longest
  pub spacing : spacing_allowed f.spacing ≡ true
  pub top : 1 ≤ f.top.0
  pub between : f.top.0 ≤ f.bottom.0
  pub bottom : f.bottom.0 ≤ f.lines
  pub own : (e.brackets || unmargined f) ≡ true

-- a head within the margins, its nine wires too, on a line of some positions; a fresh line is at column 0 and no plot line
pub record SoundHead (f : Form) (width : ℕ) (h : Head) : Type 0 where
  pub above : (top_row f).0 ≤ h.row.0
  pub row : h.row.0 + 9 ≤ f.bottom.0 * rows_per_line f.spacing
  pub column : h.column ≤ width
  pub fresh : T h.fresh → (h.column ≡ 0) × (h.plotted ≡ false)

-- each line with a tab is a line of the form
pub record SoundTabs (lines : ℕ) (tabs : List Bool) : Type 0 where
  pub inside : (i : ℕ) → T (get_or tabs i false) → i < lines

-- no more payload is taken than counted, and ESC [ has begun a command only where it can
abbrev pub SoundLoad : Edition → Pending → Type 0
SoundLoad e Nothing = Unit {0}
SoundLoad e (Escape place) = Unit {0}
SoundLoad e (Tabs place) = Unit {0}
SoundLoad e (Reset place) = Unit {0}
SoundLoad e (Select place) = Unit {0}
SoundLoad e (SelectLow place high) = Unit {0}
SoundLoad e (CountHigh place) = Unit {0}
SoundLoad e (CountLow place high) = Unit {0}
SoundLoad e (AddressHigh place count) = Unit {0}
SoundLoad e (AddressLow place count high) = Unit {0}
SoundLoad e (Payload place load) = load.taken ≤ load.count
SoundLoad e (Bracket place settings) = e.brackets ≡ true

-- a started command's place is below the job length
abbrev pub SoundPlace : ℕ → Option ℕ → Type 0
SoundPlace job None = Unit {0}
SoundPlace job (Some place) = place < job

-- plot mode holds only on a plot line, with no command begun but a lone ESC
abbrev pub SoundPlot : Head → Pending → Type 0
SoundPlot h q = T h.plotting → (h.plotted ≡ true) × (at_most_escape q ≡ true)

-- the facts of a sound state
pub record Sound (e : Edition) (p : Printer) : Type 0 where
  pub form : SoundForm e p.form
  pub head : SoundHead p.form (e.width p.style.pitch) p.head
  pub tabs : SoundTabs p.form.lines (line_tabs p.tabs)
  pub load : SoundLoad e p.pending
  pub place : SoundPlace p.job (begun p.pending)
  pub plot : SoundPlot p.head p.pending
