-- Which states are sound. Document 01, "What a call gives back". The job's length, and a download's count and address, are in range in every state that
-- code can hold, by their types, u32 and u16; they need no test.
use Rattle.std.specs.Prelude.{ℕ, Bool, true, false, not, ◌&&◌, ◌||◌, List, [], ◌∷◌, eqb, leb, ltb, drop, None, Option, Some}
use Rattle.sheet.specs.declared.Form.{Form}
use Rattle.sheet.specs.Edition.{Edition}
use Rattle.sheet.specs.Form.{below_top, fits, lines_allowed, margins_allowed, spacing_allowed, unmargined}
use Rattle.printer.specs.declared.Head.{Head}
use Rattle.printer.specs.declared.Pending.{Pending}
use Rattle.printer.specs.declared.Pending.TheVariants.{Nothing, Escape, Tabs, Reset, Select, SelectLow, CountHigh, CountLow, AddressHigh}
use Rattle.printer.specs.declared.Pending.TheVariants.{AddressLow, Payload, Bracket}
use Rattle.printer.specs.declared.Printer.{Printer}
use Rattle.printer.specs.Tabs.{line_tabs}

-- where the pending command began: the place of its first byte
abbrev pub begun : Pending → Option ℕ
begun Nothing = None
begun (Escape place) = Some place
begun (Tabs place) = Some place
begun (Reset place) = Some place
begun (Select place) = Some place
begun (SelectLow place high) = Some place
begun (CountHigh place) = Some place
begun (CountLow place high) = Some place
begun (AddressHigh place count) = Some place
begun (AddressLow place count high) = Some place
begun (Payload place load) = Some place
begun (Bracket place settings) = Some place

-- L and the spacing are in range and the margins lie on the form; where the form can't change they are 1 and L
unfoldable pub form_sound : Edition → Form → Bool
form_sound e f = lines_allowed e f.lines && spacing_allowed f.spacing && margins_allowed f && (e.brackets || unmargined f)

-- none of some lines has a tab
unfoldable pub untabbed : List Bool → Bool
untabbed [] = true
untabbed (t ∷ ts) = not t && untabbed ts

-- tabs lie on lines 1 to L
unfoldable pub tabs_sound : Form → List Bool → Bool
tabs_sound f tabs = untabbed (drop f.lines tabs)

-- no more payload is taken than counted, and ESC [ has begun a command only where it can
abbrev pub load_sound : Edition → Pending → Bool
load_sound e Nothing = true
load_sound e (Escape place) = true
load_sound e (Tabs place) = true
load_sound e (Reset place) = true
load_sound e (Select place) = true
load_sound e (SelectLow place high) = true
load_sound e (CountHigh place) = true
load_sound e (CountLow place high) = true
load_sound e (AddressHigh place count) = true
load_sound e (AddressLow place count high) = true
load_sound e (Payload place load) = leb load.taken load.count
load_sound e (Bracket place settings) = e.brackets

-- a started command's place is below the job length
abbrev pub place_sound : ℕ → Option ℕ → Bool
place_sound job None = true
place_sound job (Some place) = ltb place job

-- a fresh line is at column 0 and no plot line
unfoldable pub fresh_sound : Head → Bool
fresh_sound h = not h.fresh || (eqb h.column 0 && not h.plotted)

-- no command is begun, or none but a lone ESC
abbrev pub at_most_escape : Pending → Bool
at_most_escape Nothing = true
at_most_escape (Escape place) = true
at_most_escape (Tabs place) = false
at_most_escape (Reset place) = false
at_most_escape (Select place) = false
at_most_escape (SelectLow place high) = false
at_most_escape (CountHigh place) = false
at_most_escape (CountLow place high) = false
at_most_escape (AddressHigh place count) = false
at_most_escape (AddressLow place count high) = false
at_most_escape (Payload place load) = false
at_most_escape (Bracket place settings) = false

-- plot mode holds only on a plot line, with no command begun but a lone ESC
unfoldable pub plot_sound : Head → Pending → Bool
plot_sound h q = not h.plotting || (h.plotted && at_most_escape q)

-- a state is sound
unfoldable pub sound : Edition → Printer → Bool
sound e p =
    form_sound e p.form
    && below_top p.form p.head.row
    && fits p.form p.head.row
    && leb p.head.column (e.width p.style.pitch)
    && tabs_sound p.form (line_tabs p.tabs)
    && load_sound e p.pending
    && place_sound p.job (begun p.pending)
    && fresh_sound p.head
    && plot_sound p.head p.pending
