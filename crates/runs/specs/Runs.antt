-- A run: the like bytes that a piece begins with, characters, plotted columns or payload, which are taken at one go. It states no rule: each byte of a
-- run leads where it leads by itself.
use Rattle.std.specs.Prelude.{ℕ, suc, ◌-◌, Bool, true, false, cond, not, ◌&&◌, List, [], ◌∷◌, ◌≡◌, leb, ltb, length, None, Option, Some}
use Rattle.sheet.specs.Edition.{Edition}
use Rattle.glyph.specs.Entering.{cell}
use Rattle.printer.specs.declared.Load.{Load}
use Rattle.printer.specs.declared.Pending.{Pending}
use Rattle.printer.specs.declared.Pending.TheVariants.{Nothing, Escape, Tabs, Reset, Select, SelectLow, CountHigh, CountLow, AddressHigh, AddressLow, Payload}
use Rattle.printer.specs.declared.Pending.TheVariants.{Bracket}
use Rattle.printer.specs.declared.Printer.{Printer}
use Rattle.printer.specs.Alone.{prints}
use Rattle.printer.specs.Bytes.{step}
use Rattle.printer.specs.Given.{machine, moved}
use Rattle.printer.specs.Machine.{Machine, limit}
use Rattle.printer.specs.Plotting.{plots}
use Rattle.printer.specs.Printing.{past}
use Rattle.runs.specs.declared.Ran.{Ran}

-- a byte is a character whose cell fits the line
abbrev pub types : Edition → ℕ → Printer → Bool
types e b p = prints b && leb (past e (cell p.style.elongated) p) (e.width p.style.pitch)

-- a byte is a column that fits the line
abbrev pub draws : Edition → ℕ → Printer → Bool
draws e b p = plots b && leb (past e 1 p) (e.width p.style.pitch)

-- a byte goes on a run, by what is pending: in plot mode a column, outside it a character on no plot line, of a download payload that it lacks
unfoldable pub goes_on : Edition → ℕ → Pending → Printer → Bool
goes_on e b Nothing p = cond p.head.plotting (draws e b p) (not p.head.plotted && types e b p)
goes_on e b (Payload place load) p = ltb load.taken load.count
goes_on e b (Escape place) p = false
goes_on e b (Tabs place) p = false
goes_on e b (Reset place) p = false
goes_on e b (Select place) p = false
goes_on e b (SelectLow place high) p = false
goes_on e b (CountHigh place) p = false
goes_on e b (CountLow place high) p = false
goes_on e b (AddressHigh place count) p = false
goes_on e b (AddressLow place count high) p = false
goes_on e b (Bracket place settings) p = false

-- how many bytes a run has, and the machine that it leads to
pub record Run : Type 0 where
  pub taken : ℕ
  pub machine : Machine

abbrev pub no_run : Machine → Run
no_run m = record { taken = 0; machine = m }

-- a run with one byte more before it
abbrev pub longer : Run → Run
longer r = record { taken = suc r.taken; machine = r.machine }

-- the run that a piece begins with: byte by byte, as far as they go on and fit the job
unfoldable pub running : Edition → List ℕ → List ℕ → Machine → Run
running e font [] m = no_run m
running e font (b ∷ bs) m =
    cond (ltb m.printer.job limit && goes_on e b m.printer.pending m.printer)
    (longer (running e font bs (step e font b m).machine))
    (no_run m)

-- what a function of src/ gives back, with the memory as it leaves it
abbrev pub given_run : Ran → List ℕ → List ℕ → List ℕ → List ℕ → Run
given_run r page line staging store = record { taken = r.taken; machine = machine r.printer page line staging store }

-- the run of a single byte, by where it has brought the head
unfoldable pub reached : Option ℕ → Printer → Ran
reached None p = record { printer = p; taken = 0 }
reached (Some column) p = record { printer = moved column p; taken = 1 }

-- how many bytes of a piece fit the job
abbrev pub fitting : ℕ → List ℕ → ℕ
fitting job piece = cond (ltb (length piece) (limit - job)) (length piece) (limit - job)

-- characters can be entered: nothing is pending, in no plot mode and on no plot line
pub record Typing (p : Printer) : Type 0 where
  pub pending : p.pending ≡ Nothing
  pub plotting : p.head.plotting ≡ false
  pub plotted : p.head.plotted ≡ false

-- columns can be plotted: nothing is pending, in plot mode
pub record Plotting (p : Printer) : Type 0 where
  pub pending : p.pending ≡ Nothing
  pub plotting : p.head.plotting ≡ true

-- the state in which so much of a download is there, in a job of so many bytes
abbrev pub loading : ℕ → Load → ℕ → Printer → Printer
loading place l job p = record { model = p.model; form = p.form; job = job; pending = Payload place l; head = p.head; style = p.style; tabs = p.tabs }
