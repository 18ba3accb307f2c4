-- The lines that bytes strike, as they were struck.
use Rattle.std.specs.Prelude.{ℕ, Bool, true, false, cond, not, ◌&&◌, ◌||◌, List, [], ◌∷◌, ◌++◌, eqb, ◌⊎◌}
use Rattle.sheet.specs.declared.Grid.{Grid}
use Rattle.sheet.specs.declared.Pitch.{Pitch}
use Rattle.sheet.specs.declared.Row.{Row}
use Rattle.sheet.specs.Dots.{Strikes, marks, struck}
use Rattle.sheet.specs.Edition.{Edition}
use Rattle.printer.specs.declared.Pending.{Pending}
use Rattle.printer.specs.declared.Pending.TheVariants.{Nothing, Escape, Tabs, Reset, Select, SelectLow, CountHigh, CountLow, AddressHigh}
use Rattle.printer.specs.declared.Pending.TheVariants.{AddressLow, Payload, Bracket}
use Rattle.printer.specs.Machine.{Machine}

-- a line, the row that it was struck at and its pitch
pub record Strike : Type 0 where
  pub line : List ℕ
  pub row : Row
  pub pitch : Pitch

-- 0A, 0B, 0C, 0D
unfoldable pub terminator : ℕ → Bool
terminator b = eqb b 0x0a || (eqb b 0x0b || (eqb b 0x0c || eqb b 0x0d))

-- no command is begun
abbrev pub idle : Pending → Bool
idle Nothing = true
idle (Escape place) = false
idle (Tabs place) = false
idle (Reset place) = false
idle (Select place) = false
idle (SelectLow place high) = false
idle (CountHigh place) = false
idle (CountLow place high) = false
idle (AddressHigh place count) = false
idle (AddressLow place count high) = false
idle (Payload place load) = false
idle (Bracket place settings) = false

-- a byte strikes the line in progress: it is a terminator, and no data, outside plot mode
unfoldable pub strikes : ℕ → Machine → Bool
strikes b m = idle m.printer.pending && not m.printer.head.plotting && terminator b

-- the line in progress, as a strike
abbrev pub in_progress : Machine → Strike
in_progress m = record { line = m.line; row = m.printer.head.row; pitch = m.printer.style.pitch }

-- the line that a byte strikes, if it strikes one
unfoldable pub strikes_of : ℕ → Machine → List Strike
strikes_of b m = cond (strikes b m) (in_progress m ∷ []) []

-- a page with lines struck, one after the other
unfoldable pub strike_all : Edition → List Strike → List ℕ → List ℕ
strike_all e [] page = page
strike_all e (s ∷ ss) page = strike_all e ss (struck e page s.line s.row s.pitch)

-- the dots that some struck lines put down, in order
unfoldable pub put_down : Edition → List Strike → List ℕ
put_down e [] = []
put_down e (s ∷ ss) = marks e s.line s.row s.pitch ++ put_down e ss

-- one of some struck lines put a dot at grid position g of row r
abbrev pub PutBy : Edition → List Strike → Row → Grid → Type 0
PutBy e [] r g = ⊥
PutBy e (s ∷ ss) r g = Strikes e s.line s.row s.pitch r g ⊎ PutBy e ss r g
