-- The proved table, cases A to L. Document 01, "The proved table". Behind it cases of the 6215's own commands, document 02, #105.
use Rattle.std.specs.Prelude.{ℕ, Bool, true, false, not, List, [], ◌∷◌, ◌++◌, map, ◌≡◌, drop, get_or, replicate, take}
use Rattle.sheet.specs.declared.Model.{Model}
use Rattle.sheet.specs.Edition.{described}
use Rattle.sheet.specs.Form.{new_form}
use Rattle.glyph.specs.CapitalB.{capital_b}
use Rattle.printer.specs.Bytes.{run}
use Rattle.printer.specs.Closing.{closing}
use Rattle.printer.specs.Commands.{reading}
use Rattle.printer.specs.Machine.{Machine, edition_of, opened, with_head}
use Rattle.printer.specs.Numbers.{Report, close_report, plain, told_report}
use Rattle.printer.specs.Steps.{Outcome}

-- where to look at the machine that a job leaves
pub data Look : Type 0 where
  row : Look
  position : Look  -- the current column
  column : ℕ → Look  -- a column of the line store
  stored : ℕ → ℕ → Look  -- some bytes of the download store: the first of them, and how many
  closed : Look  -- what closing answers

-- what is seen there
pub data Seen : Type 0 where
  number : ℕ → Seen
  bytes : List ℕ → Seen
  answer : Report → Seen

unfoldable pub look_at : Look → Machine → Seen
look_at row m = number m.printer.head.row.0
look_at position m = number m.printer.head.column
look_at (column c) m = number (get_or m.line c 0)
look_at (stored from count) m = bytes (take count (drop from m.store))
look_at closed m = answer (close_report (closing (edition_of m.printer) m.printer))

pub record Sight : Type 0 where
  pub look : Look
  pub finds : Seen

abbrev pub sees : Look → Seen → Sight
sees l s = record { look = l; finds = s }

-- a case: the row that it starts on and whether on a plot line, the job, what is told of it and what is then seen
pub record Case : Type 0 where
  pub row : ℕ
  pub plotted : Bool
  pub job : List ℕ
  pub told : List Report
  pub seen : List Sight

-- L = 66, 6 an inch: a job just opened, but for the row and the line
abbrev pub start : Model → ℕ → Bool → Machine
start w r plotted =
    with_head (record { row = record { 0 = r }; column = 0; fresh = not plotted; plotted = plotted; plotting = false })
    (opened w (new_form 66 6))

-- a case that starts on the first row, and one that starts on another
abbrev pub from_top : List ℕ → List Report → List Sight → Case
from_top job told seen = record { row = 0; plotted = false; job = job; told = told; seen = seen }

abbrev pub from_row : ℕ → Bool → List ℕ → List Report → List Sight → Case
from_row r plotted job told seen = record { row = r; plotted = plotted; job = job; told = told; seen = seen }

abbrev pub note_at : ℕ → ℕ → Report
note_at n place = record { number = 2; values = n ∷ place ∷ [] }

abbrev pub form_finished : Report
form_finished = plain 1

-- the download of LP2's "B", with some checksum
abbrev pub download_b : ℕ → List ℕ
download_b checksum = 0o033 ∷ 0o131 ∷ 0o000 ∷ 0o020 ∷ 0o014 ∷ 0o040 ∷ (capital_b ++ (checksum ∷ []))

-- the cases, each behind its letter: first those that go by no width
unfoldable pub from_f_on : List Case
from_f_on =
    -- F
    from_top (0x1b ∷ 0x46 ∷ 0x0a ∷ 0x00 ∷ 0x0b ∷ []) [] (sees row (number 108) ∷ [])
    -- G
    ∷ from_top (0x0b ∷ []) [] (sees row (number 0) ∷ [])
    -- H
    ∷ from_top (download_b 0o341) [] (sees (stored 1056 16) (bytes capital_b) ∷ [])
    ∷ from_top (download_b 0o340) (note_at 45 0 ∷ []) []
    -- I
    ∷ from_row 780 false (0x0a ∷ []) (form_finished ∷ []) (sees row (number 0) ∷ [])
    ∷ from_row 768 false (0x0a ∷ []) [] (sees row (number 780) ∷ [])
    -- J
    ∷ from_row 776 true (0x0a ∷ []) [] (sees row (number 783) ∷ [])
    ∷ from_row 777 true (0x0a ∷ []) (form_finished ∷ []) []
    -- K
    ∷ from_top (0x1b ∷ 0x64 ∷ 0x01 ∷ 0x1b ∷ 0x65 ∷ 0x0a ∷ []) [] (sees row (number 7) ∷ [])
    ∷ from_top (0x1b ∷ 0x64 ∷ 0x01 ∷ 0x1b ∷ 0x65 ∷ 0x0d ∷ 0x0a ∷ []) [] (sees row (number 12) ∷ [])
    -- L
    ∷ from_top (0x1b ∷ 0x30 ∷ []) (note_at 42 0 ∷ []) []
    ∷ []

-- the table of the LP2
unfoldable pub table : List Case
table =
    -- A
    from_top [] [] (sees closed (answer (plain 0)) ∷ [])
    -- B
    ∷ from_top (replicate 133 0x41) (note_at 44 132 ∷ []) []
    -- C
    ∷ from_top (0x1b ∷ 0x3c ∷ replicate 67 0x41) (note_at 44 68 ∷ []) []
    -- D
    ∷ from_top (0x1b ∷ 0x64 ∷ 0x7f ∷ []) [] (sees (column 0) (number 127) ∷ [])
    -- E
    ∷ from_top (0x1b ∷ 0x64 ∷ 0x1b ∷ 0x1b ∷ []) [] (sees position (number 1) ∷ sees (column 0) (number 27) ∷ [])
    ∷ from_f_on

-- the table of the 6215: its line takes 136 normal characters or 68 elongated ones, and a column five positions
unfoldable pub table_6215 : List Case
table_6215 =
    -- A
    from_top [] [] (sees closed (answer (plain 0)) ∷ [])
    -- B
    ∷ from_top (replicate 137 0x41) (note_at 44 136 ∷ []) []
    -- C
    ∷ from_top (0x1b ∷ 0x3c ∷ replicate 69 0x41) (note_at 44 70 ∷ []) []
    -- D
    ∷ from_top (0x1b ∷ 0x64 ∷ 0x7f ∷ []) [] (sees (column 0) (number 127) ∷ [])
    -- E
    ∷ from_top (0x1b ∷ 0x64 ∷ 0x1b ∷ 0x1b ∷ []) [] (sees position (number 5) ∷ sees (column 0) (number 27) ∷ [])
    ∷ from_f_on

-- ESC [, its digits and semicolons with the last byte, and what follows
abbrev pub bracketed : List ℕ → List ℕ → List ℕ
bracketed command rest = 0x1b ∷ 0x5b ∷ (command ++ rest)

-- Print styles: of each, the positions that a character takes. No other v, no omitted one and no semicolon; another last byte.
unfoldable pub styles : List Case
styles =
    from_top (bracketed (0x30 ∷ 0x77 ∷ []) (0x41 ∷ [])) [] (sees position (number 100) ∷ [])
    ∷ from_top (bracketed (0x32 ∷ 0x77 ∷ []) (0x41 ∷ [])) [] (sees position (number 60) ∷ [])
    ∷ from_top (bracketed (0x30 ∷ 0x34 ∷ 0x77 ∷ []) (0x41 ∷ [])) [] (sees position (number 50) ∷ [])
    ∷ from_top (0x41 ∷ bracketed (0x36 ∷ 0x77 ∷ []) (0x41 ∷ [])) [] (sees position (number 80) ∷ [])
    ∷ from_top (bracketed (0x33 ∷ 0x77 ∷ []) []) (note_at 46 0 ∷ []) []
    ∷ from_top (bracketed (0x77 ∷ []) []) (note_at 46 0 ∷ []) []
    ∷ from_top (bracketed (0x34 ∷ 0x3b ∷ 0x77 ∷ []) []) (note_at 46 0 ∷ []) []
    ∷ from_top (bracketed (0x34 ∷ 0x1b ∷ []) (0x41 ∷ [])) (note_at 42 0 ∷ []) (sees position (number 50) ∷ [])
    ∷ []

-- Form and spacing: a page is finished, and the new one begins at line N2; its tabs stay. Then a bad form, one out of place, and a bad value, which
-- is noted before that.
unfoldable pub forms : List Case
forms =
    from_top (bracketed (0x33 ∷ 0x30 ∷ 0x3b ∷ 0x35 ∷ 0x3b ∷ 0x32 ∷ 0x30 ∷ 0x72 ∷ []) []) (form_finished ∷ []) (sees row (number 48) ∷ [])
    ∷ from_top (0x1b ∷ 0x46 ∷ 0x0a ∷ 0x28 ∷ 0x00 ∷ bracketed (0x31 ∷ 0x32 ∷ 0x3b ∷ 0x3b ∷ 0x31 ∷ 0x32 ∷ 0x72 ∷ []) (0x0b ∷ [])) (form_finished ∷ [])
    (sees row (number 108) ∷ [])
    ∷ from_top (bracketed (0x33 ∷ 0x30 ∷ 0x72 ∷ []) []) (note_at 43 0 ∷ []) []
    ∷ from_top (bracketed (0x31 ∷ 0x31 ∷ 0x33 ∷ 0x72 ∷ []) []) (note_at 43 0 ∷ []) []
    ∷ from_top (bracketed (0x3b ∷ 0x3b ∷ 0x3b ∷ 0x72 ∷ []) []) (note_at 43 0 ∷ []) []
    ∷ from_top (bracketed (0x3b ∷ 0x3b ∷ 0x72 ∷ []) []) (form_finished ∷ []) []
    ∷ from_top (bracketed (0x32 ∷ 0x7a ∷ []) (0x0a ∷ [])) (form_finished ∷ []) (sees row (number 9) ∷ [])
    ∷ from_top (bracketed (0x31 ∷ 0x7a ∷ []) (0x0a ∷ [])) (form_finished ∷ []) (sees row (number 12) ∷ [])
    ∷ from_top (0x41 ∷ bracketed (0x32 ∷ 0x7a ∷ []) []) (note_at 43 1 ∷ []) []
    ∷ from_row 12 false (bracketed (0x32 ∷ 0x7a ∷ []) []) (note_at 43 0 ∷ []) []
    ∷ from_top (0x41 ∷ bracketed (0x33 ∷ 0x7a ∷ []) []) (note_at 46 1 ∷ []) []
    ∷ from_top (0x41 ∷ bracketed (0x7a ∷ []) []) (note_at 46 1 ∷ []) []
    ∷ []

-- what is told of a job, and what is then seen
pub record Findings : Type 0 where
  pub told : List Report
  pub seen : List Seen

-- what a case says
unfoldable pub stated : Case → Findings
stated c = record { told = c.told; seen = map (λ (s : Sight). s.finds) c.seen }

-- what a way of reading a job makes of a case
unfoldable pub found : Model → (List ℕ → Machine → Outcome) → Case → Findings
found w read c =
    let o : Outcome = read c.job (start w c.row c.plotted) in
    record { told = map told_report o.told; seen = map (λ (s : Sight). look_at s.look o.machine) c.seen }

-- a way of reading finds in each of some cases what the case says
abbrev pub Meets : Model → List Case → (List ℕ → Machine → Outcome) → Type 0
Meets w cases read = map (found w read) cases ≡ map stated cases

-- both readings do, whatever the font
pub record Holds (w : Model) (cases : List Case) : Type 0 where
  pub by_bytes : (font : List ℕ) → Meets w cases (run (described w) font)
  pub by_commands : (font : List ℕ) → Meets w cases (reading (described w) font)
