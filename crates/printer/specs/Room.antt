-- What the functions of src/ ask of the state and of what they are lent. A machine that is ready, with a font of its length, has it all.
use Rattle.std.specs.Prelude.{ℕ, ◌+◌, ◌*◌, ◌≤◌, List, ◌≡◌, length, None, Option, Some}
use Rattle.sheet.specs.declared.Line.{Line}
use Rattle.sheet.specs.declared.Form.{Form}
use Rattle.sheet.specs.declared.Model.{Model}
use Rattle.sheet.specs.Edition.{Edition, described}
use Rattle.sheet.specs.Form.{page_bytes, rows_per_line}
use Rattle.printer.specs.declared.Memory.{Memory}
use Rattle.printer.specs.declared.Printer.{Printer}
use Rattle.printer.specs.Facts.{Sound, SoundForm}
use Rattle.printer.specs.Machine.{Machine, edition_of, store_size}

-- to enter a character
pub record Writable (e : Edition) (p : Printer) (ln st font : List ℕ) : Type 0 where
  pub column : p.head.column ≤ e.columns
  pub line : length ln ≡ e.columns
  pub store : length st ≡ store_size
  pub resident : length font ≡ store_size

-- to set wires at the head
abbrev pub OnLine : Edition → Printer → List ℕ → Type 0
OnLine e p ln = (p.head.column ≤ e.columns) × (length ln ≡ e.columns)

-- to strike a line: its nine wires stay within the margins, which lie on the form
pub record Strikable (e : Edition) (p : Printer) (pg ln : List ℕ) : Type 0 where
  pub form : SoundForm e p.form
  pub row : p.head.row.0 + 9 ≤ p.form.bottom.0 * rows_per_line p.form.spacing
  pub page : length pg ≡ page_bytes e p.form
  pub line : length ln ≡ e.columns

-- to obey any byte
pub record Room (e : Edition) (p : Printer) (pg ln sg st font : List ℕ) : Type 0 where
  pub form : SoundForm e p.form
  pub row : p.head.row.0 + 9 ≤ p.form.bottom.0 * rows_per_line p.form.spacing
  pub column : p.head.column ≤ e.columns
  pub page : length pg ≡ page_bytes e p.form
  pub line : length ln ≡ e.columns
  pub staging : length sg ≡ store_size
  pub store : length st ≡ store_size
  pub resident : length font ≡ store_size

abbrev pub RoomIn : Printer → Memory → Type 0
RoomIn p m = Room (edition_of p) p m.page.now m.line.now m.staging.now m.store.now m.font.now

-- the lengths of what is lent for a form
pub record Sized (e : Edition) (f : Form) (pg ln sg st : List ℕ) : Type 0 where
  pub page : length pg ≡ page_bytes e f
  pub line : length ln ≡ e.columns
  pub staging : length sg ≡ store_size
  pub store : length st ≡ store_size

abbrev pub SizedIn : Model → Form → Memory → Type 0
SizedIn w f m = Sized (described w) f m.page.now m.line.now m.staging.now m.store.now

-- ready for a byte: the state is sound and the memory has its lengths
pub record Ready (e : Edition) (m : Machine) : Type 0 where
  pub printer : Sound e m.printer
  pub memory : Sized e m.printer.form m.page m.line m.staging m.store

-- a tabbed line that was found is one that the state has a place for
abbrev pub Kept : Option Line → Type 0
Kept (Some n) = (1 ≤ n.0) × (n.0 ≤ 128)
Kept None = Unit {0}
