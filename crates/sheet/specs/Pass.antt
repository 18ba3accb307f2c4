-- A pass of the print head over a line: it strikes the line's columns one after the other. Document 02, #111.
use Rattle.std.specs.Prelude.{ℕ, zero, suc, ◌<◌, List, [], ◌∷◌, ◌++◌, get_or}
use Rattle.sheet.specs.declared.Pitch.{Pitch}
use Rattle.sheet.specs.declared.Row.{Row}
use Rattle.sheet.specs.Dots.{blacken_all, column_marks, In}
use Rattle.sheet.specs.Edition.{Edition}

module _ (e : Edition) where
  -- the dots of column c of a line struck at row r: of its nine wires, at its grid position
  abbrev pub marks_at : List ℕ → Row → Pitch → ℕ → List ℕ
  marks_at line r pitch c = column_marks e (get_or line c 0) r (e.grid pitch c)

  -- the page with that column struck
  unfoldable pub column_struck : List ℕ → List ℕ → Row → Pitch → ℕ → List ℕ
  column_struck page line r pitch c = blacken_all page (marks_at line r pitch c)

  -- the page with some columns of a line struck, one after the other
  unfoldable pub columns_struck : List ℕ → List ℕ → Row → Pitch → List ℕ → List ℕ
  columns_struck page line r pitch [] = page
  columns_struck page line r pitch (c ∷ cs) = columns_struck (column_struck page line r pitch c) line r pitch cs

-- A pass, as the columns that the head strikes, in order: each column below W once at least, and no other.
pub record Pass (e : Edition) (pitch : Pitch) (columns : List ℕ) : Type 0 where
  pub each : (c : ℕ) → c < e.width pitch → In c columns
  pub no_other : (c : ℕ) → In c columns → c < e.width pitch

-- the first n columns, from left to right
unfoldable pub rightward : ℕ → List ℕ
rightward zero = []
rightward (suc n) = rightward n ++ (n ∷ [])

-- the first n columns, from right to left
unfoldable pub leftward : ℕ → List ℕ
leftward zero = []
leftward (suc n) = n ∷ leftward n
