-- What a strike asks of the page and of the line store: the nine rows are on the page, and the store has its numbers.
use Rattle.std.specs.Prelude.{ℕ, ◌+◌, ◌*◌, ◌≤◌, ◌≡◌, List, length}
use Rattle.sheet.specs.declared.Row.{Row}
use Rattle.sheet.specs.Edition.{Edition}

pub record Room (e : Edition) (page line : List ℕ) (row : Row) : Type 0 where
  pub rows : (row.0 + 9) * e.bytes ≤ length page
  pub full : length line ≡ e.columns
