-- `positions::sixteen_positions`: the positions stand in two bytes of a row, and what strikes their columns is told the first.
use Prim.Native.Nat.{ℕ, ◌+◌, ◌≤◌, ◌<◌}
use mathlib.Core.Path.{◌≡◌, refl, ap, ap₂}
use mathlib.Core.List.{List, [], ◌∷◌}
use native.Mathlib.Omega.{arith}
use lib.ListN.{length}
use Rattle.sheet.specs.declared.Grid.{Grid}
use Rattle.sheet.specs.declared.Model.TheVariants.{Dg6215}
use Rattle.sheet.specs.Edition.{dg6215}
use Rattle.striking.specs.Turning.{fours}
use Rattle.sheet.proofs.Editions.{dg6215-row}
use Rattle.striking.proofs.Striking.{on_line, Placed, placed}
use Rattle.striking.proofs.Turning.{Small}
use Rattle.striking.proofs.positions.sixteen_positions.Goals as goal
use Rattle.striking.proofs.positions.sixteen_positions.Goals.{After-four-fourth, After-page_byte-at, After-shared_slice_known-1, Start}

inside : (s : Start) → s.args.c + 16 ≤ length s.args.line.now
inside s = on_line Dg6215 s.args.line.now s.args.pitch s.args.c s.requires.c_value.0 s.requires.c_value.1 s.requires.room.full

small : (c : After-shared_slice_known-1) → Small c.args.line.now
small c k = omega (arith, c.shared_slice_known-1.given k)

-- the positions begin at the byte that the code names
begin : (c : After-page_byte-at) → let a = c.args in Placed Dg6215 a.page.now a.row a.pitch a.c c.page_byte-at.result
begin c =
    placed Dg6215 _ c.args.line.now _ _ _ _ _ _ c.requires.room c.requires.c_value.0 c.requires.c_value.1 refl c.grid.ensures c.page_byte-at.ensures

below : (s : Start) → s.args.c < 6800
unfolding dg6215
below s = s.requires.c_value.1

-- the place is on the row, and the row's bytes are on the page
pub page_byte-at-requires : goal.page_byte-at-requires
unfolding dg6215
page_byte-at-requires c =
    let s = (goal.at.page_byte-at-requires c).Start in
    record { model_bound = omega (arith, s.requires.room.rows, s); position_bound = omega (arith, ap (λ (g : Grid). g.0) c.grid.ensures, below s) }

pub sixteen_columns-requires : goal.sixteen_columns-requires
sixteen_columns-requires c = omega (arith, (begin (goal.at.sixteen_columns-requires c).After-page_byte-at).fits, dg6215-row)

-- the columns stand side by side in the four numbers
as-fours : (c : After-four-fourth) → let a = c.args in
    c.four-first.result ∷ c.four-second.result ∷ c.four-third.result ∷ c.four-fourth.result ∷ []
    ≡ fours a.line.now a.c
unfolding fours
as-fours c =
    let one = c.four-first.ensures in
    let two = c.four-second.ensures in
    let three = c.four-third.ensures in
    ap₂ (λ (n : ℕ) (ns : List ℕ). n ∷ ns) one
    (ap₂ (λ (n : ℕ) (ns : List ℕ). n ∷ ns) two (ap₂ (λ (n m : ℕ). n ∷ m ∷ []) three c.four-fourth.ensures))

pub returns : goal.returns
returns c =
    let s = (goal.at.returns c).Start in
    c.sixteen_columns.ensures s.args.line.now _ _ s.args.c (inside s) (small (goal.at.returns c).After-shared_slice_known-1)
    (as-fours (goal.at.returns c).After-four-fourth) (begin (goal.at.returns c).After-page_byte-at).top

pub four-first-requires : goal.four-first-requires
four-first-requires c = omega (arith, inside (goal.at.four-first-requires c).Start)

pub four-second-requires : goal.four-second-requires
four-second-requires c = omega (arith, inside (goal.at.four-second-requires c).Start)

pub four-third-requires : goal.four-third-requires
four-third-requires c = omega (arith, inside (goal.at.four-third-requires c).Start)

pub four-fourth-requires : goal.four-fourth-requires
four-fourth-requires c = omega (arith, inside (goal.at.four-fourth-requires c).Start)

pub grid-requires : goal.grid-requires
grid-requires c = omega (arith, below (goal.at.grid-requires c).Start)
