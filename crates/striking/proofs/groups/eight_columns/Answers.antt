-- `groups::eight_columns`: columns with no wire set leave the page as it is; others begin at the top of a byte, and what strikes them in their pitch is told
-- that byte.
use Prim.Native.Nat.{ℕ, ◌+◌, ◌-◌, ◌≤◌}
use mathlib.Core.Path.{◌≡◌, refl, sym, ap, ap₂, ◌∙◌}
use mathlib.Core.List.{List}
use native.Mathlib.Omega.{arith}
use lib.Bits.{bit_or}
use lib.ListN.{length, take, drop}
use Rattle.sheet.specs.declared.Grid.{Grid}
use Rattle.sheet.specs.declared.Model.TheVariants.{Lp2}
use Rattle.sheet.specs.declared.Pitch.{Pitch}
use Rattle.sheet.specs.declared.Pitch.TheVariants.{Normal, Compressed}
use Rattle.sheet.specs.Edition.{lp2}
use Rattle.sheet.specs.Dots.{blacken_all, line_marks}
use Rattle.sheet.proofs.Editions.{described_bounded, described_proper, lp2-row}
use Rattle.striking.proofs.Grouping.{none_set, part_long}
use Rattle.striking.proofs.Striking.{on_line, Placed, placed}
use Rattle.striking.proofs.Turning.{eight_none}
use Rattle.striking.proofs.groups.eight_columns.Goals as goal
use Rattle.striking.proofs.groups.eight_columns.Goals.{After-page_byte-at, Start}

inside : (s : Start) → s.args.c + 8 ≤ length s.args.line.now
inside s = on_line Lp2 s.args.line.now s.args.pitch s.args.c s.requires.c_value.0 s.requires.c_value.1 s.requires.room.full

-- the page at entry with the columns struck in a pitch
abbrev struck-in : Start → Pitch → List ℕ
struck-in s pitch = blacken_all s.args.page.now (line_marks lp2 (take 8 (drop s.args.c s.args.line.now)) pitch s.args.row s.args.c)

-- the columns begin at the byte that the code names, in the pitch that it has found
begin : (c : After-page_byte-at) (pitch : Pitch) → c.args.pitch ≡ pitch → let a = c.args in
    Placed Lp2 a.page.now a.row pitch a.c c.page_byte-at.result
begin c pitch told =
    placed Lp2 _ c.args.line.now _ _ pitch _ _ _ c.requires.room c.requires.c_value.0 c.requires.c_value.1 told c.grid.ensures c.page_byte-at.ensures

pub returns-then-four-eq0 : goal.returns-then-four-eq0
returns-then-four-eq0 c =
    let a = c.args in
    none_set lp2 _ _ _ _ _
    (eight_none a.line.now a.c (sym (ap₂ bit_or c.four.ensures c.four-2.ensures) ∙ c.if-four-eq0.true))

pub grid-requires : goal.grid-requires
grid-requires c =
    omega (arith, c.requires.c_value.1, (described_proper Lp2).wide c.args.pitch, (described_bounded Lp2).columns)

-- the place is on the row, and the row's bytes are on the page
pub page_byte-at-requires : goal.page_byte-at-requires
page_byte-at-requires c =
    let s = (goal.at.page_byte-at-requires c).Start in
    let spot = (described_proper Lp2).on_row s.args.pitch s.args.c s.requires.c_value.1 in
    record { model_bound = omega (arith, s.requires.room.rows, s); position_bound = omega (arith, ap (λ (g : Grid). g.0) c.grid.ensures, spot, lp2-row) }

-- the eight columns of the line
columns-are : (s : Start) → take (s.args.c + 8 - s.args.c) (drop s.args.c s.args.line.now) ≡ take 8 (drop s.args.c s.args.line.now)
columns-are s =
    let eight : s.args.c + 8 - s.args.c ≡ 8 = omega arith in
    ap (λ (n : ℕ). take n (drop s.args.c s.args.line.now)) eight

eight-long : (s : Start) → length (take (s.args.c + 8 - s.args.c) (drop s.args.c s.args.line.now)) ≡ 8
eight-long s = ap length (columns-are s) ∙ part_long s.args.line.now s.args.c 8 (inside s)

struck : (s : Start) {page : List ℕ} {pitch : Pitch} → s.args.pitch ≡ pitch
    → page ≡ blacken_all s.args.page.now (line_marks lp2 (take (s.args.c + 8 - s.args.c) (drop s.args.c s.args.line.now)) pitch s.args.row s.args.c)
    → page ≡ struck-in s s.args.pitch
struck s {pitch = pitch} told e =
    e
    ∙ ap (λ (columns : List ℕ). blacken_all s.args.page.now (line_marks lp2 columns pitch s.args.row s.args.c)) (columns-are s)
    ∙ ap (struck-in s) (sym told)

pub eight-requires : goal.eight-requires
eight-requires c =
    let at = begin (goal.at.eight-requires c).After-page_byte-at Normal c.in-Normal.is in
    (omega (arith, at.fits, lp2-row), omega arith, omega arith, eight-long (goal.at.eight-requires c).Start)

pub eight-requires-in-Compressed : goal.eight-requires-in-Compressed
eight-requires-in-Compressed c =
    let at = begin (goal.at.eight-requires-in-Compressed c).After-page_byte-at Compressed c.in-Compressed.is in
    (omega (arith, at.fits, lp2-row), omega arith, omega arith, eight-long (goal.at.eight-requires-in-Compressed c).Start)

pub returns-in-Normal : goal.returns-in-Normal
returns-in-Normal c =
    let told = c.in-Normal.is in
    struck (goal.at.returns-in-Normal c).Start told
    (c.eight.ensures Normal _ _ refl (begin (goal.at.returns-in-Normal c).After-page_byte-at Normal told).top)

pub returns-in-Compressed : goal.returns-in-Compressed
returns-in-Compressed c =
    let told = c.in-Compressed.is in
    struck (goal.at.returns-in-Compressed c).Start told
    (c.eight-in-Compressed.ensures Compressed _ _ refl (begin (goal.at.returns-in-Compressed c).After-page_byte-at Compressed told).top)

pub four-requires : goal.four-requires
four-requires c = omega (arith, inside (goal.at.four-requires c).Start)

pub four-requires-2 : goal.four-requires-2
four-requires-2 c = omega (arith, inside (goal.at.four-requires-2 c).Start)

pub overflow_add-columns : goal.overflow_add-columns
unfolding lp2
overflow_add-columns c = let s = (goal.at.overflow_add-columns c).Start in omega (arith, inside s, s.requires.room.full)

pub offset_bounds-line-c : goal.offset_bounds-line-c
unfolding lp2
offset_bounds-line-c c = let s = (goal.at.offset_bounds-line-c c).Start in omega (arith, inside s, s.requires.room.full)

pub slice_bounds-columns-end : goal.slice_bounds-columns-end
slice_bounds-columns-end c = inside (goal.at.slice_bounds-columns-end c).Start
