-- What a proper edition keeps to, that each model's does, and the numbers of both.
use Prim.Native.Nat.{ℕ, ◌+◌, ◌*◌, ◌^◌, ◌≤◌, ◌<◌}
use mathlib.Core.Path.{◌≡◌, refl, sym, ap}
use mathlib.Core.Bool.{Bool, true, false, cond, ◌||◌, true≢false}
use native.Mathlib.Omega.{arith}
use lib.Dec.{T, eqb}
use borrow.Author.Tests.{eqb-true}
use Rattle.sheet.specs.declared.Model.{Model}
use Rattle.sheet.specs.declared.Model.TheVariants.{Lp2, Dg6215}
use Rattle.sheet.specs.declared.Pitch.{Pitch}
use Rattle.sheet.specs.declared.Pitch.TheVariants.{Normal, Compressed}
use Rattle.sheet.specs.Edition.{Edition, apart_by, described, dg6215, lp2}
use Rattle.sheet.specs.Form.{spacing_allowed, rows_per_line}

-- The line store holds every position of a line, every position stands on the row, a column takes one position at least, and where the
-- pitch may change anywhere, a line is as wide in either.
pub record Proper (e : Edition) : Type 0 where
  pub wide : (p : Pitch) → e.width p ≤ e.columns
  pub on_row : (p : Pitch) (c : ℕ) → c < e.width p → (e.grid p c).0 < 8 * e.bytes
  pub takes : (p : Pitch) → 1 ≤ e.stride p
  pub level : T e.mixed → (p q : Pitch) → e.width p ≡ e.width q

-- columns stand apart, and no more than five positions
pub apart_some : (p : Pitch) → 1 ≤ apart_by p
apart_some Normal = omega arith
apart_some Compressed = omega arith

pub apart-most : (p : Pitch) → apart_by p ≤ 5
apart-most Normal = omega arith
apart-most Compressed = omega arith

-- a line of `lp2` has at most 2,200 columns
lp2_wide : (p : Pitch) → lp2.width p ≤ lp2.columns
unfolding lp2
lp2_wide Normal = omega arith
lp2_wide Compressed = omega arith

-- a column of `lp2` stands below grid position 6,600
lp2-on-row : (p : Pitch) (c : ℕ) → c < lp2.width p → (lp2.grid p c).0 < 8 * lp2.bytes
unfolding lp2
lp2-on-row Normal c h = omega arith
lp2-on-row Compressed c h = omega arith

-- each model's edition is proper
pub described_proper : (w : Model) → Proper (described w)
unfolding lp2 dg6215
described_proper Lp2 = record { wide = lp2_wide; on_row = lp2-on-row; takes = λ p. omega arith; level = λ t. absurd t }
described_proper Dg6215 = record { wide = λ p. omega arith; on_row = λ p c h. h; takes = apart_some; level = λ t p q. refl }

-- The bounds that the code of either model counts on.
pub record Bounded (e : Edition) : Type 0 where
  pub longest : e.longest ≤ 112
  pub bytes : e.bytes ≤ 850
  pub columns : e.columns ≤ 6800
  pub stride : (p : Pitch) → e.stride p ≤ 5

pub described_bounded : (w : Model) → Bounded (described w)
unfolding lp2 dg6215
described_bounded Lp2 = record { longest = omega arith; bytes = omega arith; columns = omega arith; stride = λ p. omega arith }
described_bounded Dg6215 = record { longest = omega arith; bytes = omega arith; columns = omega arith; stride = apart-most }

-- The rows of the longest form, twelve a line, the bytes of its page and the positions of a line can be counted in a usize.
pub record Countable (e : Edition) : Type 0 where
  pub rows : e.longest * 12 < 2 ^ 64
  pub page : e.longest * 12 * e.bytes < 2 ^ 63
  pub columns : (p : Pitch) → e.width p < 2 ^ 64

-- each model's edition is countable
pub described_countable : (w : Model) → Countable (described w)
unfolding lp2 dg6215
described_countable Lp2 = record { rows = omega arith; page = omega arith; columns = λ p. omega (arith, lp2_wide p) }
described_countable Dg6215 = record { rows = omega arith; page = omega arith; columns = λ p. omega arith }

-- a row has 6,600 grid positions, or 6,800
pub lp2-row : 8 * lp2.bytes ≡ 6600
unfolding lp2
lp2-row = refl

pub dg6215-row : 8 * dg6215.bytes ≡ 6800
unfolding dg6215
dg6215-row = refl

-- the positions of a line, in either pitch, fill the row
pub fills : (w : Model) (p : Pitch) → ((described w).grid p ((described w).width p)).0 ≡ 8 * (described w).bytes
unfolding lp2 dg6215
fills Lp2 Normal = refl
fills Lp2 Compressed = refl
fills Dg6215 p = refl

-- in each edition a column takes 5 grid positions in normal pitch and 3 in compressed, wherever in a line it stands
pub strides : (w : Model) (p : Pitch) (c : ℕ) → ((described w).grid p (c + (described w).stride p)).0 ≡ ((described w).grid p c).0 + apart_by p
unfolding lp2 dg6215
strides Lp2 Normal c = omega arith
strides Lp2 Compressed c = omega arith
strides Dg6215 p c = refl

-- an inch has 72 rows
pub inch : (spacing : ℕ) → spacing_allowed spacing ≡ true → spacing * rows_per_line spacing ≡ 72
unfolding spacing_allowed rows_per_line
inch spacing = tested (eqb spacing 6) (eqb spacing 8) refl refl
  where
    tested : (six eight : Bool) → eqb spacing 6 ≡ six → eqb spacing 8 ≡ eight → six || eight ≡ true → spacing * cond six 12 9 ≡ 72
    tested true eight p q h = ap (λ (n : ℕ). n * 12) (eqb-true spacing 6 p)
    tested false true p q h = ap (λ (n : ℕ). n * 9) (eqb-true spacing 8 q)
    tested false false p q h = absurd (true≢false (sym h))
