-- A character of a run.
use Prim.Native.Nat.{ℕ, ◌+◌, ◌*◌, ◌≤◌, ◌<◌}
use mathlib.Core.Bool.{Bool, true, false, cond, not, ◌&&◌, and-eq-true_iff, true≢false}
use mathlib.Core.List.{List}
use mathlib.Core.Path.{◌≡◌, refl, ap, sym, ◌∙◌}
use native.Mathlib.Omega.{arith}
use borrow.Author.Tests.{le-leb, leb-true, ne_eqb, not-false}
use lib.Dec.{leb}
use lib.ListN.{get_or, length}
use Rattle.sheet.specs.declared.Model.{Model}
use Rattle.sheet.specs.Edition.{Edition, described}
use Rattle.sheet.proofs.Editions.{Proper, described_bounded}
use Rattle.glyph.specs.Entering.{cell, enter}
use Rattle.glyph.specs.Room.{Room}
use Rattle.printer.specs.declared.Printer.{Printer}
use Rattle.printer.specs.declared.Style.{Style}
use Rattle.printer.specs.Alone.{alone, prints, text_byte}
use Rattle.printer.specs.Bytes.{act, first_byte, step}
use Rattle.printer.specs.Given.{machine, moved}
use Rattle.printer.specs.Machine.{Machine, limit, store_size}
use Rattle.printer.specs.Printing.{entered, past, print}
use Rattle.printer.specs.Steps.{quiet}
use Rattle.runs.specs.Runs.{Typing, goes_on, running}
use Rattle.runs.proofs.Running.{Runs, runs_on, runs_out}

-- what the code tests of a byte: it prints, and its cell ends within w positions
pub entering : (b next w : ℕ) {r : Bool} → r ≡ (prints b && leb next w) → not r ≡ false → (prints b ≡ true) × (next ≤ w)
entering b next w {r} e q =
    let h = (and-eq-true_iff (prints b) (leb next w)).0 (sym e ∙ not-false r q) in
    (h.0, leb-true _ _ h.1)

-- ESC does not print
silent : prints 0x1b ≡ false
unfolding prints
silent = refl

module _ (e : Edition) {p : Printer} (h : Typing p) (b : ℕ) where
  abbrev next : ℕ
  next = past e (cell p.style.elongated) p

  -- such a byte goes on a run of characters, and no other does
  pub types_on : goes_on e b p.pending p ≡ (prints b && leb next (e.width p.style.pitch))
  unfolding goes_on
  types_on = simp (h.pending, h.plotting, h.plotted)

  pub types_step : (font page line staging store : List ℕ) → prints b ≡ true → next ≤ e.width p.style.pitch
      → step e font b (machine p page line staging store)
      ≡ quiet (machine (moved next p) page (entered e font b (machine p page line staging store)) staging store)
  unfolding step act first_byte alone text_byte print entered
  types_step font page line staging store t f =
      simp (
        ne_eqb b 0x1b (λ q. true≢false (sym t ∙ ap prints q ∙ silent)),
        h.pending,
        h.plotting,
        h.plotted,
        t,
        le-leb next (e.width p.style.pitch) f,
      )

pub types_still : {p : Printer} (next : ℕ) → Typing p → Typing (moved next p)
types_still next t = record { pending = t.pending; plotting = t.plotting; plotted = t.plotted }

-- A style, its stride, the positions that a cell takes and those of a line, as the code has them.
pub record Pace (e : Edition) (style : Style) (stride each w : ℕ) : Type 0 where
  pub steps : stride ≡ e.stride style.pitch
  pub cells : each ≡ stride * cell style.elongated
  pub width : w ≡ e.width style.pitch

-- a column takes five positions at most
module _ (model : Model) {style : Style} {stride each w : ℕ} (pace : Pace (described model) style stride each w) where
  pub stride_most : stride ≤ 5
  stride_most = rw pace.steps ((described_bounded model).stride style.pitch)

module _ {e : Edition} (proper : Proper e) {style : Style} {stride each w : ℕ} (pace : Pace e style stride each w) where
  -- its cell is on the line
  pub roomy : {b code at : ℕ} {line glyphs : List ℕ} → stride ≤ 5 → (prints b ≡ true) × (at + each ≤ w) → code ≡ b
      → length line ≡ e.columns
      → length glyphs ≡ store_size → Room line glyphs code style.elongated at stride
  unfolding prints
  roomy {b} five h c l g =
      let low : b ≤ 0x7e = leb-true _ _ ((and-eq-true_iff (leb 0x20 b) (leb b 0x7e)).0 h.0).1 in
      record {
        some = omega (arith, proper.takes style.pitch, pace.steps);
        most = five;
        fits = omega (arith, h.1, pace.cells, pace.width, proper.wide style.pitch);
        whole = omega arith;
      }

  pub stays_on : {next : ℕ} → next ≤ w → next ≤ e.columns
  stays_on h = omega (arith, pace.width, proper.wide style.pitch)

module _ {e : Edition} {style : Style} {stride each w : ℕ} (pace : Pace e style stride each w)
    {font piece page line staging store : List ℕ} {k : ℕ} {m : Machine} {q : Printer} (h : Runs e font piece k m (machine q page line staging store))
    (t : Typing q) (s : q.style ≡ style) (l : k < length piece) where
  -- the cell's end, as the code has it
  ends : q.head.column + each ≡ past e (cell q.style.elongated) q
  ends = ap (λ (n : ℕ). q.head.column + n) (pace.cells ∙ simp (pace.steps, s))

  wide : w ≡ e.width q.style.pitch
  wide = pace.width ∙ simp s

  -- one character more
  pub typed_on : {after glyphs : List ℕ} {code : ℕ} → q.job < limit
      → (prints (get_or piece k 0) ≡ true) × (q.head.column + each ≤ w) → cond style.downloaded store font ≡ glyphs
      → code ≡ get_or piece k 0 → after ≡ enter glyphs code style.elongated style.underscore q.head.column stride line
      → Runs e font piece (k + 1) m (machine (moved (q.head.column + each) q) page after staging store)
  unfolding entered
  typed_on room b g c a =
      let fits : past e (cell q.style.elongated) q ≤ e.width q.style.pitch = rw (← ends, ← wide) b.1 in
      runs_on h l room (types_on e t (get_or piece k 0) ∙ simp b.0 (le-leb _ _ fits)) _
      (simp (a, c, ends, pace.steps, ← g, ← s) (types_step e t (get_or piece k 0) font page line staging store b.0 fits))

  -- a byte that is none ends the run
  pub typed_out : {r : Bool} → r ≡ (prints (get_or piece k 0) && leb (q.head.column + each) w) → r ≡ false
      → running e font piece m ≡ record { taken = k; machine = machine q page line staging store }
  typed_out told none = runs_out h l (types_on e t (get_or piece k 0) ∙ simp (← ends, ← wide) (sym told ∙ none))
