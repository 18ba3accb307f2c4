-- A column of a run.
use Prim.Native.Nat.{ℕ, ◌+◌, ◌≤◌, ◌<◌}
use mathlib.Core.Bool.{Bool, true, false, not, ◌&&◌, and-eq-true_iff, true≢false}
use mathlib.Core.List.{List}
use mathlib.Core.Path.{◌≡◌, refl, ap, sym, ◌∙◌}
use native.Mathlib.Omega.{arith}
use borrow.Author.Tests.{le-leb, leb-true, ne_eqb, not-false}
use lib.Dec.{leb}
use lib.ListN.{get_or, length}
use Rattle.sheet.specs.Edition.{Edition}
use Rattle.sheet.proofs.Editions.{Proper}
use Rattle.glyph.specs.Entering.{or_in}
use Rattle.printer.specs.declared.Printer.{Printer}
use Rattle.printer.specs.declared.Style.{Style}
use Rattle.printer.specs.Alone.{alone}
use Rattle.printer.specs.Bytes.{act, first_byte, step}
use Rattle.printer.specs.Given.{machine, moved}
use Rattle.printer.specs.Machine.{Machine, limit}
use Rattle.printer.specs.Plotting.{plot, plots, plot_byte}
use Rattle.printer.specs.Printing.{past}
use Rattle.printer.specs.Steps.{quiet}
use Rattle.runs.specs.Runs.{Plotting, goes_on, running}
use Rattle.runs.proofs.Running.{Runs, runs_on, runs_out}

-- what the code tests of a byte: it is a column, and it ends within w positions
pub drawing : (b next w : ℕ) {r : Bool} → r ≡ (plots b && leb next w) → not r ≡ false → (plots b ≡ true) × (next ≤ w)
drawing b next w {r} e q =
    let h = (and-eq-true_iff (plots b) (leb next w)).0 (sym e ∙ not-false r q) in
    (h.0, leb-true _ _ h.1)

-- ESC is no column
begins : plots 0x1b ≡ false
unfolding plots
begins = refl

module _ (e : Edition) {p : Printer} (h : Plotting p) (b : ℕ) where
  -- such a byte goes on a run of columns, and no other does
  pub draws_on : goes_on e b p.pending p ≡ (plots b && leb (past e 1 p) (e.width p.style.pitch))
  unfolding goes_on
  draws_on = simp (h.pending, h.plotting)

  pub draws_step : (font page line staging store : List ℕ) → plots b ≡ true → past e 1 p ≤ e.width p.style.pitch
      → step e font b (machine p page line staging store)
      ≡ quiet (machine (moved (past e 1 p) p) page (or_in p.head.column b line) staging store)
  unfolding step act first_byte alone plot_byte plot
  draws_step font page line staging store t f =
      simp (
        ne_eqb b 0x1b (λ q. true≢false (sym t ∙ ap plots q ∙ begins)),
        h.pending,
        h.plotting,
        t,
        le-leb (past e 1 p) (e.width p.style.pitch) f,
      )

pub plots_still : {p : Printer} (next : ℕ) → Plotting p → Plotting (moved next p)
plots_still next t = record { pending = t.pending; plotting = t.plotting }

module _ (e : Edition) (style : Style) {each w : ℕ} (steps : each ≡ e.stride style.pitch) (u : w ≡ e.width style.pitch) where
  -- it begins on the line, and the next one on it or at its end
  pub on_line : Proper e → {at : ℕ} → at + each ≤ w → (at < e.columns) × (at + each ≤ e.columns)
  on_line proper h = (
    omega (arith, steps, u, proper.takes style.pitch, proper.wide style.pitch),
    omega (arith, u, proper.wide style.pitch),
  )

  module _ {font piece page line staging store : List ℕ} {k : ℕ} {m : Machine} {q : Printer} (h : Runs e font piece k m (machine q page line staging store))
      (t : Plotting q) (s : q.style ≡ style) (l : k < length piece) where
    -- the column's end, as the code has it
    ends : q.head.column + each ≡ past e 1 q
    ends = rw s (omega (arith, steps))

    wide : w ≡ e.width q.style.pitch
    wide = u ∙ simp s

    -- one column more
    pub plotted_on : {after : List ℕ} {wires : ℕ} → q.job < limit → (plots (get_or piece k 0) ≡ true) × (q.head.column + each ≤ w)
        → wires ≡ get_or piece k 0 → after ≡ or_in q.head.column wires line
        → Runs e font piece (k + 1) m (machine (moved (q.head.column + each) q) page after staging store)
    plotted_on room b c a =
        let fits : past e 1 q ≤ e.width q.style.pitch = rw (← ends, ← wide) b.1 in
        runs_on h l room (draws_on e t (get_or piece k 0) ∙ simp b.0 (le-leb _ _ fits)) _
        (simp (a, c, ends) (draws_step e t (get_or piece k 0) font page line staging store b.0 fits))

    -- a byte that is none ends the run
    pub plotted_out : {r : Bool} → r ≡ (plots (get_or piece k 0) && leb (q.head.column + each) w) → r ≡ false
        → running e font piece m ≡ record { taken = k; machine = machine q page line staging store }
    plotted_out told none = runs_out h l (draws_on e t (get_or piece k 0) ∙ simp (← ends, ← wide) (sym told ∙ none))
