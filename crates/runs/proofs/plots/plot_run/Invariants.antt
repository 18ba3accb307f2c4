-- `plots::plot_run`: each byte that is a column and fits leads the machine one column on; the first that is none ends the run.
use Prim.Native.Nat.{ℕ, ◌≤◌}
use mathlib.Core.List.{List}
use mathlib.Core.Path.{◌≡◌}
use lib.ListN.{length}
use Rattle.printer.specs.declared.Printer.{Printer}
use Rattle.printer.specs.Given.{machine}
use Rattle.printer.specs.Machine.{edition_of}
use Rattle.runs.specs.Runs.{Plotting}
use Rattle.runs.proofs.Running.{Runs, Taken}
use Rattle.runs.proofs.plots.plot_run.Given as goal

-- k columns are plotted
pub record Inv (piece line₀ line : List ℕ) (n : ℕ) (q₀ q : Printer) (k : ℕ) : Type 0 where
  pub plotting : Plotting q
  pub style : q.style ≡ q₀.style
  pub column : q.head.column ≤ (edition_of q₀).columns
  pub taken : Taken n k q₀.job q.job
  pub kept : length line ≡ length line₀
  pub runs : (font page staging store : List ℕ)
      → Runs (edition_of q₀) font piece k (machine q₀ page line₀ staging store) (machine q page line staging store)

abbrev pub invariant-loop-k : goal.invariant-loop-k
invariant-loop-k l = Inv l.piece l.initial.line l.line l.n l.initial.q l.q l.k
