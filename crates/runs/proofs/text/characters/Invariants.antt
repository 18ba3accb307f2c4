-- `text::characters`: each byte that prints and whose cell has room leads the machine one character on; the first that does not ends the run.
use Prim.Native.Nat.{ℕ, ◌≤◌}
use mathlib.Core.Bool.{cond}
use mathlib.Core.List.{List}
use mathlib.Core.Path.{◌≡◌}
use lib.ListN.{length}
use Rattle.printer.specs.declared.Printer.{Printer}
use Rattle.printer.specs.Given.{machine}
use Rattle.printer.specs.Machine.{edition_of}
use Rattle.runs.specs.Runs.{Typing}
use Rattle.runs.proofs.Running.{Runs, Taken}
use Rattle.runs.proofs.text.characters.Given as goal

-- k characters are entered
pub record Inv (piece line₀ line glyphs : List ℕ) (n : ℕ) (q₀ q : Printer) (k : ℕ) : Type 0 where
  pub typing : Typing q
  pub style : q.style ≡ q₀.style
  pub column : q.head.column ≤ (edition_of q₀).columns
  pub taken : Taken n k q₀.job q.job
  pub kept : length line ≡ length line₀
  pub runs : (page staging store font : List ℕ) → cond q₀.style.downloaded store font ≡ glyphs
      → Runs (edition_of q₀) font piece k (machine q₀ page line₀ staging store) (machine q page line staging store)

abbrev pub invariant-loop-k : goal.invariant-loop-k
invariant-loop-k l = Inv l.piece l.initial.line l.line l.glyphs l.n l.initial.q l.q l.k
