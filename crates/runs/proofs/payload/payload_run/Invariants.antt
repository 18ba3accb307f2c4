-- `payload::payload_run`: each byte that the download lacks leads the machine one staged byte on; a download that has all of them ends the run.
use Prim.Native.Nat.{ℕ}
use mathlib.Core.List.{List}
use mathlib.Core.Path.{◌≡◌}
use lib.ListN.{length}
use Rattle.printer.specs.declared.Load.{Load}
use Rattle.printer.specs.declared.Printer.{Printer}
use Rattle.printer.specs.Given.{machine}
use Rattle.printer.specs.Machine.{edition_of}
use Rattle.runs.specs.Runs.{loading}
use Rattle.runs.proofs.Running.{Runs, Taken}
use Rattle.runs.proofs.payload.payload_run.Given as goal

-- k bytes are staged
pub record Inv (piece staging₀ staging : List ℕ) (p : Printer) (place n : ℕ) (l : Load) (job k : ℕ) : Type 0 where
  pub taken : Taken n k p.job job
  pub kept : length staging ≡ length staging₀
  pub runs : (font page line store : List ℕ)
      → Runs (edition_of p) font piece k (machine p page line staging₀ store) (machine (loading place l job p) page line staging store)

abbrev pub invariant-loop-k : goal.invariant-loop-k
invariant-loop-k l = Inv l.piece l.initial.staging l.staging l.p l.place l.n l.l l.job l.k
