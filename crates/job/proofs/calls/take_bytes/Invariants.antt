-- `calls::take_bytes` meets its contract. The loop keeps `Underway`: to take the whole piece from the first machine is to take what is left of it from
-- the present one. A run and a quiet byte lead on; the piece's end, the job's limit and a byte that has something to tell end it as they end
-- `take_bytes`.
use Prim.Native.Nat.{ℕ, ◌-◌}
use mathlib.Core.List.{List}
use lib.ListN.{length}
use Rattle.printer.specs.declared.Memory.{Memory}
use Rattle.printer.specs.declared.Printer.{Printer}
use Rattle.printer.specs.Given.{LentOn, machine_in}
use Rattle.printer.specs.Machine.{edition_of}
use Rattle.job.proofs.Underway.{Underway}
use Rattle.job.proofs.calls.take_bytes.Given as goal

pub record Inv (piece : List ℕ) (q₀ : Printer) (m₀ : Memory) (q : Printer) (m : Memory) (i : ℕ) : Type 0 where
  pub underway : Underway (edition_of q₀) m₀.font.now piece (machine_in q₀ m₀) (machine_in q m) i
  pub lent : LentOn m₀ m

abbrev pub invariant-loop-i : goal.invariant-loop-i
invariant-loop-i l = Inv l.piece l.initial.q l.initial.memory l.q l.memory l.i

abbrev pub decreases-loop-i : goal.decreases-loop-i
decreases-loop-i l = length l.piece - l.i
