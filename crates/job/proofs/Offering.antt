-- The rest of a piece, as a part of it.
use Prim.Native.Nat.{ℕ, ◌+◌, ◌-◌, ◌≤◌}
use mathlib.Core.List.{List, []}
use mathlib.Core.Path.{◌≡◌, ap, ◌∙◌}
use native.Mathlib.Omega.{arith}
use lib.ListN.{drop, length, length-drop, take}
use Rattle.sheet.specs.Edition.{Edition}
use Rattle.printer.specs.Machine.{Machine}
use Rattle.protocol.specs.Calls.{Feeding, feeding}
use Rattle.protocol.proofs.Answering.{feeding_counts}
use Rattle.job.proofs.Underway.{left_over}

module _ (e : Edition) (font piece : List ℕ) (taken : ℕ) (m : Machine) (f : Feeding) where
  -- all that is left from a count on
  abbrev rest : List ℕ
  rest = take (length piece - taken) (drop taken piece)

  pub rest_fits : taken ≤ length piece → f ≡ feeding e font rest m → taken + f.taken ≤ length piece
  rest_fits l q =
      let n : f.taken ≤ length rest = rw q (feeding_counts e font rest m).1 in
      let k : length rest ≡ length piece - taken = ap length (left_over piece taken) ∙ length-drop taken piece in
      omega arith

  -- past the end of the piece nothing is left
  pub none_taken : f ≡ feeding e font [] m → f.taken ≤ 0
  none_taken q = rw q (feeding_counts e font [] m).1
