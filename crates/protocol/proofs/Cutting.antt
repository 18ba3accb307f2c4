-- However a job that fits is cut into pieces, the calls give what the whole-job reading gives.
use Prim.Native.Nat.{ℕ, ◌+◌, ◌≤◌}
use mathlib.Core.List.{List}
use mathlib.Core.Path.{◌≡◌, ◌∙◌}
use native.Mathlib.Omega.{arith}
use lib.ListN.{length}
use Rattle.sheet.proofs.Editions.{Proper}
use Rattle.sheet.specs.declared.Model.{Model}
use Rattle.sheet.specs.Edition.{Edition, described}
use Rattle.printer.specs.declared.Pending.TheVariants.{Nothing}
use Rattle.printer.specs.Commands.{reading}
use Rattle.printer.specs.Machine.{Machine, store_size}
use Rattle.printer.specs.Room.{Ready}
use Rattle.protocol.specs.declared.Answer.TheVariants.{Done}
use Rattle.protocol.specs.Calls.{feeding, opening}
use Rattle.protocol.specs.Protocol.{delivered, delivery, joined, room}
use Rattle.protocol.proofs.PastLimit.{all_fit, past_limit, past_limit_from}

-- from any machine that is ready and has nothing pending, for bytes that fit the job
pub any_cutting_from : {e : Edition} → Proper e → {m : Machine} → Ready e m → m.printer.pending ≡ Nothing
    → (font : List ℕ) → length font ≡ store_size
    → (pieces : List (List ℕ))
    → m.printer.job + length (joined pieces) ≤ 4294967295 → delivery e (feeding e font) pieces m ≡ delivered (reading e font (joined pieces) m)
any_cutting_from {e} proper {m} h idle font sized pieces l =
    past_limit_from proper h idle font sized pieces ∙ all_fit (room m) (reading e font) (joined pieces) m (omega arith)

-- DEMAND 3. A job that is opened and not refused, of at most 4,294,967,295 bytes, however it is cut: the calls give what the reading of the whole
-- job gives, the same forms and notes in the same order and the same machine, and the last answer is 0.
pub any_cutting : (w : Model) (font : List ℕ) (lines spacing : ℕ) (lent : Machine) (pieces : List (List ℕ))
    → (opening w lines spacing font lent).answer ≡ Done → length (joined pieces) ≤ 4294967295
    → let e = described w in let start = (opening w lines spacing font lent).machine in
    delivery e (feeding e font) pieces start ≡ delivered (reading e font (joined pieces) start)
any_cutting w font lines spacing lent pieces done l =
    past_limit w font lines spacing lent pieces done
    ∙ all_fit 4294967295 (reading (described w) font) (joined pieces) (opening w lines spacing font lent).machine l
