-- A feeding that ends with a note. Document 01, "What a call gives back".
use Rattle.std.specs.Prelude.{ℕ, ◌+◌, ◌≡◌}
use Rattle.printer.specs.declared.Fault.{Fault}
use Rattle.printer.specs.Notes.{note_place, passed_over}
use Rattle.protocol.specs.declared.Answer.TheVariants.{Done}
use Rattle.protocol.specs.Calls.{Feeding}

-- a feeding took one byte more than another that used up its piece, and that byte is counted and not obeyed, with a fault noted at a place
pub record NotObeyed (f : Fault) (at : ℕ) (before left : Feeding) : Type 0 where
  pub used_up : before.answer ≡ Done
  pub taken : left.taken ≡ before.taken + 1
  pub machine : left.machine ≡ passed_over f before.machine
  pub place : at ≡ note_place f before.machine.printer
