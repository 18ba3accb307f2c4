-- Demand 3 for the code: what opens and feeds as the contracts of `open` and `feed` say gives, however a job is cut, what the whole-job reading gives.
-- A contract is about arguments that memory can hold, which is what their types say (`HeldTypes` in printer); no more is asked here.
use Prim.Native.Nat.{ℕ, ◌^◌, ◌≤◌, ◌<◌}
use mathlib.Core.List.{List}
use mathlib.Core.Path.{◌≡◌, ap, subst, sym, ◌∙◌}
use lib.ListN.{length}
use Rattle.sheet.specs.declared.Model.{Model}
use Rattle.sheet.specs.Edition.{Edition, described}
use Rattle.sheet.specs.Held.{All, HeldBytes}
use Rattle.sheet.proofs.Editions.{described_countable, described_proper}
use Rattle.sheet.proofs.Held.{rest_held}
use Rattle.printer.specs.Commands.{reading}
use Rattle.printer.specs.Held.{Held, HeldMemory}
use Rattle.printer.specs.Machine.{Machine, edition_of}
use Rattle.protocol.specs.declared.Answer.TheVariants.{Done}
use Rattle.protocol.specs.Calls.{Feeding, Opening, feeding, opening}
use Rattle.protocol.specs.Protocol.{delivered, delivered_up_to, delivery, joined}
use Rattle.protocol.proofs.Answering.{feeding_model, opening_model}
use Rattle.protocol.proofs.PastLimit.{all_fit, past_limit}
use Rattle.protocol.proofs.SameDelivery.{Agree, delivery_same}
use Rattle.protocol.proofs.StaysHeld.{feeding_held, finished_held, opening_held}

-- a way of opening and of feeding, as functions of the state and all that is lent, that meets the contracts: opening takes the model and asks nothing of
-- the state, feeding goes by the state's
pub record Meets : Type 0 where
  pub open_job : Model → ℕ → ℕ → List ℕ → Machine → Opening
  pub opens : (w : Model) (lines spacing : ℕ) (font : List ℕ) (lent : Machine) → lines < 2 ^ 64 → spacing < 2 ^ 64
      → HeldBytes font → HeldMemory lent
      → open_job w lines spacing font lent ≡ opening w lines spacing font lent
  pub feed : List ℕ → List ℕ → Machine → Feeding
  pub feeds : (font piece : List ℕ) (m : Machine) → HeldBytes font → HeldBytes piece → Held m
      → feed font piece m ≡ feeding (edition_of m.printer) font piece m

-- a machine of a model, which memory can hold
pub record HeldOf (w : Model) (m : Machine) : Type 0 where
  pub model : m.printer.model ≡ w
  pub held : Held m

-- it feeds as the definition does on every machine that a delivery comes to
pub code_agrees : (code : Meets) (w : Model) (font : List ℕ) → HeldBytes font
    → Agree (described w) (HeldOf w) HeldBytes (code.feed font) (feeding (described w) font)
code_agrees code w font f =
    let e : Edition = described w in
    let proper = described_proper w in
    let countable = described_countable w in
    let model : (piece : List ℕ) (m : Machine) → HeldOf w m → (feeding e font piece m).machine.printer.model ≡ w =
    λ piece m h. feeding_model e font piece m ∙ h.model in
    record {
      same = λ piece m p h. code.feeds font piece m f p h.held ∙ ap (λ (v : Model). feeding (described v) font piece m) h.model;
      left = λ piece m p h. record { model = model piece m h; held = feeding_held proper countable font piece m p.below h.held };
      lent = λ piece m p h q. record { model = model piece m h; held = finished_held proper countable font piece m p.below h.held q };
      rest = λ n piece p. rest_held 1 n piece p;
    }

-- A job of bytes opened for a model on memory that can hold it, however it is cut.
module _ (code : Meets) (w : Model) (font : List ℕ) (lines spacing : ℕ) (lent : Machine) (pieces : List (List ℕ))
    (f : HeldBytes font) (a : lines < 2 ^ 64) (b : spacing < 2 ^ 64) (h : HeldMemory lent) (p : All HeldBytes pieces)
    (done : (code.open_job w lines spacing font lent).answer ≡ Done) where
  abbrev e : Edition
  e = described w

  abbrev start : Machine
  start = (code.open_job w lines spacing font lent).machine

  -- past the limit too: the calls give what the reading gives of its first 4,294,967,295 bytes
  pub code_past_limit : delivery e (code.feed font) pieces start ≡ delivered_up_to 4294967295 (reading e font) (joined pieces) start
  code_past_limit =
      let o = code.opens w lines spacing font lent a b f h in
      let first : Machine = (opening w lines spacing font lent).machine in
      let held : HeldOf w first =
      record { model = opening_model w lines spacing font lent; held = opening_held w lines spacing font lent a b h } in
      let given : Opening → Type 0 =
      λ x. delivery e (code.feed font) pieces x.machine ≡ delivered_up_to 4294967295 (reading e font) (joined pieces) x.machine in
      subst given (sym o)
      (delivery_same (code_agrees code w font f) pieces first p held
      ∙ past_limit w font lines spacing lent pieces (sym (ap (λ (x : Opening). x.answer) o) ∙ done))

  -- DEMAND 3 for the code
  pub code_cutting : length (joined pieces) ≤ 4294967295 → delivery e (code.feed font) pieces start ≡ delivered (reading e font (joined pieces) start)
  code_cutting l = code_past_limit ∙ all_fit 4294967295 (reading e font) (joined pieces) start l
