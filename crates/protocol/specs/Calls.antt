-- Opening and feeding a job, for every state and all lent memory. Document 01, "Memory lent" and "What a call gives back".
use Rattle.std.specs.Prelude.{ℕ, suc, cond, List, [], ◌∷◌, eqb, ltb, length, Err, Ok, Result}
use Rattle.protocol.specs.declared.Lent.{Lent}
use Rattle.sheet.specs.declared.Form.{Form}
use Rattle.sheet.specs.declared.Model.{Model}
use Rattle.sheet.specs.Edition.{Edition, described}
use Rattle.sheet.specs.Form.{lines_allowed, new_form, page_bytes, spacing_allowed}
use Rattle.printer.specs.declared.Event.{Event}
use Rattle.printer.specs.declared.Printer.{Printer}
use Rattle.printer.specs.declared.Event.TheVariants as event
use Rattle.printer.specs.Bytes.{step}
use Rattle.printer.specs.Machine.{Machine, limit, opened, shut, store_size, with_printer}
use Rattle.printer.specs.Sound.{sound}
use Rattle.printer.specs.Steps.{Step}
use Rattle.protocol.specs.declared.Answer.{Answer}
use Rattle.protocol.specs.declared.Answer.TheVariants.{Done, Finished, Noted, JobFull, Unsound, Misfit, WrongLines, WrongSpacing}
use Rattle.protocol.specs.declared.Lent.TheVariants.{Page, LineStore, Staging, DownloadStore, Font}

-- whether all that is lent has its length, or which is the first that has not
abbrev pub Fit : Type 0
Fit = Result (Unit {0}) Lent

-- the first of what is lent that has not its exact length: the page's is the form's, the line store's the edition's (L × R × 825 bytes and 2,200 numbers
-- for the LP2); staging, download store and font have 2,048 bytes each
unfoldable pub fit : Edition → Form → List ℕ → Machine → Fit
fit e f font m =
    cond (eqb (length m.page) (page_bytes e f))
    (cond (eqb (length m.line) e.columns)
    (cond (eqb (length m.staging) store_size)
    (cond (eqb (length m.store) store_size)
    (cond (eqb (length font) store_size) (Ok tt) (Err Font))
    (Err DownloadStore))
    (Err Staging))
    (Err LineStore))
    (Err Page)

-- what opening gives back, with the memory as it leaves it
pub record Opening : Type 0 where
  pub answer : Answer
  pub machine : Machine

-- a refused opening gives the shut state of the model asked for and changes no lent memory
abbrev pub unopened : Model → Answer → Machine → Opening
unopened w a m = record { answer = a; machine = with_printer (shut w) m }

-- 11 to 15, then 0
unfoldable pub open_fitted : Model → Form → Fit → Machine → Opening
open_fitted w f (Ok tt) m = record { answer = Done; machine = opened w f }
open_fitted w f (Err lent) m = unopened w (Misfit lent) m

-- opening a job of a model, over a machine of which only the memory counts: 18, 19, then the lengths
unfoldable pub opening : Model → ℕ → ℕ → List ℕ → Machine → Opening
opening w lines spacing font m =
    let e : Edition = described w in
    let f : Form = new_form lines spacing in
    cond (lines_allowed e lines)
    (cond (spacing_allowed spacing) (open_fitted w f (fit e f font m) m) (unopened w WrongSpacing m))
    (unopened w WrongLines m)

-- what feeding gives back, with the memory as it leaves it
pub record Feeding : Type 0 where
  pub answer : Answer
  pub taken : ℕ
  pub machine : Machine

-- nothing taken, the state and the memory as they are
abbrev pub stopped : Answer → Machine → Feeding
stopped a m = record { answer = a; taken = 0; machine = m }

-- the same with one byte more taken before it
abbrev pub one_more : Feeding → Feeding
one_more f = record { answer = f.answer; taken = suc f.taken; machine = f.machine }

-- One byte leads to machine m: an event that is to be told ends the call through that byte; a quiet byte leaves it to the bytes that follow.
unfoldable pub heard : Event → Machine → Feeding → Feeding
heard event.Quiet m after = one_more after
heard event.Finished m after = record { answer = Finished; taken = 1; machine = m }
heard (event.Noted f place) m after = record { answer = Noted f place; taken = 1; machine = m }

-- the bytes of a piece, taken one after the other while they fit the job
unfoldable pub take_bytes : Edition → List ℕ → List ℕ → Machine → Feeding
take_bytes e font [] m = stopped Done m
take_bytes e font (b ∷ bs) m =
    let s : Step = step e font b m in
    cond (ltb m.printer.job limit) (heard s.event s.machine (take_bytes e font bs s.machine)) (stopped JobFull m)

-- the bytes of the page that the next feeding takes, 0 where the state is unsound
unfoldable pub page_due : Edition → Printer → ℕ
page_due e p = cond (sound e p) (page_bytes e p.form) 0

-- 11 to 15 in order, then bytes
unfoldable pub feed_fitted : Edition → List ℕ → List ℕ → Fit → Machine → Feeding
feed_fitted e font piece (Ok tt) m = take_bytes e font piece m
feed_fitted e font piece (Err lent) m = stopped (Misfit lent) m

-- feeding a piece: 10, then the lengths, then bytes
unfoldable pub feeding : Edition → List ℕ → List ℕ → Machine → Feeding
feeding e font piece m =
    cond (sound e m.printer) (feed_fitted e font piece (fit e m.printer.form font m) m) (stopped Unsound m)
