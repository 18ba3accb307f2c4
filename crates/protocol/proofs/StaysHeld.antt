-- Opening and feeding leave a machine that memory can hold, whatever they answer.
use Prim.Native.Nat.{ℕ, ◌<◌, ◌^◌, ◌≤◌}
use Rattle.protocol.specs.declared.Lent.{Lent}
use mathlib.Core.Bool.{Bool, true, false, cond, true≢false}
use mathlib.Core.List.{List, [], ◌∷◌}
use mathlib.Core.Path.{◌∙◌, ◌≡◌, ap, refl, subst, sym}
use native.Mathlib.Omega.{arith}
use borrow.Author.Tests.{ltb-true}
use lib.Dec.{ltb}
use Rattle.sheet.specs.declared.Form.{Form}
use Rattle.sheet.specs.declared.Model.{Model}
use Rattle.sheet.specs.Edition.{Edition, described}
use Rattle.sheet.specs.Form.{lines_allowed, new_form, spacing_allowed}
use Rattle.sheet.specs.Held.{AllBelow}
use Rattle.sheet.proofs.Editions.{Countable, Proper}
use Rattle.printer.proofs.Keeping.{tell-printer}
use Rattle.printer.proofs.Ready.{quiet_ready}
use Rattle.printer.specs.Facts.{Sound}
use Rattle.printer.specs.declared.Event.{Event}
use Rattle.printer.specs.declared.Event.TheVariants as event
use Rattle.printer.specs.Bytes.{step}
use Rattle.printer.specs.Held.{Held, HeldMemory}
use Rattle.printer.specs.Machine.{Machine, limit, shut, with_printer}
use Rattle.printer.specs.Room.{Ready}
use Rattle.printer.specs.Sound.{sound}
use Rattle.printer.specs.Steps.{Step, tell_step}
use Rattle.printer.proofs.Soundness.{sound_facts}
use Rattle.printer.proofs.StaysHeld.{blank_held, new_held, opened_held, step_held}
use Rattle.printer.proofs.StaysSound.{step_fine}
use Rattle.protocol.specs.declared.Answer.{Answer}
use Rattle.protocol.specs.declared.Answer.TheVariants.{Finished, JobFull, Misfit, Unsound, WrongLines, WrongSpacing}
use Rattle.std.specs.Prelude.{Err, Ok}
use Rattle.protocol.specs.Answers.{refusal}
use Rattle.protocol.specs.Calls.{Fit, Feeding, feed_fitted, feeding, fit, heard, open_fitted, opening, stopped, take_bytes, unopened}
use Rattle.protocol.specs.Course.{relent}
use Rattle.protocol.proofs.Accepted.{right_fitting}

-- Opening.
module _ (w : Model) (lines spacing : ℕ) (font : List ℕ) (m : Machine) (l : lines < 2 ^ 64) (s : spacing < 2 ^ 64) (h : HeldMemory m) where
  abbrev e : Edition
  e = described w

  abbrev form : Form
  form = new_form lines spacing

  shut_held : Held (with_printer (shut w) m)
  shut_held = record { printer = new_held w 0 0 (omega arith) (omega arith); memory = h }

  fitted_held : (t : Fit) → fit e form font m ≡ t → Held (open_fitted w form t m).machine
  unfolding open_fitted
  fitted_held (Ok tt) q = opened_held w lines spacing l s h (right_fitting e form font m refl q).memory
  fitted_held (Err lent) q = shut_held

  tested_held : (a b : Bool)
      → Held (cond a (cond b (open_fitted w form (fit e form font m) m) (unopened w WrongSpacing m)) (unopened w WrongLines m)).machine
  tested_held true true = fitted_held (fit e form font m) refl
  tested_held true false = shut_held
  tested_held false b = shut_held

  pub opening_held : Held (opening w lines spacing font m).machine
  unfolding opening
  opening_held = tested_held (lines_allowed e lines) (spacing_allowed spacing)

-- Feeding.
module _ {e : Edition} (proper : Proper e) (countable : Countable e) (font : List ℕ) where
  -- ready, and what memory can hold
  record Ongoing (m : Machine) : Type 0 where
    ready : Ready e m
    held : Held m

  -- what memory can hold, with a form that a page can be lent for
  record Goes (m : Machine) : Type 0 where
    held : Held m
    lines : m.printer.form.lines ≤ e.longest

  ongoing_goes : {m : Machine} → Ongoing m → Goes m
  ongoing_goes h = record { held = h.held; lines = h.ready.printer.form.most }

  step_goes : (b : ℕ) (m : Machine) → b < 256 → m.printer.job < limit → Ongoing m → Goes (step e font b m).machine
  unfolding tell_step
  step_goes b m byte room h =
      let s : Step = step e font b m in
      let same = tell-printer e s.event s.machine in
      let sound : Sound e s.machine.printer = subst (Sound e) same (step_fine proper h.ready font b).ready.printer in
      record { held = step_held proper h.ready h.held countable font b room byte; lines = sound.form.most }

  quiet_ongoing : (b : ℕ) (m : Machine) → b < 256 → m.printer.job < limit → Ongoing m → (step e font b m).event ≡ event.Quiet
      → Ongoing (step e font b m).machine
  quiet_ongoing b m byte room h q =
      record { ready = quiet_ready (step_fine proper h.ready font b) q; held = (step_goes b m byte room h).held }

  heard_goes : (v : Event) (x : Machine) (f : Feeding) → Goes x → (v ≡ event.Quiet → Goes f.machine) → Goes (heard v x f).machine
  unfolding heard
  heard_goes event.Quiet x f h k = k refl
  heard_goes event.Finished x f h k = h
  heard_goes (event.Noted g place) x f h k = h

  goes_if : (m : Machine) (f : Feeding) (t : Bool) → (t ≡ true → Goes f.machine) → Goes m → Goes (cond t f (stopped JobFull m)).machine
  goes_if m f true k h = k refl
  goes_if m f false k h = h

  take_goes : (bs : List ℕ) (m : Machine) → AllBelow 256 bs → Ongoing m → Goes (take_bytes e font bs m).machine
  unfolding take_bytes
  take_goes [] m bytes h = ongoing_goes h
  take_goes (b ∷ bs) m bytes h =
      let s : Step = step e font b m in
      goes_if m _ (ltb m.printer.job limit)
      (λ q.
      let room = ltb-true m.printer.job limit q in
      heard_goes s.event s.machine _ (step_goes b m bytes.0 room h)
      (λ v. take_goes bs s.machine bytes.1 (quiet_ongoing b m bytes.0 room h v)))
      (ongoing_goes h)

  -- what a feeding leaves: where it is not refused, a form that a page can be lent for
  record Left (f : Feeding) : Type 0 where
    held : Held f.machine
    lines : refusal f.answer ≡ false → f.machine.printer.form.lines ≤ e.longest

  module _ (piece : List ℕ) (m : Machine) (bytes : AllBelow 256 piece) (h : Held m) where
    refused_left : (a : Answer) → refusal a ≡ true → Left (stopped a m)
    refused_left a r = record { held = h; lines = λ q. absurd (true≢false (sym r ∙ q)) }

    fitted_left : (t : Fit) → fit e m.printer.form font m ≡ t → sound e m.printer ≡ true → Left (feed_fitted e font piece t m)
    unfolding feed_fitted refusal
    fitted_left (Ok tt) q s =
        let ready : Ready e m =
        record { printer = sound_facts e m.printer s; memory = (right_fitting e m.printer.form font m refl q).memory } in
        let after : Goes (take_bytes e font piece m).machine = take_goes piece m bytes (record { ready = ready; held = h }) in
        record { held = after.held; lines = λ _. after.lines }
    fitted_left (Err lent) q s = refused_left (Misfit lent) refl

    tested_left : (t : Bool) → sound e m.printer ≡ t
        → Left (cond t (feed_fitted e font piece (fit e m.printer.form font m) m) (stopped Unsound m))
    unfolding refusal
    tested_left true s = fitted_left (fit e m.printer.form font m) refl s
    tested_left false s = refused_left Unsound refl

    left : Left (feeding e font piece m)
    unfolding feeding
    left = tested_left (sound e m.printer) refl

    -- THE LAW: a feeding of bytes leaves a machine that memory can hold, whatever it answers
    pub feeding_held : Held (feeding e font piece m).machine
    feeding_held = left.held

    -- and so does a blank page lent after a finished form
    pub finished_held : (feeding e font piece m).answer ≡ Finished → Held (relent e (feeding e font piece m).machine)
    unfolding refusal
    finished_held q = blank_held countable (left.lines (ap refusal q)) left.held
