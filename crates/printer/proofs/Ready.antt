-- Steps after which a caller goes on with a machine that is ready for a byte; and the stores that readiness asks for.
use Prim.Native.Nat.{ℕ}
use mathlib.Core.Bool.{Bool, true, false, cond}
use mathlib.Core.List.{List}
use mathlib.Core.Path.{◌≡◌, ap, refl, subst}
use lib.ListN.{length, length-replicate, replicate}
use Rattle.sheet.proofs.Units.{length-blank_page}
use Rattle.sheet.specs.Edition.{Edition}
use Rattle.sheet.specs.Form.{blank_page, page_bytes}
use Rattle.printer.specs.Machine.{Machine, empty_store, store_size, with_page}
use Rattle.printer.specs.Room.{Ready}
use Rattle.printer.specs.Steps.{Step, finished, noted, quiet, tell, tell_step}
use Rattle.printer.specs.declared.Event.{Event}
use Rattle.printer.specs.declared.Event.TheVariants.{Quiet}
use Rattle.printer.specs.declared.Fault.{Fault}

-- a step is fine where the machine is ready that a caller goes on with, a blank page of the size due lent after a finished one
pub record Fine (e : Edition) (s : Step) : Type 0 where
  pub ready : Ready e (tell_step e s).machine

module _ {e : Edition} where
  pub fine_quiet : {m : Machine} → Ready e m → Fine e (quiet m)
  unfolding tell_step tell
  fine_quiet h = record { ready = h }

  -- a finished page may be of another size than the one due
  pub fine_reformed : {m : Machine} → Ready e (with_page (blank_page e m.printer.form) m) → Fine e (finished m)
  unfolding tell_step tell
  fine_reformed h = record { ready = h }

  pub fine_finished : {m : Machine} → Ready e m → Fine e (finished m)
  fine_finished {m} h =
      let p : length (blank_page e m.printer.form) ≡ page_bytes e m.printer.form = length-blank_page e _ in
      fine_reformed (search)

  pub fine_noted : {f : Fault} {place : ℕ} {m : Machine} → Ready e m → Fine e (noted f place m)
  unfolding tell_step tell
  fine_noted h = record { ready = h }

  -- a test whose outcome the two arms may use
  pub fine_test : (t : Bool) (s u : Step) → (t ≡ true → Fine e s) → (t ≡ false → Fine e u) → Fine e (cond t s u)
  fine_test true s u h k = h refl
  fine_test false s u h k = k refl

  pub fine_cond : (t : Bool) (s u : Step) → Fine e s → Fine e u → Fine e (cond t s u)
  fine_cond true s u h k = h
  fine_cond false s u h k = k

-- a quiet step leaves a machine that is ready
pub quiet_ready : {e : Edition} {s : Step} → Fine e s → s.event ≡ Quiet → Ready e s.machine
unfolding tell_step tell
quiet_ready {e} {s} h q = subst (λ (v : Event). Ready e (tell e v s.machine).machine) q h.ready

pub ruleset fine = (fine_cond, fine_quiet, fine_finished, fine_noted)

-- a store of its length that is all 0 is an empty one
pub store_emptied : (store : List ℕ) → length store ≡ store_size → replicate (length store) 0 ≡ empty_store
unfolding empty_store
store_emptied store q = ap (λ (n : ℕ). replicate n 0) q

pub length-empty_store : length empty_store ≡ store_size
unfolding empty_store
length-empty_store = length-replicate {A = ℕ} 2048 0
