-- A byte that is not obeyed changes nothing: where a byte gives a note, it is counted, and its command is ended or its tab list goes on.
use Prim.Native.Nat.{ℕ, ◌+◌}
use Rattle.sheet.specs.declared.Line.{Line}
use mathlib.Core.Bool.{Bool, true, false, cond, not}
use mathlib.Core.List.{List}
use mathlib.Core.Path.{◌≡◌, refl, subst, sym, ◌∙◌}
use borrow.Author.Tests.{not-false}
use Rattle.sheet.specs.Edition.{Edition}
use Rattle.printer.specs.Brackets.{bracket, reform, resize, respace, style}
use Rattle.printer.specs.declared.Event.{Event}
use Rattle.printer.specs.declared.Event.TheVariants.{Quiet, Finished, Noted}
use Rattle.printer.specs.declared.Fault.{Fault}
use Rattle.std.specs.Prelude.{None, Option, Some}
use Rattle.printer.specs.declared.Pending.{Pending}
use Rattle.printer.specs.declared.Pending.TheVariants.{Nothing, Escape, Tabs, Reset, Select, SelectLow, CountHigh, CountLow, AddressHigh}
use Rattle.printer.specs.declared.Pending.TheVariants.{AddressLow, Payload, Bracket}
use Rattle.printer.specs.Alone.{alone, text_byte}
use Rattle.printer.specs.Bytes.{act, bracket_byte, first_byte, payload_byte, second_byte, step, tab_byte, text_escape}
use Rattle.printer.specs.Downloads.{download}
use Rattle.printer.specs.Escapes.{escape, in_turn, repitched, reset, select, tab_item}
use Rattle.printer.specs.Machine.{Machine, with_job, with_pending}
use Rattle.printer.specs.Notes.{Untouched, ends_command, in_list, first_place, left_pending, note_place, passed_over}
use Rattle.printer.specs.Plotting.{plot, plot_byte, plot_escape}
use Rattle.printer.specs.Printing.{print}
use Rattle.printer.specs.Steps.{Step}
use Rattle.printer.specs.Terminators.{carriage_return, form_feed, newline, tab_to, vertical_tab}
use Rattle.printer.specs.declared.Settings.{Settings}

-- what is asked of a byte's event and of the machine after it, by the machine m before it: of a note alone
abbrev Passed : Machine → Event → Machine → Type 0
Passed m Quiet after = Unit {0}
Passed m Finished after = Unit {0}
Passed m (Noted f place) after =
    (after ≡ passed_over f m) × (place ≡ note_place f m.printer) × (ends_command f ≡ not (in_list m.printer.pending))

abbrev Passes : Machine → Step → Type 0
Passes m s = Passed m s.event s.machine

passes_cond : (m : Machine) (t : Bool) (s u : Step) → Passes m s → Passes m u → Passes m (cond t s u)
passes_cond m true s u h k = h
passes_cond m false s u h k = k

tab_to_passes : (m : Machine) (e : Edition) (below lowest : Option Line) (n : Machine) → Passes m (tab_to e below lowest n)
unfolding tab_to carriage_return
tab_to_passes m e (Some k) lowest n = tt
tab_to_passes m e None (Some k) n = tt
tab_to_passes m e None None n = tt

-- the commands of ESC [ that look at one number
module _ (e : Edition) (m : Machine) (place : ℕ) (all : Settings) where
  abbrev begun_here : Machine
  begun_here = with_pending (Bracket place all) m

  abbrev whole_here : Machine
  whole_here = with_pending Nothing (with_job (m.printer.job + 1) m)

  style_passes : (s : Option ℕ) → Passes begun_here (style e s place whole_here)
  unfolding style repitched in_turn passed_over note_place left_pending first_place ends_command
  style_passes None = (refl, refl, refl)
  style_passes (Some v) = search passes_cond depth 10

  respace_passes : (s : Option ℕ) → Passes begun_here (respace e s place whole_here)
  unfolding respace reform passed_over note_place left_pending first_place ends_command
  respace_passes None = (refl, refl, refl)
  respace_passes (Some v) = search passes_cond depth 10

act_passes : (e : Edition) (font : List ℕ) (b : ℕ) (m : Machine) (q : Pending)
    → Passes (with_pending q m) (act e font q b m.printer.job (with_pending q (with_job (m.printer.job + 1) m)))
unfolding act first_byte second_byte text_escape tab_byte payload_byte bracket_byte bracket resize reform alone text_byte print newline vertical_tab
    form_feed carriage_return plot_byte plot escape repitched in_turn plot_escape reset select download tab_item passed_over note_place left_pending
    first_place ends_command
act_passes e font b m Nothing = search (passes_cond, tab_to_passes) depth 20
act_passes e font b m (Escape place) = search passes_cond depth 20
act_passes e font b m (Tabs place) = search passes_cond depth 20
act_passes e font b m (Reset place) = search passes_cond depth 20
act_passes e font b m (Select place) = tt
act_passes e font b m (SelectLow place high) = search passes_cond depth 20
act_passes e font b m (CountHigh place) = tt
act_passes e font b m (CountLow place high) = tt
act_passes e font b m (AddressHigh place count) = tt
act_passes e font b m (AddressLow place count high) = tt
act_passes e font b m (Payload place load) = search passes_cond depth 20
act_passes e font b m (Bracket place settings) = search (passes_cond, style_passes e m place settings, respace_passes e m place settings) depth 20

step_passes : (e : Edition) (font : List ℕ) (b : ℕ) (m : Machine) → Passes m (step e font b m)
unfolding step
step_passes e font b m = act_passes e font b m m.printer.pending

untouched : (f : Fault) (m : Machine) → Untouched m (passed_over f m)
unfolding passed_over
untouched f m = record { page = refl; line = refl; staging = refl; store = refl; model = refl; form = refl; head = refl; style = refl; tabs = refl }

-- A byte that gives a note.
module _ (e : Edition) (font : List ℕ) (b : ℕ) (m : Machine) {f : Fault} {place : ℕ} (noted : (step e font b m).event ≡ Noted f place) where
  abbrev after : Machine
  after = (step e font b m).machine

  passed : Passed m (Noted f place) after
  passed = subst (λ (v : Event). Passed m v after) noted (step_passes e font b m)

  -- THE LAW: the machine after it is the machine before it, with the byte counted and at most what is pending moved on
  pub not_obeyed : after ≡ passed_over f m
  not_obeyed = passed.0

  -- so page, stores, form, head, style and tabs are as they were
  pub not_obeyed_untouched : Untouched m after
  not_obeyed_untouched = rw not_obeyed (untouched f m)

  -- the note carries the place of its command's first byte, or of the item
  pub noted_at : place ≡ note_place f m.printer
  noted_at = passed.1

  -- the fault is one that ends its command exactly where no tab list is pending
  pub ends_outside_list : ends_command f ≡ not (in_list m.printer.pending)
  ends_outside_list = passed.2

  -- where it ends its command, nothing is pending after it
  pub note_ends_command : ends_command f ≡ true → after.printer.pending ≡ Nothing
  unfolding passed_over left_pending
  note_ends_command q = rw (not_obeyed, q)

  -- where it does not, a tab list is pending before it and the same after it, and the note stands at the byte's own place
  pub note_in_list : ends_command f ≡ false
      → (in_list m.printer.pending ≡ true) × (after.printer.pending ≡ m.printer.pending) × (place ≡ m.printer.job)
  unfolding passed_over left_pending note_place
  note_in_list q = (not-false _ (sym ends_outside_list ∙ q), rw (not_obeyed, q), rw (noted_at, q))
