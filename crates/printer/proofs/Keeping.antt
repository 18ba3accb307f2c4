-- What the rules leave alone: no command touches the model, the count of the job or what is pending, and no byte touches the form but one that
-- finishes a page.
use Prim.Native.Nat.{ℕ, ◌+◌}
use Rattle.sheet.specs.declared.Line.{Line}
use mathlib.Core.Bool.{Bool, true, false, cond}
use mathlib.Core.List.{List, [], ◌∷◌}
use mathlib.Core.Path.{◌∙◌, ◌≡◌, ap, refl, subst}
use native.Mathlib.Omega.{arith}
use lib.ListN.{length}
use Rattle.sheet.specs.declared.Form.{Form}
use Rattle.sheet.specs.declared.Model.{Model}
use Rattle.sheet.specs.Edition.{Edition}
use Rattle.printer.specs.Brackets.{bracket, reform, reformed, resize, respace, style}
use Rattle.printer.specs.declared.Event.{Event}
use Rattle.printer.specs.declared.Event.TheVariants.{Quiet, Finished, Noted}
use Rattle.printer.specs.declared.Fault.{Fault}
use Rattle.printer.specs.declared.Pending.{Pending}
use Rattle.printer.specs.declared.Pending.TheVariants.{Nothing, Escape, Tabs, Reset, Select, SelectLow, CountHigh, CountLow, AddressHigh}
use Rattle.printer.specs.declared.Pending.TheVariants.{AddressLow, Payload, Bracket}
use Rattle.printer.specs.declared.Printer.{Printer}
use Rattle.std.specs.Prelude.{None, Option, Some}
use Rattle.printer.specs.Alone.{alone, text_byte}
use Rattle.printer.specs.Bytes.{act, bracket_byte, first_byte, payload_byte, run, second_byte, step, tab_byte, text_escape}
use Rattle.printer.specs.Commands.{Command, bracketed, byte, escaped, loading, obey, resetting, selecting, set_tabs, tab_list}
use Rattle.printer.specs.Downloads.{download}
use Rattle.printer.specs.Escapes.{after_reset, clear_tabs, escape, in_turn, repitched, reset, select, tab, tab_here, tab_item}
use Rattle.printer.specs.Machine.{Machine, with_job}
use Rattle.printer.specs.Plotting.{plot, plot_byte, plot_escape}
use Rattle.printer.specs.Printing.{print}
use Rattle.printer.specs.Steps.{Step, finished, noted, quiet, tell, tell_step}
use Rattle.printer.specs.Terminators.{carriage_return, form_feed, newline, strike, tab_to, vertical_tab}
use Rattle.printer.specs.declared.Settings.{Settings}

-- what no command touches
pub record Kept : Type 0 where
  pub model : Model
  pub job : ℕ
  pub pending : Pending

abbrev pub kept : Machine → Kept
kept m = record { model = m.printer.model; job = m.printer.job; pending = m.printer.pending }

abbrev pub Keeps : Kept → Step → Type 0
Keeps k s = kept s.machine ≡ k

keeps_cond : {k : Kept} (t : Bool) (s u : Step) → Keeps k s → Keeps k u → Keeps k (cond t s u)
keeps_cond true s u h h' = h
keeps_cond false s u h h' = h'

module _ (e : Edition) {k : Kept} where
  tab_to_keeps : (below lowest : Option Line) (m : Machine) → kept m ≡ k → Keeps k (tab_to e below lowest m)
  unfolding tab_to carriage_return strike
  tab_to_keeps (Some n) lowest m h = h
  tab_to_keeps None (Some n) m h = h
  tab_to_keeps None None m h = h

  tell_keeps : (v : Event) (m : Machine) → kept m ≡ k → kept (tell e v m).machine ≡ k
  unfolding tell
  tell_keeps Quiet m h = h
  tell_keeps Finished m h = h
  tell_keeps (Noted f place) m h = h

  tell_step_keeps : (s : Step) → Keeps k s → kept (tell_step e s).machine ≡ k
  unfolding tell_step
  tell_step_keeps s h = tell_keeps s.event s.machine h

  tab_item_keeps : (n place : ℕ) (m : Machine) → kept m ≡ k → Keeps k (tab_item n place m)
  unfolding tab_item tab
  tab_item_keeps n place m h = search keeps_cond

  set_tabs_keeps : (ns : List ℕ) (place : ℕ) (m : Machine) → kept m ≡ k → kept (set_tabs e ns place m).machine ≡ k
  unfolding set_tabs
  set_tabs_keeps [] place m h = h
  set_tabs_keeps (n ∷ ns) place m h = set_tabs_keeps ns (place + 1) _ (tell_step_keeps (tab_item n place m) (tab_item_keeps n place m h))

  style_keeps : (s : Option ℕ) (place : ℕ) (m : Machine) → kept m ≡ k → Keeps k (style e s place m)
  unfolding style repitched in_turn
  style_keeps None place m h = h
  style_keeps (Some v) place m h = search keeps_cond depth 10

  respace_keeps : (s : Option ℕ) (place : ℕ) (m : Machine) → kept m ≡ k → Keeps k (respace e s place m)
  unfolding respace reform reformed
  respace_keeps None place m h = h
  respace_keeps (Some v) place m h = search keeps_cond depth 10

  bracket_keeps : (s : Settings) (last place : ℕ) (m : Machine) → kept m ≡ k → Keeps k (bracket e s last place m)
  unfolding bracket resize reform reformed
  bracket_keeps s last place m h = search (keeps_cond, style_keeps, respace_keeps) depth 10

  -- a whole command
  pub obey_keeps : (font : List ℕ) (c : Command) (place : ℕ) (m : Machine) → kept m ≡ k → kept (obey e font c place m).machine ≡ k
  unfolding obey alone text_byte print newline vertical_tab form_feed carriage_return strike plot_byte plot escape repitched in_turn tab_here tab
      plot_escape clear_tabs after_reset reset select download
  obey_keeps font (byte b) place m h = search (tell_step_keeps, keeps_cond, tab_to_keeps) depth 20
  obey_keeps font (escaped b) place m h = search (tell_step_keeps, keeps_cond) depth 20
  obey_keeps font (tab_list ns) place m h = set_tabs_keeps ns _ (clear_tabs m) h
  obey_keeps font (resetting b) place m h = search (tell_step_keeps, keeps_cond) depth 20
  obey_keeps font (selecting high low) place m h = search (tell_step_keeps, keeps_cond) depth 20
  obey_keeps font (loading count address payload checksum) place m h = search (tell_step_keeps, keeps_cond) depth 20
  obey_keeps font (bracketed bs last) place m h = search (tell_step_keeps, bracket_keeps)

-- a form that stays, unless a page is finished
abbrev pub Stays : Event → Form → Form → Type 0
Stays Finished f g = Unit {0}
Stays Quiet f g = g ≡ f
Stays (Noted fault place) f g = g ≡ f

-- the model, the form and the count of the job that a step leaves
pub record Counts (w : Model) (f : Form) (j : ℕ) (s : Step) : Type 0 where
  pub model : s.machine.printer.model ≡ w
  pub form : Stays s.event f s.machine.printer.form
  pub job : s.machine.printer.job ≡ j

module _ {w : Model} {f : Form} {j : ℕ} where
  counts_cond : (t : Bool) (s u : Step) → Counts w f j s → Counts w f j u → Counts w f j (cond t s u)
  counts_cond true s u h h' = h
  counts_cond false s u h h' = h'

  counts_quiet : (m : Machine) → m.printer.model ≡ w → m.printer.form ≡ f → m.printer.job ≡ j → Counts w f j (quiet m)
  counts_quiet m p q r = record { model = p; form = q; job = r }

  counts_noted : {fault : Fault} {place : ℕ} (m : Machine) → m.printer.model ≡ w → m.printer.form ≡ f → m.printer.job ≡ j
      → Counts w f j (noted fault place m)
  counts_noted m p q r = record { model = p; form = q; job = r }

  counts_finished : (m : Machine) → m.printer.model ≡ w → m.printer.job ≡ j → Counts w f j (finished m)
  counts_finished m p r = record { model = p; form = tt; job = r }

ruleset counting = (counts_cond, counts_quiet, counts_noted, counts_finished)

abbrev Counted : Machine → Step → Type 0
Counted m s = Counts m.printer.model m.printer.form m.printer.job s

tab_to_counts : (e : Edition) (below lowest : Option Line) (m : Machine) → Counted m (tab_to e below lowest m)
unfolding tab_to carriage_return strike
tab_to_counts e (Some n) lowest m = record { model = refl; form = refl; job = refl }
tab_to_counts e None (Some n) m = record { model = refl; form = tt; job = refl }
tab_to_counts e None None m = record { model = refl; form = refl; job = refl }

module _ (e : Edition) {w : Model} {f : Form} {j : ℕ} (place : ℕ) (m : Machine) (p : m.printer.model ≡ w) (q : m.printer.form ≡ f)
    (r : m.printer.job ≡ j) where
  style_counts : (s : Option ℕ) → Counts w f j (style e s place m)
  unfolding style repitched in_turn
  style_counts None = counts_noted m p q r
  style_counts (Some v) = search counting depth 10

  respace_counts : (s : Option ℕ) → Counts w f j (respace e s place m)
  unfolding respace reform reformed
  respace_counts None = counts_noted m p q r
  respace_counts (Some v) = search counting depth 10

act_counts : (e : Edition) (font : List ℕ) (q : Pending) (b here : ℕ) (m : Machine) → Counted m (act e font q b here m)
unfolding act first_byte second_byte text_escape tab_byte payload_byte bracket_byte alone text_byte print newline vertical_tab form_feed
    carriage_return strike plot_byte plot escape repitched in_turn tab_here tab plot_escape clear_tabs after_reset reset select download tab_item
    bracket resize reform reformed
act_counts e font Nothing b here m = search (counting, tab_to_counts) depth 20
act_counts e font (Escape place) b here m = search counting depth 20
act_counts e font (Tabs place) b here m = search counting depth 20
act_counts e font (Reset place) b here m = search counting depth 20
act_counts e font (Select place) b here m = search counting
act_counts e font (SelectLow place high) b here m = search counting depth 20
act_counts e font (CountHigh place) b here m = search counting
act_counts e font (CountLow place high) b here m = search counting
act_counts e font (AddressHigh place count) b here m = search counting
act_counts e font (AddressLow place count high) b here m = search counting
act_counts e font (Payload place load) b here m = search counting depth 20
act_counts e font (Bracket place settings) b here m = search (counting, style_counts, respace_counts) depth 20

-- a step keeps the model and, unless it finishes a page, the form, and counts its byte
pub step_counts : (e : Edition) (font : List ℕ) (b : ℕ) (m : Machine)
    → Counts m.printer.model m.printer.form (m.printer.job + 1) (step e font b m)
unfolding step
step_counts e font b m = act_counts e font m.printer.pending b m.printer.job (with_job (m.printer.job + 1) m)

-- a quiet step keeps the form
pub quiet-form : {w : Model} {f : Form} {j : ℕ} {s : Step} → Counts w f j s → s.event ≡ Quiet → s.machine.printer.form ≡ f
quiet-form {f = f} {s = s} h q = subst (λ (v : Event). Stays v f s.machine.printer.form) q h.form

pub tell-printer : (e : Edition) (v : Event) (m : Machine) → (tell e v m).machine.printer ≡ m.printer
unfolding tell
tell-printer e Quiet m = refl
tell-printer e Finished m = refl
tell-printer e (Noted f place) m = refl

-- a run keeps the model and counts its bytes
pub record RunCounts (w : Model) (j : ℕ) (p : Printer) : Type 0 where
  pub model : p.model ≡ w
  pub job : p.job ≡ j

pub run_counts : (e : Edition) (font bs : List ℕ) (m : Machine)
    → RunCounts m.printer.model (m.printer.job + length bs) (run e font bs m).machine.printer
unfolding run tell_step
run_counts e font [] m = record { model = refl; job = omega arith }
run_counts e font (b ∷ bs) m =
    let s : Step = step e font b m in
    let n : Machine = (tell e s.event s.machine).machine in
    let p : n.printer ≡ s.machine.printer = tell-printer e s.event s.machine in
    let k = step_counts e font b m in
    let on = run_counts e font bs n in
    record {
      model = on.model ∙ ap (λ (q : Printer). q.model) p ∙ k.model;
      job = omega (arith, on.job, ap (λ (q : Printer). q.job) p, k.job);
    }
