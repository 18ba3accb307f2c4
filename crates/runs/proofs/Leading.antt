-- Where a run leads: where its bytes lead one by one, with nothing to tell, and there the rest of the piece is taken.
use Prim.Native.Nat.{ℕ, suc, ◌+◌, ◌≤◌}
use mathlib.Core.Bool.{Bool, true, false, cond, not, ◌&&◌, and-eq-true_iff, true≢false}
use mathlib.Core.List.{List, [], ◌∷◌}
use mathlib.Core.Path.{◌≡◌, refl, ap, subst, sym, ◌∙◌}
use native.Mathlib.Omega.{arith}
use borrow.Author.Tests.{not-true}
use lib.Dec.{eqb, ltb}
use lib.ListN.{drop, length, take}
use Rattle.sheet.proofs.Editions.{Proper}
use Rattle.sheet.specs.Edition.{Edition}
use Rattle.printer.proofs.Ready.{quiet_ready}
use Rattle.printer.specs.declared.Event.TheVariants.{Quiet}
use Rattle.printer.specs.declared.Pending.{Pending}
use Rattle.printer.specs.declared.Pending.TheVariants.{Nothing, Escape, Tabs, Reset, Select, SelectLow, CountHigh, CountLow, AddressHigh, AddressLow, Payload}
use Rattle.printer.specs.declared.Pending.TheVariants.{Bracket}
use Rattle.printer.specs.Alone.{alone, prints, text_byte}
use Rattle.printer.specs.Bytes.{act, first_byte, payload_byte, run, step}
use Rattle.printer.specs.Machine.{Machine, limit, with_job}
use Rattle.printer.specs.Plotting.{plot, plots, plot_byte}
use Rattle.printer.specs.Printing.{print}
use Rattle.printer.specs.Room.{Ready}
use Rattle.printer.specs.Steps.{Step, silent, tell, tell_step}
use Rattle.printer.proofs.Keeping.{step_counts}
use Rattle.printer.proofs.StaysSound.{step_fine}
use Rattle.protocol.specs.Calls.{Feeding, heard, one_more, take_bytes}
use Rattle.protocol.specs.Given.{more}
use Rattle.protocol.proofs.Taking.{more_zero}
use Rattle.runs.specs.declared.Ran.{Ran}
use Rattle.runs.specs.Runs.{Run, draws, given_run, goes_on, longer, no_run, running, types}

cond-quiet : (t : Bool) (x y : Step) → x.event ≡ Quiet → y.event ≡ Quiet → (cond t x y).event ≡ Quiet
cond-quiet true x y h k = h
cond-quiet false x y h k = k

module _ (e : Edition) (font : List ℕ) (b here : ℕ) (m : Machine) where
  -- nothing is told of a column that has a place, and of a character that fits
  quiet_alone : (t : Bool) → cond t (draws e b m.printer) (not m.printer.head.plotted && types e b m.printer) ≡ true
      → (cond t (plot_byte e b here m) (text_byte e font b here m)).event ≡ Quiet
  unfolding plot_byte plot text_byte print
  quiet_alone true h = let k = (and-eq-true_iff (plots b) _).0 h in simp (k.0, k.1)
  quiet_alone false h =
      let k = (and-eq-true_iff (not m.printer.head.plotted) (types e b m.printer)).0 h in
      let t = (and-eq-true_iff (prints b) _).0 k.1 in
      simp (t.0, not-true m.printer.head.plotted k.0, t.1)

-- nor of any byte that goes on, by what is pending; the byte is counted
module _ (e : Edition) (font : List ℕ) (b here n : ℕ) (m : Machine) where
  quiet_byte : (q : Pending) → goes_on e b q m.printer ≡ true → (act e font q b here (with_job n m)).event ≡ Quiet
  unfolding goes_on act first_byte alone payload_byte
  quiet_byte Nothing h = cond-quiet (eqb b 0x1b) _ _ refl (quiet_alone e font b here (with_job n m) m.printer.head.plotting h)
  quiet_byte (Payload place load) h = simp h
  quiet_byte (Escape place) h = absurd (true≢false (sym h))
  quiet_byte (Tabs place) h = absurd (true≢false (sym h))
  quiet_byte (Reset place) h = absurd (true≢false (sym h))
  quiet_byte (Select place) h = absurd (true≢false (sym h))
  quiet_byte (SelectLow place high) h = absurd (true≢false (sym h))
  quiet_byte (CountHigh place) h = absurd (true≢false (sym h))
  quiet_byte (CountLow place high) h = absurd (true≢false (sym h))
  quiet_byte (AddressHigh place count) h = absurd (true≢false (sym h))
  quiet_byte (AddressLow place count high) h = absurd (true≢false (sym h))
  quiet_byte (Bracket place settings) h = absurd (true≢false (sym h))

-- n bytes of a piece lead from m to another machine, with nothing to tell: to take the piece is to take its rest from there. The model stays, and what
-- was ready is so still
pub record Leads (e : Edition) (font piece : List ℕ) (n : ℕ) (m after : Machine) : Type 0 where
  pub within : n ≤ length piece
  pub model : after.printer.model ≡ m.printer.model
  pub ready : Ready e m → Ready e after
  pub one_by_one : run e font (take n piece) m ≡ silent after
  pub same : take_bytes e font piece m ≡ more n (take_bytes e font (drop n piece) after)

module _ (e : Edition) (proper : Proper e) (font : List ℕ) where
  leads_nowhere : (piece : List ℕ) (m : Machine) → Leads e font piece 0 m m
  unfolding run
  leads_nowhere piece m = record { within = omega arith; model = refl; ready = λ h. h; one_by_one = refl; same = more_zero _ }

  -- a quiet byte before a run
  leads_first : (b : ℕ) (bs : List ℕ) (n : ℕ) (m after : Machine) → ltb m.printer.job limit ≡ true → (step e font b m).event ≡ Quiet
      → Leads e font bs n (step e font b m).machine after → Leads e font (b ∷ bs) (suc n) m after
  unfolding run tell_step tell take_bytes heard
  leads_first b bs n m after room quiet h =
      let rest : Feeding = take_bytes e font (drop n bs) after in
      let count : suc (n + rest.taken) ≡ suc n + rest.taken = omega arith in
      record {
        within = omega (arith, h.within);
        model = h.model ∙ (step_counts e font b m).model;
        ready = λ r. h.ready (quiet_ready (step_fine proper r font b) quiet);
        one_by_one = simp (quiet) h.one_by_one;
        same = simp (room, quiet) (ap one_more h.same ∙ ap (λ (k : ℕ). record { answer = rest.answer; taken = k; machine = rest.machine }) count);
      }

  by_test : (b : ℕ) (bs : List ℕ) (m : Machine) (t : Bool) → (ltb m.printer.job limit && goes_on e b m.printer.pending m.printer) ≡ t
      → (let rest : Run = running e font bs (step e font b m).machine in
      Leads e font bs rest.taken (step e font b m).machine rest.machine
      → let r : Run = cond t (longer rest) (no_run m) in Leads e font (b ∷ bs) r.taken m r.machine)
  unfolding step
  by_test b bs m true q h =
      let k = (and-eq-true_iff _ _).0 q in
      leads_first b bs _ m _ k.0 (quiet_byte e font b m.printer.job (m.printer.job + 1) m m.printer.pending k.1) h
  by_test b bs m false q h = leads_nowhere (b ∷ bs) m

  -- a run leads where its bytes lead
  pub running_leads : (piece : List ℕ) (m : Machine) → let r : Run = running e font piece m in Leads e font piece r.taken m r.machine
  unfolding running
  running_leads [] m = leads_nowhere [] m
  running_leads (b ∷ bs) m = by_test b bs m _ refl (running_leads bs (step e font b m).machine)

  -- so does one that the code gives back
  pub run_leads : {r : Ran} {piece page line staging store : List ℕ} {m : Machine} → given_run r page line staging store ≡ running e font piece m
      → let x : Run = given_run r page line staging store in Leads e font piece x.taken m x.machine
  run_leads {piece = piece} {m = m} is = subst (λ (x : Run). Leads e font piece x.taken m x.machine) (sym is) (running_leads piece m)
