-- A dot is black after a feeding exactly where it was black in the page lent or a line struck in that feeding put it there, and what is put there lies
-- on the form.
use Prim.Native.Nat.{ℕ, ◌*◌, ◌<◌}
use Rattle.protocol.specs.declared.Lent.{Lent}
use mathlib.Core.Bool.{Bool, true, false, cond}
use mathlib.Core.List.{List, [], ◌∷◌, ◌++◌}
use mathlib.Core.Logic.{◌⊎◌, inl, inr, ⊎_elim, ◌↔◌}
use mathlib.Core.Path.{◌≡◌, refl, sym, ap, subst, ◌∙◌}
use native.Mathlib.Omega.{arith}
use lib.Dec.{ltb}
use lib.ListN.{length}
use Rattle.sheet.specs.declared.Form.{Form}
use Rattle.sheet.specs.declared.Grid.{Grid}
use Rattle.sheet.specs.declared.Row.{Row}
use Rattle.sheet.specs.Dots.{Black, In, OnForm, dot_at}
use Rattle.sheet.specs.Edition.{Edition}
use Rattle.sheet.specs.Form.{page_bytes}
use Rattle.sheet.proofs.Editions.{Proper}
use Rattle.sheet.proofs.Marks.{on-page}
use Rattle.printer.proofs.Ready.{quiet_ready}
use Rattle.printer.specs.declared.Event.{Event}
use Rattle.printer.specs.declared.Event.TheVariants.{Quiet, Finished, Noted}
use Rattle.printer.specs.Bytes.{step}
use Rattle.printer.specs.Machine.{Machine, limit}
use Rattle.printer.specs.Sound.{sound}
use Rattle.printer.specs.Steps.{Step}
use Rattle.printer.specs.Strikes.{PutBy, Strike, put_down, strike_all, strikes_of}
use Rattle.printer.proofs.Dots.{AllFitting, fitting-append, fitting_on_form, strike_all-append, strikes_black, strikes-fitting, strikes_stay_black}
use Rattle.printer.proofs.Keeping.{quiet-form, step_counts}
use Rattle.printer.proofs.Pages.{step-page}
use Rattle.printer.specs.Room.{Ready}
use Rattle.printer.proofs.Soundness.{sound_facts}
use Rattle.printer.proofs.StaysSound.{step_fine}
use Rattle.protocol.specs.declared.Answer.{Answer}
use Rattle.protocol.specs.declared.Answer.TheVariants.{Done, JobFull, Misfit, Unsound}
use Rattle.std.specs.Prelude.{Err, Ok}
use Rattle.protocol.specs.Calls.{Fit, Feeding, feed_fitted, feeding, fit, heard, stopped, take_bytes}
use Rattle.protocol.specs.Strikes.{feeding_strikes, fitted_strikes, if_quiet, taken_strikes}
use Rattle.protocol.proofs.Accepted.{right_fitting}

module _ (e : Edition) (font : List ℕ) where
  -- the page that a call leaves, and that its strikes fit the form in a proper edition
  record Inked (f : Form) (page : List ℕ) (ss : List Strike) (left : Feeding) : Type 0 where
    page_after : left.machine.page ≡ strike_all e ss page
    fitting : Proper e → AllFitting f ss

  unstruck : (f : Form) (a : Answer) (m : Machine) → Inked f m.page [] (stopped a m)
  unfolding strike_all
  unstruck f a m = record { page_after = refl; fitting = λ _. tt }

  heard_inked : (f : Form) (page : List ℕ) (ss rest : List Strike) (v : Event) (n : Machine) (after : Feeding)
      → (Proper e → AllFitting f ss) → n.page ≡ strike_all e ss page → (v ≡ Quiet → Inked f n.page rest after)
      → Inked f page (ss ++ if_quiet v rest) (heard v n after)
  unfolding heard if_quiet strike_all
  heard_inked f page ss rest Quiet n after on q k =
      let on_it = k refl in
      record {
        page_after = on_it.page_after ∙ ap (strike_all e rest) q ∙ sym (strike_all-append e ss rest page);
        fitting = λ p. fitting-append f ss rest (on p) (on_it.fitting p);
      }
  heard_inked f page ss rest Finished n after on q k =
      record { page_after = q ∙ sym (strike_all-append e ss [] page); fitting = λ p. fitting-append f ss [] (on p) tt }
  heard_inked f page ss rest (Noted g place) n after on q k =
      record { page_after = q ∙ sym (strike_all-append e ss [] page); fitting = λ p. fitting-append f ss [] (on p) tt }

  inked_if : (f : Form) (m : Machine) (ss : List Strike) (left : Feeding) (t : Bool) → Inked f m.page ss left
      → Inked f m.page (cond t ss []) (cond t left (stopped JobFull m))
  inked_if f m ss left true k = k
  inked_if f m ss left false k = unstruck f JobFull m

  taken_inked : (bs : List ℕ) (m : Machine) (f : Form) → m.printer.form ≡ f → (Proper e → Ready e m)
      → Inked f m.page (taken_strikes e font bs m) (take_bytes e font bs m)
  unfolding taken_strikes take_bytes
  taken_inked [] m f q h = unstruck f Done m
  taken_inked (b ∷ bs) m f q h =
      let s : Step = step e font b m in
      inked_if f m _ _ (ltb m.printer.job limit)
      (heard_inked f m.page (strikes_of b m) _ s.event s.machine _
      (λ p. subst (λ (g : Form). AllFitting g (strikes_of b m)) q (strikes-fitting (h p) b)) (step-page e font b m)
      (λ v. taken_inked bs s.machine f (quiet-form (step_counts e font b m) v ∙ q) (λ p. quiet_ready (step_fine p (h p) font b) v)))

  fitted_inked : (piece : List ℕ) (m : Machine) (t : Fit) → fit e m.printer.form font m ≡ t → sound e m.printer ≡ true
      → Inked m.printer.form m.page (fitted_strikes e font piece t m) (feed_fitted e font piece t m)
  unfolding fitted_strikes feed_fitted
  fitted_inked piece m (Ok tt) q s =
      taken_inked piece m m.printer.form refl
      (λ _. record { printer = sound_facts e m.printer s; memory = (right_fitting e m.printer.form font m refl q).memory })
  fitted_inked piece m (Err lent) q s = unstruck m.printer.form (Misfit lent) m

  tested_inked : (piece : List ℕ) (m : Machine) (t : Bool) → sound e m.printer ≡ t
      → Inked m.printer.form m.page (cond t (fitted_strikes e font piece (fit e m.printer.form font m) m) [])
      (cond t (feed_fitted e font piece (fit e m.printer.form font m) m) (stopped Unsound m))
  tested_inked piece m true q = fitted_inked piece m (fit e m.printer.form font m) refl q
  tested_inked piece m false q = unstruck m.printer.form Unsound m

  feeding_inked : (piece : List ℕ) (m : Machine) → Inked m.printer.form m.page (feeding_strikes e font piece m) (feeding e font piece m)
  unfolding feeding feeding_strikes
  feeding_inked piece m = tested_inked piece m (sound e m.printer) refl

-- the page after a feeding is the page lent with the lines struck that the feeding strikes, whatever the state and the memory lent
pub feeding-page : (e : Edition) (font piece : List ℕ) (m : Machine)
    → (feeding e font piece m).machine.page ≡ strike_all e (feeding_strikes e font piece m) m.page
feeding-page e font piece m = (feeding_inked e font piece m).page_after

-- a feeding that strikes at all has a page of the form's size
module _ (e : Edition) (font piece : List ℕ) (m : Machine) where
  abbrev Size : List Strike → Type 0
  Size ss = (ss ≡ []) ⊎ (length m.page ≡ page_bytes e m.printer.form)

  fitted_size : (t : Fit) → fit e m.printer.form font m ≡ t → Size (fitted_strikes e font piece t m)
  unfolding fitted_strikes
  fitted_size (Ok tt) q = inr (right_fitting e m.printer.form font m refl q).memory.page
  fitted_size (Err lent) q = inl refl

  tested_size : (t : Bool) → Size (cond t (fitted_strikes e font piece (fit e m.printer.form font m) m) [])
  tested_size true = fitted_size (fit e m.printer.form font m) refl
  tested_size false = inl refl

  feeding_size : Size (feeding_strikes e font piece m)
  unfolding feeding_strikes
  feeding_size = tested_size (sound e m.printer)

-- DEMAND 2, its last sentence, both ways, whatever the state and the memory lent
pub feeding_black : {e : Edition} → Proper e → (font piece : List ℕ) (m : Machine) (r : Row) (g : Grid) → g.0 < 8 * e.bytes
    → Black (feeding e font piece m).machine.page (dot_at e r g) ↔ (Black m.page (dot_at e r g) ⊎ PutBy e (feeding_strikes e font piece m) r g)
unfolding strike_all
feeding_black {e} proper font piece m r g on_row =
    rw (feeding-page e font piece m) (go (feeding_strikes e font piece m) ((feeding_inked e font piece m).fitting proper) (feeding_size e font piece m))
  where
    go : (ss : List Strike) → AllFitting m.printer.form ss → Size e font piece m ss
        → Black (strike_all e ss m.page) (dot_at e r g) ↔ (Black m.page (dot_at e r g) ⊎ PutBy e ss r g)
    go [] on q = (λ p. inl p, λ p. ⊎_elim (λ b. b) (λ t. absurd t) p)
    go (s ∷ ss) on (inl q) = let z : ◌≡◌ {A = ℕ} 0 1 = cc in absurd (omega arith)
    go (s ∷ ss) on (inr l) = strikes_black proper m.printer.form r g on_row (s ∷ ss) m.page on l

-- every dot that a feeding puts down lies on a row of the form, within the bits of the page, whatever the state and the memory lent
pub feeding-on-form : {e : Edition} → Proper e → (font piece : List ℕ) (m : Machine) (d : ℕ) → In d (put_down e (feeding_strikes e font piece m))
    → OnForm e m.printer.form d × (d < 8 * length m.page)
unfolding put_down
feeding-on-form {e} proper font piece m d p =
    let ss : List Strike = feeding_strikes e font piece m in
    let on : OnForm e m.printer.form d = fitting_on_form proper m.printer.form ss ((feeding_inked e font piece m).fitting proper) d p in
    (on, go (feeding_size e font piece m) (on-page on))
  where
    go : Size e font piece m (feeding_strikes e font piece m) → d < 8 * page_bytes e m.printer.form → d < 8 * length m.page
    go (inl none) l = absurd (subst (λ (ss : List Strike). In d (put_down e ss)) none p)
    go (inr sized) l = omega arith

-- no feeding turns a black dot white, whatever the state and the memory lent
pub feeding_stays_black : (e : Edition) (font piece : List ℕ) (m : Machine) (d : ℕ) → Black m.page d
    → Black (feeding e font piece m).machine.page d
feeding_stays_black e font piece m d h = rw (feeding-page e font piece m) (strikes_stay_black e (feeding_strikes e font piece m) m.page d h)
