-- Which calls are not refused: a machine that is ready, with a font of its length, has its bytes taken, and a job that is opened starts with one.
use Prim.Native.Nat.{ℕ}
use mathlib.Core.Bool.{Bool, true, false, cond}
use mathlib.Core.List.{List}
use mathlib.Core.Path.{◌≡◌, refl, sym, ◌∙◌}
use native.Mathlib.Omega.{arith}
use borrow.Author.Tests.{eq-eqb, eqb-true}
use lib.ListN.{length}
use Rattle.sheet.specs.declared.Form.{Form}
use Rattle.sheet.specs.declared.Model.{Model}
use Rattle.sheet.specs.Edition.{Edition, described}
use Rattle.sheet.specs.Form.{lines_allowed, new_form, spacing_allowed}
use Rattle.printer.specs.Machine.{Machine, opened, store_size}
use Rattle.printer.specs.Room.{Ready, Sized}
use Rattle.printer.proofs.Soundness.{facts_sound}
use Rattle.protocol.specs.declared.Answer.TheVariants.{Done, WrongLines, WrongSpacing}
use Rattle.std.specs.Prelude.{Err, Ok}
use Rattle.protocol.specs.declared.Lent.{Lent}
use Rattle.protocol.specs.declared.Lent.TheVariants.{Page, LineStore, Staging, DownloadStore, Font}
use Rattle.protocol.specs.Calls.{Fit, Feeding, Opening, feed_fitted, feeding, fit, open_fitted, opening, take_bytes, unopened}

-- all that is lent has its length
pub record Fitting (e : Edition) (f : Form) (fnt : List ℕ) (m : Machine) : Type 0 where
  pub memory : Sized e f m.page m.line m.staging m.store
  pub font : length fnt ≡ store_size

-- all is right
abbrev right : Fit
right = Ok tt

right-only : (lent : Lent) → Err lent ≡ right → ⊥
right-only lent q = let z : ◌≡◌ {A = ℕ} 0 1 = cc in omega arith

-- the five lengths, by what their tests say
five : (a b c d g : Bool)
    → cond a (cond b (cond c (cond d (cond g right (Err Font)) (Err DownloadStore)) (Err Staging)) (Err LineStore)) (Err Page) ≡ right
    → (a ≡ true) × (b ≡ true) × (c ≡ true) × (d ≡ true) × (g ≡ true)
five true true true true true q = (refl, refl, refl, refl, refl)
five true true true true false q = absurd (right-only Font q)
five true true true false g q = absurd (right-only DownloadStore q)
five true true false d g q = absurd (right-only Staging q)
five true false c d g q = absurd (right-only LineStore q)
five false b c d g q = absurd (right-only Page q)

module _ (e : Edition) (f : Form) (font : List ℕ) (m : Machine) where
  pub fitting_right : Fitting e f font m → fit e f font m ≡ right
  unfolding fit
  fitting_right h =
      rw (eq-eqb _ _ h.memory.page, eq-eqb _ _ h.memory.line, eq-eqb _ _ h.memory.staging, eq-eqb _ _ h.memory.store, eq-eqb _ _ h.font)

  pub right_fitting : {tested : Fit} → tested ≡ fit e f font m → tested ≡ right → Fitting e f font m
  unfolding fit
  right_fitting is q =
      let t = five _ _ _ _ _ (sym is ∙ q) in
      record {
        memory = record { page = eqb-true _ _ t.0; line = eqb-true _ _ t.1; staging = eqb-true _ _ t.2; store = eqb-true _ _ t.3 };
        font = eqb-true _ _ t.4;
      }

-- feeding takes the bytes
pub feeding_takes : {e : Edition} {m : Machine} → Ready e m → (font : List ℕ) → length font ≡ store_size → (piece : List ℕ)
    → feeding e font piece m ≡ take_bytes e font piece m
unfolding feeding feed_fitted
feeding_takes {e} {m} h font l piece =
    rw (facts_sound e m.printer h.printer, fitting_right e m.printer.form font m (record { memory = h.memory; font = l }))

pub takes_fed : {e : Edition} {m : Machine} → Ready e m → (font : List ℕ) → length font ≡ store_size → (piece : List ℕ) (f : Feeding)
    → f ≡ take_bytes e font piece m → f ≡ feeding e font piece m
takes_fed h font l piece f q = q ∙ sym (feeding_takes h font l piece)

-- what an opening that is not refused gives
pub record Accepted (w : Model) (f : Form) (fnt : List ℕ) (o : Opening) : Type 0 where
  pub lines : lines_allowed (described w) f.lines ≡ true
  pub spacing : spacing_allowed f.spacing ≡ true
  pub font : length fnt ≡ store_size
  pub machine : o.machine ≡ opened w f

module _ (w : Model) (lines spacing : ℕ) (font : List ℕ) (m : Machine) where
  abbrev e : Edition
  e = described w

  abbrev form : Form
  form = new_form lines spacing

  fitted : (t : Fit) → fit e form font m ≡ t → lines_allowed e lines ≡ true → spacing_allowed spacing ≡ true
      → (open_fitted w form t m).answer ≡ Done → Accepted w form font (open_fitted w form t m)
  unfolding open_fitted
  fitted (Ok tt) q l s d = record { lines = l; spacing = s; font = (right_fitting e form font m refl q).font; machine = refl }
  fitted (Err lent) q l s d = let z : ◌≡◌ {A = ℕ} 0 1 = cc in absurd (omega arith)

  tested : (a b : Bool) → lines_allowed e lines ≡ a → spacing_allowed spacing ≡ b
      → (cond a (cond b (open_fitted w form (fit e form font m) m) (unopened w WrongSpacing m)) (unopened w WrongLines m)).answer ≡ Done
      → Accepted w form font (cond a (cond b (open_fitted w form (fit e form font m) m) (unopened w WrongSpacing m)) (unopened w WrongLines m))
  tested true true l s d = fitted (fit e form font m) refl l s d
  tested true false l s d = let z : ◌≡◌ {A = ℕ} 0 1 = cc in absurd (omega arith)
  tested false b l s d = let z : ◌≡◌ {A = ℕ} 0 1 = cc in absurd (omega arith)

  pub opening_accepted : (opening w lines spacing font m).answer ≡ Done → Accepted w form font (opening w lines spacing font m)
  unfolding opening
  opening_accepted d = tested (lines_allowed e lines) (spacing_allowed spacing) refl refl d
