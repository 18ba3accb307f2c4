-- The dots of a page with lines struck on it.
use Prim.Native.Nat.{ℕ, ◌+◌, ◌*◌, ◌≤◌, ◌<◌}
use mathlib.Core.Bool.{Bool, true, false, cond}
use mathlib.Core.List.{List, [], ◌∷◌, ◌++◌}
use mathlib.Core.Logic.{◌⊎◌, inl, inr, ⊎_elim, ◌↔◌}
use mathlib.Core.Path.{◌≡◌, refl, sym, ◌∙◌}
use native.Mathlib.Nat.{mul-le-mul_right}
use native.Mathlib.Omega.{arith}
use lib.ListN.{length}
use Rattle.sheet.proofs.Units.{fits-form}
use Rattle.sheet.specs.declared.Form.{Form}
use Rattle.sheet.specs.declared.Grid.{Grid}
use Rattle.sheet.specs.declared.Row.{Row}
use Rattle.sheet.specs.Dots.{Black, In, OnForm, blacken_all, dot_at, marks, struck}
use Rattle.sheet.specs.Edition.{Edition}
use Rattle.sheet.specs.Form.{form_rows, page_bytes}
use Rattle.sheet.proofs.Editions.{Proper}
use Rattle.sheet.proofs.Blackening.{blacken_all-append, in_append}
use Rattle.sheet.proofs.Marks.{marks_on_form, on-page}
use Rattle.sheet.proofs.Struck.{length-struck, struck_black, struck_stays_black}
use Rattle.printer.specs.Bytes.{run}
use Rattle.printer.specs.Machine.{Machine}
use Rattle.printer.specs.Room.{Ready}
use Rattle.printer.specs.Strikes.{PutBy, Strike, in_progress, put_down, strike_all, strikes, strikes_of}
use Rattle.printer.proofs.StaysSound.{run_ready}

pub strike_all-append : (e : Edition) (xs ys : List Strike) (page : List ℕ) → strike_all e (xs ++ ys) page ≡ strike_all e ys (strike_all e xs page)
unfolding strike_all
strike_all-append e [] ys page = refl
strike_all-append e (x ∷ xs) ys page = strike_all-append e xs ys (struck e page x.line x.row x.pitch)

-- no strike turns a black dot white
pub strikes_stay_black : (e : Edition) (ss : List Strike) (page : List ℕ) (d : ℕ) → Black page d → Black (strike_all e ss page) d
unfolding strike_all
strikes_stay_black e [] page d h = h
strikes_stay_black e (s ∷ ss) page d h = strikes_stay_black e ss _ d (struck_stays_black e page s.line s.row s.pitch d h)

-- strikes that fit a form: the nine rows of each are rows of the form
abbrev pub AllFitting : Form → List Strike → Type 0
AllFitting f [] = Unit {0}
AllFitting f (s ∷ ss) = (s.row.0 + 9 ≤ form_rows f) × AllFitting f ss

pub fitting-append : (f : Form) (xs ys : List Strike) → AllFitting f xs → AllFitting f ys → AllFitting f (xs ++ ys)
fitting-append f [] ys h k = k
fitting-append f (x ∷ xs) ys h k = (h.0, fitting-append f xs ys h.1 k)

-- the line that a byte strikes fits the form
pub strikes-fitting : {e : Edition} {m : Machine} → Ready e m → (b : ℕ) → AllFitting m.printer.form (strikes_of b m)
unfolding strikes_of
strikes-fitting {e} {m} h b = go (strikes b m)
  where
    go : (t : Bool) → AllFitting m.printer.form (cond t (in_progress m ∷ []) [])
    go true = (fits-form _ _ h.printer.form.bottom h.printer.head.row, tt)
    go false = tt

-- strikes blacken the dots that they put down, and no other
pub strikes-put_down : (e : Edition) (ss : List Strike) (page : List ℕ) → strike_all e ss page ≡ blacken_all page (put_down e ss)
unfolding strike_all put_down struck blacken_all
strikes-put_down e [] page = refl
strikes-put_down e (s ∷ ss) page =
    strikes-put_down e ss (struck e page s.line s.row s.pitch)
    ∙ sym (blacken_all-append page (marks e s.line s.row s.pitch) (put_down e ss))

module _ {e : Edition} (proper : Proper e) where
  -- the dots that fitting strikes put down lie on the form
  pub fitting_on_form : (f : Form) (ss : List Strike) → AllFitting f ss → (d : ℕ) → In d (put_down e ss) → OnForm e f d
  unfolding put_down
  fitting_on_form f [] h d p = absurd p
  fitting_on_form f (s ∷ ss) h d p =
      ⊎_elim (marks_on_form proper s.line s.row s.pitch f h.0 d) (fitting_on_form f ss h.1 d)
      (in_append d (marks e s.line s.row s.pitch) (put_down e ss) p)

  -- THE LAW: every dot that a byte puts down in a machine that is ready lies on a row of the form, within the bits of the page
  pub byte_on_form : {m : Machine} → Ready e m → (b d : ℕ) → In d (put_down e (strikes_of b m))
      → OnForm e m.printer.form d × (d < 8 * length m.page)
  byte_on_form {m} h b d p =
      let on : OnForm e m.printer.form d = fitting_on_form m.printer.form (strikes_of b m) (strikes-fitting h b) d p in
      (on, omega (arith, on-page on, h.memory.page))

  -- and so does every dot that a byte puts down after any others
  pub job_on_form : {m : Machine} → Ready e m → (font before : List ℕ) (b d : ℕ) → In d (put_down e (strikes_of b (run e font before m).machine))
      → OnForm e (run e font before m).machine.printer.form d × (d < 8 * length (run e font before m).machine.page)
  job_on_form h font before b d p = byte_on_form (run_ready proper font before h) b d p

-- A dot is black after some strikes exactly where it was black before them or one of them put it there.
module _ {e : Edition} (proper : Proper e) (f : Form) (r : Row) (g : Grid) (on_row : g.0 < 8 * e.bytes) where
  pub strikes_black : (ss : List Strike) (page : List ℕ) → AllFitting f ss → length page ≡ page_bytes e f
      → Black (strike_all e ss page) (dot_at e r g) ↔ (Black page (dot_at e r g) ⊎ PutBy e ss r g)
  unfolding strike_all page_bytes
  strikes_black [] page h l = (λ p. inl p, λ p. ⊎_elim (λ b. b) (λ q. absurd q) p)
  strikes_black (s ∷ ss) page h l =
      let room : (s.row.0 + 9) * e.bytes ≤ length page = omega (arith, mul-le-mul_right e.bytes h.0, l) in
      let one = struck_black proper page s.line s.row s.pitch room r g on_row in
      let rest = strikes_black ss (struck e page s.line s.row s.pitch) h.1 (length-struck e page s.line s.row s.pitch ∙ l) in (
        λ p. ⊎_elim (λ b. ⊎_elim (λ q. inl q) (λ q. inr (inl q)) (one.0 b)) (λ q. inr (inr q)) (rest.0 p),
        λ p. rest.1 (⊎_elim (λ b. inl (one.1 (inl b))) (λ q. ⊎_elim (λ t. inl (one.1 (inr t))) (λ t. inr t) q) p),
      )
