-- What a byte does to the page: it strikes the lines that the byte strikes, and nothing else.
use Prim.Native.Nat.{ℕ, ◌+◌}
use Rattle.sheet.specs.declared.Line.{Line}
use mathlib.Core.Bool.{Bool, true, false, cond, not, ◌&&◌, ◌||◌, and-eq-true_iff, true≢false}
use mathlib.Core.List.{List, [], ◌∷◌}
use mathlib.Core.Path.{◌∙◌, ◌≡◌, ap, refl, sym}
use native.Mathlib.Omega.{arith}
use borrow.Author.Tests.{eqb-false, eqb-true, leb-true, ne_eqb}
use lib.Dec.{eqb, ltb}
use lib.ListN.{length}
use Rattle.sheet.proofs.Struck.{length-struck}
use Rattle.sheet.specs.Dots.{struck}
use Rattle.sheet.specs.Edition.{Edition}
use Rattle.sheet.specs.Form.{fits}
use Rattle.printer.specs.Brackets.{bracket, reform, reformed, resize, respace, style}
use Rattle.printer.specs.declared.Pending.{Pending}
use Rattle.printer.specs.declared.Pending.TheVariants.{Nothing, Escape, Tabs, Reset, Select, SelectLow, CountHigh, CountLow, AddressHigh}
use Rattle.printer.specs.declared.Pending.TheVariants.{AddressLow, Payload, Bracket}
use Rattle.std.specs.Prelude.{None, Option, Some}
use Rattle.printer.specs.Alone.{alone, prints, text_byte}
use Rattle.printer.specs.Bytes.{act, bracket_byte, first_byte, payload_byte, second_byte, step, tab_byte, text_escape}
use Rattle.printer.specs.Downloads.{download}
use Rattle.printer.specs.Escapes.{after_reset, clear_tabs, escape, in_turn, repitched, reset, select, tab, tab_here, tab_item}
use Rattle.printer.specs.Machine.{Machine, with_job}
use Rattle.printer.specs.Plotting.{plot, plots, plot_byte, plot_escape}
use Rattle.printer.specs.Printing.{print}
use Rattle.printer.specs.Steps.{Step}
use Rattle.printer.specs.Strikes.{Strike, idle, in_progress, strike_all, strikes, strikes_of, terminator}
use Rattle.printer.specs.Terminators.{carriage_return, form_feed, newline, strike, tab_to, vertical_tab}

-- a step that leaves a page
abbrev Leaves : List ℕ → Step → Type 0
Leaves page s = s.machine.page ≡ page

leaves_cond : {page : List ℕ} (t : Bool) (s u : Step) → Leaves page s → Leaves page u → Leaves page (cond t s u)
leaves_cond true s u h k = h
leaves_cond false s u h k = k

leaves_test : {page : List ℕ} (t : Bool) (s u : Step) → (t ≡ true → Leaves page s) → (t ≡ false → Leaves page u) → Leaves page (cond t s u)
leaves_test true s u h k = h refl
leaves_test false s u h k = k refl

module _ (e : Edition) (m : Machine) where
  -- the page with the line in progress struck
  abbrev inked : List ℕ
  inked = struck e m.page m.line m.printer.head.row m.printer.style.pitch

  tab_to_page : (below lowest : Option Line) → Leaves inked (tab_to e below lowest m)
  unfolding tab_to carriage_return strike
  tab_to_page (Some n) lowest = refl
  tab_to_page None (Some n) = refl
  tab_to_page None None = refl

  -- the page after a byte, by whether it strikes the line
  abbrev left_by : Bool → List ℕ
  left_by t = cond t inked m.page

  ends_line : (page : List ℕ) (b : ℕ) → terminator b ≡ true → page ≡ inked → page ≡ left_by (terminator b)
  ends_line page b q h = rw q h

  stays : (page : List ℕ) (b : ℕ) → terminator b ≡ false → page ≡ m.page → page ≡ left_by (terminator b)
  stays page b q h = rw q h

  print_page : (font : List ℕ) (b place : ℕ) → Leaves m.page (print e font b place m)
  unfolding print
  print_page font b place = search leaves_cond

  plot_page : (v place : ℕ) → Leaves m.page (plot e v place m)
  unfolding plot
  plot_page v place = search leaves_cond

  none : (b : ℕ) → (b ≡ 0x0a → ⊥) → (b ≡ 0x0b → ⊥) → (b ≡ 0x0c → ⊥) → (b ≡ 0x0d → ⊥) → terminator b ≡ false
  unfolding terminator
  none b n₁ n₂ n₃ n₄ = rw (ne_eqb b 0x0a n₁, ne_eqb b 0x0b n₂, ne_eqb b 0x0c n₃, ne_eqb b 0x0d n₄)

  -- 00, 07, 7F
  abbrev nothing : ℕ → Bool
  nothing b = eqb b 0 || (eqb b 7 || eqb b 0x7f)

  text_page : (font : List ℕ) (b place : ℕ) → Leaves (left_by (terminator b)) (text_byte e font b place m)
  unfolding prints text_byte newline vertical_tab form_feed carriage_return strike terminator
  text_page font b place =
      leaves_test (prints b) _ _
      (λ q.
      let l = leb-true 0x20 b ((and-eq-true_iff _ _).0 q).0 in
      stays _ b (none b (λ r. omega arith) (λ r. omega arith) (λ r. omega arith) (λ r. omega arith)) (print_page font b place))
      (λ _.
      leaves_test (nothing b) _ _
      (λ q.
      let not_at : (x : ℕ) → nothing x ≡ false → b ≡ x → ⊥ = λ x f r. true≢false (sym q ∙ ap nothing r ∙ f) in
      stays _ b (none b (not_at 0x0a refl) (not_at 0x0b refl) (not_at 0x0c refl) (not_at 0x0d refl)) refl)
      (λ _.
      leaves_test (eqb b 0x0a) _ _ (λ q. ends_line _ b (rw q) (leaves_cond (fits m.printer.form _) _ _ refl refl))
      (λ q₁.
      leaves_test (eqb b 0x0b) _ _ (λ q. ends_line _ b (rw (q₁, q)) (tab_to_page _ _))
      (λ q₂.
      leaves_test (eqb b 0x0c) _ _ (λ q. ends_line _ b (rw (q₁, q₂, q)) refl)
      (λ q₃.
      leaves_test (eqb b 0x0d) _ _ (λ q. ends_line _ b (rw (q₁, q₂, q₃, q)) refl)
      (λ q₄. stays _ b (none b (eqb-false _ _ q₁) (eqb-false _ _ q₂) (eqb-false _ _ q₃) (eqb-false _ _ q₄))
      (leaves_cond (ltb b 0x80) _ _ refl refl)))))))

-- A byte, by what is pending: only where nothing is, and outside plot mode, it may be a terminator.
module _ (e : Edition) (font : List ℕ) (b here : ℕ) (m : Machine) where
  by_mode : (t : Bool) → Leaves (left_by e m (not t && terminator b)) (cond t (plot_byte e b here m) (text_byte e font b here m))
  unfolding plot_byte
  by_mode true = leaves_cond (plots b) _ _ (plot_page e m b here) refl
  by_mode false = text_page e m font b here

  -- ESC is no terminator
  begins : (t : Bool) → eqb b 0x1b ≡ true → m.page ≡ left_by e m (t && terminator b)
  unfolding terminator
  begins false q = refl
  begins true q = rw (eqb-true b 0x1b q)

  style_page : (s : Option ℕ) (place : ℕ) (n : Machine) → n.page ≡ m.page → Leaves m.page (style e s place n)
  unfolding style repitched in_turn
  style_page None place n h = h
  style_page (Some v) place n h = search leaves_cond depth 10

  respace_page : (s : Option ℕ) (place : ℕ) (n : Machine) → n.page ≡ m.page → Leaves m.page (respace e s place n)
  unfolding respace reform reformed
  respace_page None place n h = h
  respace_page (Some v) place n h = search leaves_cond depth 10

  act_page : (q : Pending) → Leaves (left_by e m (idle q && not m.printer.head.plotting && terminator b)) (act e font q b here m)
  unfolding act first_byte second_byte text_escape tab_byte payload_byte bracket_byte bracket resize reform reformed alone escape repitched in_turn
      tab_here tab plot_escape clear_tabs after_reset reset select download tab_item
  act_page Nothing = leaves_test (eqb b 0x1b) _ _ (begins (not m.printer.head.plotting)) (λ _. by_mode m.printer.head.plotting)
  act_page (Escape place) = search (leaves_cond, plot_page) depth 20
  act_page (Tabs place) = search leaves_cond
  act_page (Reset place) = search leaves_cond
  act_page (Select place) = refl
  act_page (SelectLow place high) = search leaves_cond
  act_page (CountHigh place) = refl
  act_page (CountLow place high) = refl
  act_page (AddressHigh place count) = refl
  act_page (AddressLow place count high) = refl
  act_page (Payload place load) = search leaves_cond depth 10
  act_page (Bracket place settings) = search (leaves_cond, style_page, respace_page) depth 10

-- one strike or none
strike_if : (e : Edition) (s : Strike) (page : List ℕ) (t : Bool)
    → strike_all e (cond t (s ∷ []) []) page ≡ cond t (struck e page s.line s.row s.pitch) page
unfolding strike_all
strike_if e s page true = refl
strike_if e s page false = refl

-- THE LAW: the page after a byte is the page before it with the line struck that the byte strikes
pub step-page : (e : Edition) (font : List ℕ) (b : ℕ) (m : Machine) → (step e font b m).machine.page ≡ strike_all e (strikes_of b m) m.page
unfolding step strikes_of strikes
step-page e font b m =
    act_page e font b m.printer.job (with_job (m.printer.job + 1) m) m.printer.pending
    ∙ sym (strike_if e (in_progress m) m.page (strikes b m))

-- lines struck leave the page as long as it was
pub length-strike_all : (e : Edition) (ss : List Strike) (page : List ℕ) → length (strike_all e ss page) ≡ length page
unfolding strike_all
length-strike_all e [] page = refl
length-strike_all e (s ∷ ss) page =
    length-strike_all e ss (struck e page s.line s.row s.pitch) ∙ length-struck e page s.line s.row s.pitch

-- and so does a byte
pub step-page-length : (e : Edition) (font : List ℕ) (b : ℕ) (m : Machine) → length (step e font b m).machine.page ≡ length m.page
step-page-length e font b m = ap length (step-page e font b m) ∙ length-strike_all e (strikes_of b m) m.page
