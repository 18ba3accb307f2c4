-- What the sound test says, as facts.
use Prim.Native.Nat.{ℕ, ◌+◌, ◌-◌, ◌<◌, ◌≤◌, suc, zero}
use mathlib.Core.Bool.{Bool, true, false, not, ◌||◌, and-eq-true_iff, true≢false}
use mathlib.Core.List.{List, [], ◌∷◌}
use mathlib.Core.Path.{◌≡◌, refl, sym, ap, subst, ◌∙◌}
use native.Mathlib.Omega.{arith}
use borrow.Author.Tests.{eq-eqb, eqb-true, le-leb, leb-true, lt-ltb, ltb-false, ltb-true, not-true}
use lib.Dec.{T, leb, ltb}
use lib.ListN.{drop, get_or}
use lib.Seq.{get_or-drop}
use Rattle.sheet.specs.declared.Form.{Form}
use Rattle.sheet.specs.Edition.{Edition}
use Rattle.sheet.specs.Form.{below_top, fits, lines_allowed, margins_allowed}
use Rattle.std.specs.Prelude.{None, Option, Some}
use Rattle.printer.specs.declared.Head.{Head}
use Rattle.printer.specs.declared.Pending.{Pending}
use Rattle.printer.specs.declared.Pending.TheVariants.{Nothing, Escape, Tabs, Reset, Select, SelectLow, CountHigh, CountLow, AddressHigh}
use Rattle.printer.specs.declared.Pending.TheVariants.{AddressLow, Payload, Bracket}
use Rattle.printer.specs.declared.Printer.{Printer}
use Rattle.printer.specs.Facts.{Sound, SoundForm, SoundLoad, SoundPlace, SoundPlot, SoundTabs}
use Rattle.printer.specs.Sound.{begun, form_sound, fresh_sound, load_sound, place_sound, plot_sound, sound, tabs_sound, untabbed}
use Rattle.printer.specs.Tabs.{line_tabs}

-- Each test says its fact.
pub form_facts : (e : Edition) (f : Form) → form_sound e f ≡ true → SoundForm e f
unfolding form_sound lines_allowed margins_allowed
form_facts e f q =
    let a₃ = (and-eq-true_iff _ _).0 q in
    let a₂ = (and-eq-true_iff _ _).0 a₃.0 in
    let a₁ = (and-eq-true_iff _ _).0 a₂.0 in
    let lines = (and-eq-true_iff (leb 1 f.lines) _).0 a₁.0 in
    let margins = (and-eq-true_iff _ _).0 a₂.1 in
    let upper = (and-eq-true_iff _ _).0 margins.0 in
    record {
      most = leb-true _ _ lines.1;
      spacing = a₁.1;
      top = leb-true _ _ upper.0;
      between = leb-true _ _ upper.1;
      bottom = leb-true _ _ margins.1;
      own = a₃.1;
    }

form_tested : (e : Edition) (f : Form) → SoundForm e f → form_sound e f ≡ true
unfolding form_sound lines_allowed margins_allowed
form_tested e f h =
    let some : 1 ≤ f.lines = omega (arith, h.top, h.between, h.bottom) in
    rw (
      le-leb 1 f.lines some,
      le-leb f.lines e.longest h.most,
      h.spacing,
      le-leb 1 f.top.0 h.top,
      le-leb f.top.0 f.bottom.0 h.between,
      le-leb f.bottom.0 f.lines h.bottom,
    )
    h.own

untabbed_facts : (ts : List Bool) → untabbed ts ≡ true → (i : ℕ) → get_or ts i false ≡ false
unfolding untabbed
untabbed_facts [] q i = refl
untabbed_facts (true ∷ ts) q i = absurd (true≢false (sym q))
untabbed_facts (false ∷ ts) q zero = refl
untabbed_facts (false ∷ ts) q (suc i) = untabbed_facts ts q i

untabbed_tested : (ts : List Bool) → ((i : ℕ) → T (get_or ts i false) → ⊥) → untabbed ts ≡ true
unfolding untabbed
untabbed_tested [] h = refl
untabbed_tested (true ∷ ts) h = absurd (h 0 tt)
untabbed_tested (false ∷ ts) h = untabbed_tested ts (λ i t. h (suc i) t)

module _ (f : Form) (tabs : List Bool) where
  tab_inside : tabs_sound f tabs ≡ true → (i : ℕ) → T (get_or tabs i false) → i < f.lines
  unfolding tabs_sound
  tab_inside q i t = go (ltb i f.lines) refl
    where
      go : (b : Bool) → ltb i f.lines ≡ b → i < f.lines
      go true r = ltb-true _ _ r
      go false r =
          let s : f.lines + (i - f.lines) ≡ i = omega (arith, ltb-false) in
          absurd
          (subst T
          (sym (ap (λ (k : ℕ). get_or tabs k false) s)
          ∙ sym (get_or-drop f.lines tabs (i - f.lines) false)
          ∙ untabbed_facts (drop f.lines tabs) q (i - f.lines)) t)

  tabs_facts : tabs_sound f tabs ≡ true → SoundTabs f.lines tabs
  tabs_facts q = record { inside = tab_inside q }

  tabs_tested : SoundTabs f.lines tabs → tabs_sound f tabs ≡ true
  unfolding tabs_sound
  tabs_tested h = untabbed_tested _ (λ i t. omega (arith, h.inside (f.lines + i) (rw get_or-drop at t)))

-- a condition of a test that holds where a flag is set
if_flag : (b c : Bool) → not b || c ≡ true → T b → c ≡ true
if_flag true c q t = q
if_flag false c q t = elim t [ ]

flag_if : (b c : Bool) → (T b → c ≡ true) → not b || c ≡ true
flag_if true c h = h tt
flag_if false c h = refl

module _ (h : Head) where
  fresh_facts : fresh_sound h ≡ true → T h.fresh → (h.column ≡ 0) × (h.plotted ≡ false)
  unfolding fresh_sound
  fresh_facts q t =
      let a = (and-eq-true_iff _ _).0 (if_flag h.fresh _ q t) in
      (eqb-true _ _ a.0, not-true _ a.1)

  fresh_tested : (T h.fresh → (h.column ≡ 0) × (h.plotted ≡ false)) → fresh_sound h ≡ true
  unfolding fresh_sound
  fresh_tested k = flag_if h.fresh _ (λ t. rw (eq-eqb h.column 0 (k t).0, (k t).1))

  plot_facts : (q : Pending) → plot_sound h q ≡ true → SoundPlot h q
  unfolding plot_sound
  plot_facts q r t = (and-eq-true_iff _ _).0 (if_flag h.plotting _ r t)

  plot_tested : (q : Pending) → SoundPlot h q → plot_sound h q ≡ true
  unfolding plot_sound
  plot_tested q k = flag_if h.plotting _ (λ t. (and-eq-true_iff _ _).1 (k t))

load_facts : (e : Edition) (q : Pending) → load_sound e q ≡ true → SoundLoad e q
load_facts e Nothing r = tt
load_facts e (Escape place) r = tt
load_facts e (Tabs place) r = tt
load_facts e (Reset place) r = tt
load_facts e (Select place) r = tt
load_facts e (SelectLow place high) r = tt
load_facts e (CountHigh place) r = tt
load_facts e (CountLow place high) r = tt
load_facts e (AddressHigh place count) r = tt
load_facts e (AddressLow place count high) r = tt
load_facts e (Payload place load) r = leb-true _ _ r
load_facts e (Bracket place settings) r = r

load_tested : (e : Edition) (q : Pending) → SoundLoad e q → load_sound e q ≡ true
load_tested e Nothing k = refl
load_tested e (Escape place) k = refl
load_tested e (Tabs place) k = refl
load_tested e (Reset place) k = refl
load_tested e (Select place) k = refl
load_tested e (SelectLow place high) k = refl
load_tested e (CountHigh place) k = refl
load_tested e (CountLow place high) k = refl
load_tested e (AddressHigh place count) k = refl
load_tested e (AddressLow place count high) k = refl
load_tested e (Payload place load) k = le-leb _ _ k
load_tested e (Bracket place settings) k = k

place_facts : (job : ℕ) (b : Option ℕ) → place_sound job b ≡ true → SoundPlace job b
place_facts job None r = tt
place_facts job (Some place) r = ltb-true _ _ r

place_tested : (job : ℕ) (b : Option ℕ) → SoundPlace job b → place_sound job b ≡ true
place_tested job None k = refl
place_tested job (Some place) k = lt-ltb _ _ k

-- a state is sound exactly where its facts hold
module _ (e : Edition) (p : Printer) where
  pub sound_facts : sound e p ≡ true → Sound e p
  unfolding sound fits below_top
  sound_facts q =
      let a₈ = (and-eq-true_iff _ _).0 q in
      let a₇ = (and-eq-true_iff _ _).0 a₈.0 in
      let a₆ = (and-eq-true_iff _ _).0 a₇.0 in
      let a₅ = (and-eq-true_iff _ _).0 a₆.0 in
      let a₄ = (and-eq-true_iff _ _).0 a₅.0 in
      let a₃ = (and-eq-true_iff _ _).0 a₄.0 in
      let a₂ = (and-eq-true_iff _ _).0 a₃.0 in
      let a₁ = (and-eq-true_iff _ _).0 a₂.0 in
      record {
        form = form_facts e p.form a₁.0;
        head = record { above = leb-true _ _ a₁.1; row = leb-true _ _ a₂.1; column = leb-true _ _ a₃.1; fresh = fresh_facts p.head a₇.1 };
        tabs = tabs_facts p.form (line_tabs p.tabs) a₄.1;
        load = load_facts e p.pending a₅.1;
        place = place_facts p.job (begun p.pending) a₆.1;
        plot = plot_facts p.head p.pending a₈.1;
      }

  pub facts_sound : Sound e p → sound e p ≡ true
  unfolding sound fits below_top
  facts_sound h =
      rw (
        form_tested e p.form h.form,
        le-leb _ _ h.head.above,
        le-leb _ _ h.head.row,
        le-leb _ _ h.head.column,
        tabs_tested p.form (line_tabs p.tabs) h.tabs,
        load_tested e p.pending h.load,
        place_tested p.job (begun p.pending) h.place,
        fresh_tested p.head h.head.fresh,
      )
      (plot_tested p.head p.pending h.plot)
