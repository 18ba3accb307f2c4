-- What each way through opening and feeding comes to.
use Prim.Native.Nat.{ℕ}
use mathlib.Core.Bool.{Bool, true, false, cond, true≢false}
use mathlib.Core.List.{List, []}
use mathlib.Core.Path.{◌≡◌, refl, ap, sym, ◌∙◌}
use Rattle.sheet.specs.declared.Form.{Form}
use Rattle.sheet.specs.declared.Model.{Model}
use Rattle.sheet.specs.Edition.{Edition, described}
use Rattle.sheet.specs.Form.{lines_allowed, new_form, spacing_allowed}
use Rattle.printer.specs.Machine.{Machine, opened, shut, with_printer}
use Rattle.printer.specs.Room.{Sized}
use Rattle.printer.specs.Sound.{sound}
use Rattle.protocol.specs.declared.Answer.{Answer}
use Rattle.protocol.specs.declared.Answer.TheVariants.{Done, Misfit, Unsound, WrongLines, WrongSpacing}
use Rattle.std.specs.Prelude.{Err, Ok}
use Rattle.protocol.specs.declared.Lent.{Lent}
use Rattle.protocol.specs.Answers.{refusal}
use Rattle.protocol.specs.Calls.{Fit, Opening, feed_fitted, feeding, fit, open_fitted, opening, stopped, take_bytes, unopened}
use Rattle.protocol.proofs.Accepted.{right_fitting}
use Rattle.protocol.proofs.Answering.{opening_refused, taking_heeds}

module _ (w : Model) (lines spacing : ℕ) (font : List ℕ) (m : Machine) where
  abbrev e : Edition
  e = described w

  abbrev form : Form
  form = new_form lines spacing

  pub open_lines : lines_allowed e lines ≡ false → unopened w WrongLines m ≡ opening w lines spacing font m
  unfolding opening
  open_lines l = rw l

  pub open_spacing : lines_allowed e lines ≡ true → spacing_allowed spacing ≡ false → unopened w WrongSpacing m ≡ opening w lines spacing font m
  unfolding opening
  open_spacing l s = rw (l, s)

  module _ (l : lines_allowed e lines ≡ true) (s : spacing_allowed spacing ≡ true) where
    pub open_misfit : {tested : Fit} {lent : Lent} → tested ≡ fit e form font m → tested ≡ Err lent
        → unopened w (Misfit lent) m ≡ opening w lines spacing font m
    unfolding opening open_fitted
    open_misfit is w = rw (l, s, ← is, w)

    pub open_done : {tested : Fit} → tested ≡ fit e form font m → tested ≡ (Ok tt)
        → record { answer = Done; machine = opened w form } ≡ opening w lines spacing font m
    unfolding opening open_fitted
    open_done is r = rw (l, s, ← is, r)

  -- what is refused, by the answer alone
  pub open_refused : {a : Answer} → a ≡ (opening w lines spacing font m).answer → refusal a ≡ true → unopened w a m ≡ opening w lines spacing font m
  open_refused {a} is r =
      let o : Opening = opening w lines spacing font m in
      let shuts : o.machine ≡ with_printer (shut w) m = opening_refused w lines spacing font m (ap refusal (sym is) ∙ r) in
      ap (λ (x : Answer). unopened w x m) is ∙ ap (λ (x : Machine). record { answer = o.answer; machine = x }) (sym shuts)

  -- what is not: all fits, and the job is open
  pub record Admitted : Type 0 where
    pub memory : Sized e form m.page m.line m.staging m.store
    pub opens : record { answer = Done; machine = opened w form } ≡ opening w lines spacing font m

  admitted_by : (l s : Bool) (t : Fit) → lines_allowed e lines ≡ l → spacing_allowed spacing ≡ s → fit e form font m ≡ t
      → refusal (cond l (cond s (open_fitted w form t m) (unopened w WrongSpacing m)) (unopened w WrongLines m)).answer ≡ false → Admitted
  unfolding open_fitted refusal
  admitted_by true true (Ok tt) l s t r =
      record { memory = (right_fitting e form font m (sym t) refl).memory; opens = open_done l s (sym t) refl }
  admitted_by true true (Err lent) l s t r = absurd (true≢false r)
  admitted_by true false f l s t r = absurd (true≢false r)
  admitted_by false x f l s t r = absurd (true≢false r)

  pub open_admitted : {a : Answer} → a ≡ (opening w lines spacing font m).answer → refusal a ≡ false → Admitted
  unfolding opening
  open_admitted is r = admitted_by (lines_allowed e lines) (spacing_allowed spacing) (fit e form font m) refl refl refl (ap refusal (sym is) ∙ r)

module _ (e : Edition) (font piece : List ℕ) (m : Machine) where
  pub feed_unsound : sound e m.printer ≡ false → stopped Unsound m ≡ feeding e font piece m
  unfolding feeding
  feed_unsound s = rw s

  pub feed_misfit : sound e m.printer ≡ true → {tested : Fit} {lent : Lent} → tested ≡ fit e m.printer.form font m → tested ≡ Err lent
      → stopped (Misfit lent) m ≡ feeding e font piece m
  unfolding feeding feed_fitted
  feed_misfit s is w = rw (s, ← is, w)

  -- what is refused is refused whatever the piece, and with an empty one nothing else happens
  feed_by : (s : Bool) (t : Fit) → sound e m.printer ≡ s → fit e m.printer.form font m ≡ t
      → ((feeding e font [] m).machine ≡ m)
      × (refusal (feeding e font piece m).answer ≡ refusal (feeding e font [] m).answer)
      × (refusal (feeding e font [] m).answer ≡ true → feeding e font piece m ≡ feeding e font [] m)
  unfolding feeding feed_fitted take_bytes refusal
  feed_by true (Ok tt) s t = rw (s, t) (refl, taking_heeds e font piece m, λ q. absurd (true≢false (sym q)))
  feed_by true (Err lent) s t = rw (s, t) (refl, refl, λ q. refl)
  feed_by false f s t = rw s (refl, refl, λ q. refl)

  pub feed_nothing : (feeding e font [] m).machine ≡ m
  feed_nothing = (feed_by (sound e m.printer) (fit e m.printer.form font m) refl refl).0

  pub refused_alike : refusal (feeding e font piece m).answer ≡ refusal (feeding e font [] m).answer
  refused_alike = (feed_by (sound e m.printer) (fit e m.printer.form font m) refl refl).1

  pub refused_same : refusal (feeding e font [] m).answer ≡ true → feeding e font piece m ≡ feeding e font [] m
  refused_same = (feed_by (sound e m.printer) (fit e m.printer.form font m) refl refl).2
