-- What each way through a model's opening comes to, and what no model and no state come to.
use Prim.Native.Nat.{ℕ}
use mathlib.Core.Bool.{true, false}
use mathlib.Core.List.{List, []}
use mathlib.Core.Path.{◌≡◌, ap, sym, ◌∙◌}
use borrow.Author.Tests.{eq-eqb, ne_eqb}
use lib.ListN.{length}
use Rattle.sheet.specs.declared.Model.{Model}
use Rattle.sheet.specs.Edition.{Edition}
use Rattle.sheet.specs.Form.{new_form}
use Rattle.printer.specs.Given.{machine}
use Rattle.printer.specs.Machine.{Machine, new_printer, shut}
use Rattle.protocol.specs.declared.Answer.{Answer}
use Rattle.protocol.specs.Answers.{refusal, report}
use Rattle.protocol.specs.Calls.{Opening, opening}
use Rattle.protocol.proofs.Answering.{opening_refused}
use Rattle.protocol.proofs.Ways.{open_admitted}
use Rattle.feeding.specs.Feeding.{Called, called, refused_or}
use Rattle.feeding.proofs.Feeding.{Lent, left_alone}
use Rattle.clocktoad.specs.Calls.{due_call, model_call, of_model}
use Rattle.clocktoad.specs.Calls.{opening_words}
use Rattle.words.specs.Words.{is_model, is_state, state_size, state_words}

-- words that take the place of others are a state where those are as many as one has
abbrev pub InPlace : List ℕ → List ℕ → Type 0
InPlace state words = length state ≡ state_size → is_state words ≡ true

module _ (w : Model) (lines spacing : ℕ) (x : Lent) where
  abbrev opens_as : Opening
  opens_as = opening w lines spacing x.font (machine (shut w) x.page x.line x.staging x.store)

  -- what a model's opening is to give, and a state with it
  abbrev pub Opens : Called → Type 0
  Opens g = (g ≡ model_call w lines spacing x.font x.state x.page x.line x.staging x.store) × InPlace x.state g.state

  pub open_unkept : {number : ℕ} {a : Answer} → (length x.state ≡ state_size → ⊥) → number ≡ refused_or 21 a → a ≡ opens_as.answer
      → Opens (left_alone x number [])
  unfolding model_call
  open_unkept n r e = (rw (ne_eqb (length x.state) state_size n, r, e), λ l. absurd (n l))

  -- the words of the shut state are those of a refused opening, and of one that is not those of a job just opened
  pub shut_given : {words : List ℕ} (o : Opening) → o ≡ opens_as → refusal o.answer ≡ true
      → (words ≡ state_words (shut w)) × (is_state words ≡ true) → (words ≡ state_words o.machine.printer) × (is_state words ≡ true)
  shut_given o e r g =
      let m : Machine = machine (shut w) x.page x.line x.staging x.store in
      let gone = opening_refused w lines spacing x.font m (ap (λ (q : Opening). refusal q.answer) (sym e) ∙ r) in
      (g.0 ∙ sym (ap (λ (n : Machine). state_words n.printer) (ap (λ (q : Opening). q.machine) e ∙ gone)), g.1)

  pub new_given : {words : List ℕ} (o : Opening) → o ≡ opens_as → refusal o.answer ≡ false
      → (words ≡ state_words (new_printer w (new_form lines spacing))) × (is_state words ≡ true)
      → (words ≡ state_words o.machine.printer) × (is_state words ≡ true)
  new_given o e r g =
      let m : Machine = machine (shut w) x.page x.line x.staging x.store in
      let new = (open_admitted w lines spacing x.font m (ap (λ (q : Opening). q.answer) e) r).opens in
      (g.0 ∙ ap (λ (q : Opening). state_words q.machine.printer) (new ∙ sym e), g.1)

  pub opens : (o : Opening) {words : List ℕ} {number : ℕ} → length x.state ≡ state_size
      → o ≡ opens_as
      → (words ≡ state_words o.machine.printer) × (is_state words ≡ true)
      → number ≡ (report o.answer).number
      → Opens (called number words o.machine.page o.machine.line o.machine.staging o.machine.store [])
  unfolding model_call opening_words
  opens o l e w n = (rw (eq-eqb (length x.state) state_size l, ← e, w.0, n), λ m. w.1)

-- Of a number that no model has the size is 0, and of what is no state no page is due.
pub size_unknown : (model : ℕ) (size : Edition → ℕ) → is_model model ≡ false → 0 ≡ of_model model size
unfolding of_model
size_unknown model size n = rw n

pub due_none : (state : List ℕ) → is_state state ≡ false → 0 ≡ due_call state
unfolding due_call
due_none state q = rw q
