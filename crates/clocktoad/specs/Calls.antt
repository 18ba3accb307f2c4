-- The calls of another language: document 01's opening and closing over words and lent memory, and what sizes it is to lend; feeding is in the crate of
-- that name. House: 21 is a state and 22 a report of the wrong length, each refused after all that the call refuses besides; 23 is a number that no model
-- has, before all else; what is no state at all is answered 10.
use Rattle.std.specs.Prelude.{ℕ, cond, List, [], ◌∷◌, eqb, length}
use Rattle.sheet.specs.declared.Model.{Model}
use Rattle.sheet.specs.declared.Model.TheVariants.{Lp2}
use Rattle.sheet.specs.Edition.{Edition, described}
use Rattle.printer.specs.declared.Closing.{Closing}
use Rattle.printer.specs.declared.Memory.{Memory}
use Rattle.printer.specs.declared.Printer.{Printer}
use Rattle.printer.specs.Closing.{closing}
use Rattle.printer.specs.Given.{machine}
use Rattle.printer.specs.Machine.{edition_of, shut}
use Rattle.printer.specs.Numbers.{close_report, value}
use Rattle.protocol.specs.Answers.{report}
use Rattle.protocol.specs.Calls.{Opening, opening, page_due}
use Rattle.words.specs.Words.{is_model, is_state, model_of, state_of, state_size, state_words}
use Rattle.feeding.specs.Feeding.{Called, called, refused_or, report_size}

-- opening: the words of the state that it gives, of a refused opening the shut one's
unfoldable pub opening_words : Opening → Called
opening_words o =
    called (report o.answer).number (state_words o.machine.printer) o.machine.page o.machine.line o.machine.staging o.machine.store []

-- of a model: 18, 19, 11 to 15, then 21: a state of the wrong length is not written, and neither is anything else
unfoldable pub model_call : Model → ℕ → ℕ → List ℕ → List ℕ → List ℕ → List ℕ → List ℕ → List ℕ → Called
model_call w lines spacing font state page line staging store =
    let o : Opening = opening w lines spacing font (machine (shut w) page line staging store) in
    cond (eqb (length state) state_size) (opening_words o) (called (refused_or 21 o.answer) state page line staging store [])

-- the same with what a caller lends
abbrev pub model_call_in : Model → ℕ → ℕ → List ℕ → Memory → Called
model_call_in w lines spacing state m =
    model_call w lines spacing m.font.now state m.page.now m.line.now m.staging.now m.store.now

-- words that are as many as a state's become the LP2's shut state
unfoldable pub shut_words : List ℕ → List ℕ
shut_words state = cond (eqb (length state) state_size) (state_words (shut Lp2)) state

-- 23 for a number that no model has, whatever else is handed in; then the model's opening
unfoldable pub open_call : ℕ → ℕ → ℕ → List ℕ → List ℕ → List ℕ → List ℕ → List ℕ → List ℕ → Called
open_call model lines spacing font state page line staging store =
    cond (is_model model)
    (model_call (model_of model) lines spacing font state page line staging store)
    (called 23 (shut_words state) page line staging store [])

-- what closing gives back: its number, and the report
pub record Closed : Type 0 where
  pub number : ℕ
  pub report : List ℕ

-- the place of the unfinished command, between zeros
unfoldable pub closing_report : Closing → List ℕ
closing_report c = 0 ∷ 0 ∷ value 0 (close_report c) ∷ 0 ∷ []

-- 10, then 22; neither writes the report
unfoldable pub closing_words : Closing → List ℕ → Closed
closing_words c told =
    cond (eqb (close_report c).number 10)
    (record { number = 10; report = told })
    (cond (eqb (length told) report_size)
    (record { number = (close_report c).number; report = closing_report c })
    (record { number = 22; report = told }))

-- 10 also for what is no state
unfoldable pub close_call : List ℕ → List ℕ → Closed
close_call state told =
    let p : Printer = state_of state in
    cond (is_state state) (closing_words (closing (edition_of p) p) told) (record { number = 10; report = told })

-- a size that goes by the edition, for the number of a model: 0 for a number that no model has
unfoldable pub of_model : ℕ → (Edition → ℕ) → ℕ
of_model model size = cond (is_model model) (size (described (model_of model))) 0

-- the bytes of the page that the next feeding takes, 0 for what is no state or an unsound one
unfoldable pub due_call : List ℕ → ℕ
due_call state = let p : Printer = state_of state in cond (is_state state) (page_due (edition_of p) p) 0
