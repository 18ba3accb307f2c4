-- Feeding over words and lent memory. House: 22 is a report of the wrong length, refused after all that feeding refuses besides; what is no state at all
-- is answered 10.
use Rattle.std.specs.Prelude.{ℕ, cond, List, [], ◌∷◌, eqb, length}
use Rattle.printer.specs.declared.Memory.{Memory}
use Rattle.printer.specs.declared.Printer.{Printer}
use Rattle.printer.specs.Given.{machine}
use Rattle.printer.specs.Machine.{edition_of}
use Rattle.printer.specs.Numbers.{value}
use Rattle.protocol.specs.declared.Answer.{Answer}
use Rattle.protocol.specs.Answers.{refusal, report}
use Rattle.protocol.specs.Calls.{Feeding, feeding}
use Rattle.words.specs.Words.{is_state, state_of, state_words}

-- what a call gives back: its number, and all that it was lent as it leaves it
pub record Called : Type 0 where
  pub number : ℕ
  pub state : List ℕ
  pub page : List ℕ
  pub line : List ℕ
  pub staging : List ℕ
  pub store : List ℕ
  pub report : List ℕ

abbrev pub called : ℕ → List ℕ → List ℕ → List ℕ → List ℕ → List ℕ → List ℕ → Called
called number state page line staging store report =
    record { number = number; state = state; page = page; line = line; staging = staging; store = store; report = report }

-- the same with what a caller lends
abbrev pub called_in : ℕ → List ℕ → Memory → List ℕ → Called
called_in number state m report = called number state m.page.now m.line.now m.staging.now m.store.now report

-- how many words a report has
abbrev pub report_size : ℕ
report_size = 4

-- the number of a refusal, or else that of what is lent beside it and has the wrong length
unfoldable pub refused_or : ℕ → Answer → ℕ
refused_or number a = cond (refusal a) (report a).number number

-- bytes taken, the note's number and place (0 where there is none), 0
unfoldable pub feeding_report : Feeding → List ℕ
feeding_report f = f.taken ∷ value 0 (report f.answer) ∷ value 1 (report f.answer) ∷ 0 ∷ []

-- a refused feeding writes neither state nor report
unfoldable pub feeding_words : Feeding → List ℕ → List ℕ → Called
feeding_words f state told =
    called
    (report f.answer).number
    (cond (refusal f.answer) state (state_words f.machine.printer))
    f.machine.page
    f.machine.line
    f.machine.staging
    f.machine.store
    (cond (refusal f.answer) told (feeding_report f))

-- 10, also for what is no state; 11 to 15; then 22, which takes no byte and writes nothing; then bytes
unfoldable pub feed_call : List ℕ → List ℕ → List ℕ → List ℕ → List ℕ → List ℕ → List ℕ → List ℕ → Called
feed_call font piece state page line staging store told =
    let p : Printer = state_of state in
    let f : Feeding = feeding (edition_of p) font piece (machine p page line staging store) in
    cond (is_state state)
    (cond (eqb (length told) report_size) (feeding_words f state told) (called (refused_or 22 f.answer) state page line staging store told))
    (called 10 state page line staging store told)

abbrev pub feed_call_in : List ℕ → List ℕ → Memory → List ℕ → Called
feed_call_in piece state m told = feed_call m.font.now piece state m.page.now m.line.now m.staging.now m.store.now told
