-- `calls::open_model`: a state of the right length gets the words of what `open` gives back, which are a state; with a wrong one nothing is
-- written, and what opening refuses besides is answered first.
use Prim.Native.Nat.{ℕ}
use mathlib.Core.Bool.{true}
use mathlib.Core.List.{List, []}
use mathlib.Core.Path.{◌≡◌, sym, ◌∙◌}
use native.Mathlib.Omega.{arith}
use Rattle.printer.proofs.Lending.{lent_here}
use Rattle.printer.specs.Machine.{shut}
use Rattle.protocol.specs.Answers.{report}
use Rattle.protocol.specs.Calls.{Opening}
use Rattle.protocol.specs.Given.{opening_in}
use Rattle.feeding.specs.Feeding.{called}
use Rattle.feeding.proofs.Feeding.{Lent}
use Rattle.words.specs.Words.{is_state, state_words}
use Rattle.clocktoad.proofs.Calling.{Opens, new_given, open_unkept, opens, shut_given}
use Rattle.clocktoad.proofs.calls.open_model.Goals as goal
use Rattle.clocktoad.proofs.calls.open_model.Goals.{After-open-opened, Start}

abbrev lent : Start → Lent
lent s =
    let a = s.args in
    let m = a.memory.now in
    record { state = a.state.now; page = m.page.now; line = m.line.now; staging = m.staging.now; store = m.store.now; font = m.font.now }

-- what `open` gave back; its first three arguments are a model and two numbers
abbrev opened : After-open-opened → Opening
opened c = opening_in c.open-opened.result c.open-opened.new.memory

pub returns-then-state-ne-STATE_WORDS : goal.returns-then-state-ne-STATE_WORDS
returns-then-state-ne-STATE_WORDS c =
    let s = (goal.at.returns-then-state-ne-STATE_WORDS c).Start in
    let whole = open_unkept s.args.model s.args.lines s.args.spacing (lent s) (λ q. omega (arith, c.if-state-ne-STATE_WORDS.true))
    c.refused_or.ensures (c.admit-answer.ensures (shut s.args.model)) in record { outcome = whole.0; sound = whole.1; lent = lent_here s.args.memory.now }

-- an opening that gives those words is the one asked for
kept : (c : After-open-opened) {words : List ℕ} {number : ℕ}
    → (words ≡ state_words (opened c).machine.printer) × (is_state words ≡ true)
    → number ≡ (report c.open-opened.result.answer).number
    → let s = (goal.at.After-open-opened c).Start in let o = opened c in
    Opens s.args.model s.args.lines s.args.spacing (lent s)
    (called number words o.machine.page o.machine.line o.machine.staging o.machine.store [])
kept c w n =
    let s = (goal.at.After-open-opened c).Start in
    opens s.args.model s.args.lines s.args.spacing (lent s) (opened c) (omega (arith, c.if-state-ne-STATE_WORDS.false))
    (c.open-opened.ensures.opened (shut s.args.model)) w n

pub returns-then-refusal : goal.returns-then-refusal
returns-then-refusal c =
    let s = (goal.at.returns-then-refusal c).Start in
    let o = (goal.at.returns-then-refusal c).After-open-opened in
    let a = s.args in
    let whole = kept o
    (shut_given a.model a.lines a.spacing (lent s) (opened o) (o.open-opened.ensures.opened (shut a.model))
    (sym c.refusal.ensures ∙ c.if-refusal.true) (c.put_new.ensures.written, c.put_new.ensures.sound))
    c.answer_number.ensures in record { outcome = whole.0; sound = whole.1; lent = o.open-opened.ensures.lent }

pub returns : goal.returns
returns c =
    let s = (goal.at.returns c).Start in
    let o = (goal.at.returns c).After-open-opened in
    let a = s.args in
    let whole = kept o
    (new_given a.model a.lines a.spacing (lent s) (opened o) (o.open-opened.ensures.opened (shut a.model))
    (sym c.refusal.ensures ∙ c.if-refusal.false) (c.put_new-2.ensures.written, c.put_new-2.ensures.sound))
    c.answer_number-2.ensures in record { outcome = whole.0; sound = whole.1; lent = o.open-opened.ensures.lent }
