-- `calls::open`: what is refused is answered with the shut state, over the memory as it was lent; what is not starts a job.
use native.Mathlib.Omega.{arith}
use mathlib.Core.Path.{ap, sym, ◌∙◌}
use Rattle.sheet.specs.declared.Form.{Form}
use Rattle.printer.specs.declared.Printer.{Printer}
use Rattle.printer.specs.Given.{machine_in}
use Rattle.printer.specs.Machine.{Machine, opened, shut}
use Rattle.protocol.specs.declared.Answer.TheVariants.{Done}
use Rattle.protocol.proofs.Ways.{Admitted, open_admitted}
use Rattle.job.proofs.calls.open.Goals as goal
use Rattle.job.proofs.calls.open.Goals.{Else-refusal, Start}

-- the memory lent, under a state that doesn't count
abbrev lent : Start → Printer → Machine
lent c p = machine_in p c.args.memory.now

-- past the test all fits
fits : (c : Else-refusal) (p : Printer) → let s = (goal.at.Else-refusal c).Start in
    Admitted s.args.model s.args.lines s.args.spacing s.args.memory.now.font.now (lent s p)
fits c p =
    let s = (goal.at.Else-refusal c).Start in
    open_admitted s.args.model s.args.lines s.args.spacing s.args.memory.now.font.now (lent s p)
    (c.admit-answer.ensures p) (sym c.refusal.ensures ∙ c.if-refusal.false)

pub start-requires : goal.start-requires
start-requires c =
    rw c.new_form.ensures
    (record {
      top = (omega arith, omega arith);
      sized = (fits (goal.at.start-requires c).Else-refusal (shut c.args.model)).memory;
    })

pub returns-clause-opened : goal.returns-clause-opened
returns-clause-opened c p =
    let w = c.args.model in
    rw c.start.ensures.opened
    (ap (λ (f : Form). record { answer = Done; machine = opened w f }) c.new_form.ensures
    ∙ (fits (goal.at.returns-clause-opened c).Else-refusal p).opens)
