-- `calls::take_bytes` meets its contract. The loop keeps `Underway`: to take the whole piece from the first machine is to take what is left of it from
-- the present one. A run and a quiet byte lead on; the piece's end, the job's limit and a byte that has something to tell end it as they end
-- `take_bytes`.
use borrow.Author.Rules.{rules}
use Prim.Native.Nat.{ℕ, ◌+◌, ◌<◌, ◌^◌}
use mathlib.Core.Path.{◌≡◌, sym, ◌∙◌}
use native.Mathlib.Omega.{arith}
use lib.ListN.{get_or, length}
use Rattle.sheet.proofs.Editions.{described_proper}
use Rattle.printer.proofs.Lending.{same_font}
use Rattle.printer.specs.Bytes.{step}
use Rattle.printer.specs.Given.{given_in, machine, machine_in}
use Rattle.printer.specs.Machine.{Machine, edition_of, limit}
use Rattle.printer.specs.Steps.{Step}
use Rattle.protocol.proofs.Taking.{ready_room}
use Rattle.runs.proofs.Leading.{run_leads}
use Rattle.job.proofs.Underway.{Underway, after_run, after_step, at_limit, ready_here, told, used_up, writable}
use Rattle.job.proofs.calls.take_bytes.Goals as goal
use Rattle.job.proofs.calls.take_bytes.Goals.{After-run-ran, After-step-s, Else-after, Else-at-piece, In-loop-i, Start}

-- the machine that the call was given, the one after a run, and the step after it
abbrev first : Start → Machine
first c = machine_in c.args.p c.args.memory.now

abbrev ran_to : After-run-ran → Machine
ran_to c =
    let m = c.loop-i.memory in machine c.run-ran.result.printer m.page.now c.run-ran.new.line c.run-ran.new.staging m.store.now

abbrev stepped : After-step-s → Step
stepped c = given_in c.step-s.result c.step-s.new.memory

-- how much of the piece is taken with the run
abbrev so_far : After-run-ran → ℕ
so_far c = c.loop-i.i + c.run-ran.result.taken

-- the font is the one that was lent
font-here : (c : In-loop-i) → c.loop-i.memory.font.now ≡ c.args.memory.now.font.now
font-here c = same_font c.args.memory.now c.loop-i.memory c.loop-i.invariant.lent

-- the run leads on
ran : (c : After-run-ran) → let s = (goal.at.After-run-ran c).Start in
    Underway (edition_of s.args.p) s.args.memory.now.font.now s.args.piece.now (first s) (ran_to c) (so_far c)
ran c =
    let l = c.loop-i in
    after_run l.invariant.underway (run_leads (edition_of l.q) (described_proper l.q.model) _ {m = machine_in l.q l.memory}
    (rw (← font-here (goal.at.After-run-ran c).In-loop-i) (c.run-ran.ensures l.memory.page.now)))

-- it is the definition's
step-made : (c : After-step-s) → let r = (goal.at.After-step-s c).After-run-ran in
    stepped c ≡ step (edition_of (ran_to r).printer) c.args.memory.now.font.now (get_or c.args.piece.now (so_far r) 0) (ran_to r)
step-made c = rw (← font-here (goal.at.After-step-s c).In-loop-i) c.step-s.ensures.stepped

-- past the first test there is a byte more, and past the second the job has room for it
more : (c : Else-at-piece) → so_far (goal.at.Else-at-piece c).After-run-ran < length c.args.piece.now
more c = omega (arith, (ran (goal.at.Else-at-piece c).After-run-ran).within, c.if-at-piece.false)

room : (c : Else-after) → (ran_to (goal.at.Else-after c).After-run-ran).printer.job < limit
room c = let fits : (ran_to (goal.at.Else-after c).After-run-ran).printer.job < 2 ^ 32 = search rules in omega (arith, c.if-after.false, fits)

pub run-ran-requires : goal.run-ran-requires
run-ran-requires c =
    let l = c.loop-i in writable (described_proper l.q.model) (ready_here l.invariant.underway)
    (rw (font-here (goal.at.run-ran-requires c).In-loop-i) c.requires.1)

pub overflow_add-at : goal.overflow_add-at
overflow_add-at c = omega (arith, (ran (goal.at.overflow_add-at c).After-run-ran).within, (goal.at.overflow_add-at c).Start)

pub returns-then-at-piece-clause-fed : goal.returns-then-at-piece-clause-fed
returns-then-at-piece-clause-fed c =
    simp c.given.ensures (sym
    (used_up {m = ran_to (goal.at.returns-then-at-piece-clause-fed c).After-run-ran} (ran (goal.at.returns-then-at-piece-clause-fed c).After-run-ran)
    (omega (arith, c.if-at-piece.true))))

pub returns-then-after-clause-fed : goal.returns-then-after-clause-fed
returns-then-after-clause-fed c =
    simp c.given-then-after.ensures
    (sym (at_limit {m = ran_to (goal.at.returns-then-after-clause-fed c).After-run-ran} (ran (goal.at.returns-then-after-clause-fed c).After-run-ran)
    (more (goal.at.returns-then-after-clause-fed c).Else-at-piece) c.if-after.true))

pub bounds-piece-at : goal.bounds-piece-at
bounds-piece-at c = more (goal.at.bounds-piece-at c).Else-at-piece

pub step-s-requires : goal.step-s-requires
step-s-requires c =
    let r = (goal.at.step-s-requires c).After-run-ran in (
      ready_room (described_proper (ran_to r).printer.model) (ready_here (ran r)) (rw (font-here (goal.at.step-s-requires c).In-loop-i)
          c.requires.1),
      room (goal.at.step-s-requires c).Else-after,
    )

pub answer_to-requires : goal.answer_to-requires
answer_to-requires c = omega (arith, more (goal.at.answer_to-requires c).Else-at-piece, (goal.at.answer_to-requires c).Start)

pub returns-then-not-is_quiet-clause-fed : goal.returns-then-not-is_quiet-clause-fed
returns-then-not-is_quiet-clause-fed c =
    let s = (goal.at.returns-then-not-is_quiet-clause-fed c).After-step-s in
    simp c.answer_to.ensures
    (sym (told {m = ran_to (goal.at.After-step-s s).After-run-ran} (ran (goal.at.After-step-s s).After-run-ran)
    (more (goal.at.After-step-s s).Else-at-piece) (room (goal.at.After-step-s s).Else-after) (stepped s) (step-made s)
    (sym c.is_quiet.ensures ∙ c.if-not-is_quiet.true)))

pub overflow_add-i : goal.overflow_add-i
overflow_add-i c = omega (arith, more (goal.at.overflow_add-i c).Else-at-piece, (goal.at.overflow_add-i c).Start)

pub loop-i-preserved : goal.loop-i-preserved
loop-i-preserved c =
    let s = (goal.at.loop-i-preserved c).After-step-s in
    let h = s.loop-i.invariant.lent in
    let k = s.step-s.ensures.lent in
    record {
      underway =
          after_step {m = ran_to (goal.at.After-step-s s).After-run-ran} (ran (goal.at.After-step-s s).After-run-ran)
          (more (goal.at.After-step-s s).Else-at-piece) (room (goal.at.After-step-s s).Else-after) (stepped s) (step-made s)
          (described_proper c.args.p.model)
          (sym c.is_quiet.ensures ∙ c.if-not-is_quiet.false);
      lent = (
        k.0 ∙ h.0,
        k.1 ∙ h.1,
        k.2 ∙ h.2,
        k.3 ∙ h.3,
        k.4 ∙ h.4,
        k.5 ∙ h.5,
        k.6 ∙ s.run-ran.auto.line ∙ h.6,
        k.7 ∙ s.run-ran.auto.staging ∙ h.7,
        k.8 ∙ h.8,
      );
    }

pub returns-clause-fed : goal.returns-clause-fed
returns-clause-fed c = simp c.given-2.ensures (sym (used_up c.loop-i.invariant.underway c.loop-i-test.false))
