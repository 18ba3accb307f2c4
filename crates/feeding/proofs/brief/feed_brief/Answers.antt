-- `brief::feed_brief`: what is refused, or is no character or column, is left as it is; no byte, and one that goes on a run, is fed as `feeding` feeds it.
use Prim.Native.Nat.{ℕ, ◌≤◌, ◌<◌}
use mathlib.Core.Bool.{true}
use mathlib.Core.List.{List}
use mathlib.Core.Path.{◌≡◌, refl, ap, subst, sym, ◌∙◌}
use native.Mathlib.Omega.{arith}
use lib.ListN.{get_or, length}
use Rattle.sheet.proofs.Editions.{described_proper}
use Rattle.printer.specs.declared.Printer.{Printer}
use Rattle.printer.specs.Given.{machine}
use Rattle.printer.specs.Machine.{Machine, edition_of, limit, store_size}
use Rattle.printer.specs.Room.{Ready}
use Rattle.job.proofs.Underway.{writable}
use Rattle.words.specs.Words.{at_rest, state_words}
use Rattle.words.proofs.Resting.{rest_length, rest_words}
use Rattle.feeding.specs.Feeding.{Called}
use Rattle.feeding.proofs.Feeding.{Lent, RanTo, at_feed, byte_fed, byte_left, byte_room, no_byte, none_fed, one_byte}
use Rattle.feeding.proofs.brief.feed_brief.Goals as goal
use Rattle.feeding.proofs.brief.feed_brief.Goals.{After-single, After-state_with-p, Else-not-at_rest, Else-not-brief, Else-not-feedable, Start}

abbrev lent : Start → Lent
lent s =
    let a = s.args in
    let m = a.memory.now in
    record { state = a.state.now; page = m.page.now; line = m.line.now; staging = m.staging.now; store = m.store.now; font = m.font.now }

-- the byte of a piece that has one
abbrev byte : Start → ℕ
byte s = get_or s.args.piece.now 0 0

abbrev told : Start → List ℕ
told s = s.args.report.now

-- past the first test the piece has one byte at most
short : (c : Else-not-brief) → length c.args.piece.now ≤ 1
short c = c.brief.ensures c.if-not-brief.false

-- past the third test the words are at rest, past the fourth the machine is ready
rests : (c : Else-not-at_rest) → at_rest (lent (goal.at.Else-not-at_rest c).Start).state ≡ true
rests c = sym c.at_rest.ensures ∙ c.if-not-at_rest.false

-- what feeding a piece is to give
abbrev fed-piece : Start → List ℕ → Called
fed-piece s piece = at_feed (lent s) piece (told s)

abbrev fed-to : Printer → Start → Machine
fed-to p s = let a = lent s in machine p a.page a.line a.staging a.store

ready : (c : Else-not-feedable) → let p = c.state_with-p.result in
    Ready (edition_of p) (fed-to p (goal.at.Else-not-feedable c).Start) × (length (lent (goal.at.Else-not-feedable c).Start).font ≡ store_size)
ready c = c.feedable.ensures c.if-not-feedable.false

-- the byte's run, of the machine that was lent
ran : (c : After-single) → let s = (goal.at.After-single c).Start in
    let p = c.state_with-p.result in
    RanTo (lent s) (byte s) p c.single.result c.single.new.line
ran c = let s = (goal.at.After-single c).Start in c.single.ensures (lent s).page (lent s).staging

pub single-requires : goal.single-requires
single-requires c =
    let h = ready (goal.at.single-requires c).Else-not-feedable in (
      ap (λ (q : Printer). q.pending) c.state_with-p.ensures,
      writable (described_proper c.state_with-p.result.model) h.0 h.1,
    )

-- the state is the one that the words hold, and they are its words
words-held : (c : After-state_with-p) → (lent (goal.at.After-state_with-p c).Start).state ≡ state_words c.state_with-p.result
words-held c = rest_words _ (rests (goal.at.After-state_with-p c).Else-not-at_rest) ∙ ap state_words (sym c.state_with-p.ensures)

pub advance-requires : goal.advance-requires
advance-requires c =
    let s = (goal.at.advance-requires c).Start in (
      rest_length _ (rests (goal.at.advance-requires c).Else-not-at_rest),
      subst (λ (n : ℕ). n < limit) (ap (λ (q : Printer). q.job) c.state_with-p.ensures)
          (byte_room (lent s) (byte s) _ _ _ (ran (goal.at.advance-requires c).After-single) c.in-Some.is),
    )

-- no byte, and so nothing to change
pub returns-then-piece-eq0-clause-done : goal.returns-then-piece-eq0-clause-done
returns-then-piece-eq0-clause-done c =
    let s = (goal.at.returns-then-piece-eq0-clause-done c).Start in
    let k = (goal.at.returns-then-piece-eq0-clause-done c).After-state_with-p in
    let fed =
    none_fed (lent s) (told s) (rests (goal.at.returns-then-piece-eq0-clause-done c).Else-not-at_rest) c.if-report-ne-REPORT_WORDS.false
    k.state_with-p.ensures (ready (goal.at.returns-then-piece-eq0-clause-done c).Else-not-feedable)
    (words-held k) c.tell.ensures in
    let none = no_byte s.args.piece.now c.if-piece-eq0.true in
    λ q. (fed.0 ∙ ap (fed-piece s) (sym none), fed.1 (omega arith))

pub returns-in-None-clause-undone : goal.returns-in-None-clause-undone
returns-in-None-clause-undone c =
    let s = (goal.at.returns-in-None-clause-undone c).Start in
    let k = (goal.at.returns-in-None-clause-undone c).After-single in
    λ q. (refl, rw (byte_left (lent s) (byte s) _ _ _ (ran k) c.in-None.is) (refl {a = c.args.memory.now}), refl)

pub returns-in-Some-clause-done : goal.returns-in-Some-clause-done
returns-in-Some-clause-done c =
    let s = (goal.at.returns-in-Some-clause-done c).Start in
    let k = (goal.at.returns-in-Some-clause-done c).After-state_with-p in
    let fed =
    byte_fed (lent s) (byte s) _ _ _ (ran (goal.at.returns-in-Some-clause-done c).After-single) c.in-Some.is (told s)
    (rests (goal.at.returns-in-Some-clause-done c).Else-not-at_rest)
    c.if-report-ne-REPORT_WORDS.false k.state_with-p.ensures (described_proper k.state_with-p.result.model)
    (ready (goal.at.returns-in-Some-clause-done c).Else-not-feedable)
    (c.advance.ensures k.state_with-p.result (words-held k)) c.tell-in-Some.ensures in
    let one = one_byte s.args.piece.now (short (goal.at.returns-in-Some-clause-done c).Else-not-brief) c.if-piece-eq0.false in
    λ q. (fed.0 ∙ ap (fed-piece s) (sym one), fed.1 (omega arith))
