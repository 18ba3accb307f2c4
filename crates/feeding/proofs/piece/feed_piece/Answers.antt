-- `piece::feed_piece`: what is no state is 10; with a report of the wrong length nothing is fed; what passes both is fed, kept and told as `feed`
-- gives it, but for a refusal, which writes neither state nor report.
use Prim.Native.Nat.{ℕ}
use mathlib.Core.Bool.{true}
use mathlib.Core.List.{List}
use mathlib.Core.Path.{◌≡◌, sym, ◌∙◌}
use lib.ListN.{length}
use Rattle.protocol.specs.Calls.{Feeding}
use Rattle.protocol.specs.Given.{feeding_in}
use Rattle.feeding.specs.Feeding.{feeding_words, report_size}
use Rattle.words.specs.Words.{is_state}
use Rattle.words.proofs.Reading.{read_whole}
use Rattle.feeding.proofs.Feeding.{Lent, at_feed, fed_on, fed_refused, feeds}
use Rattle.feeding.proofs.piece.feed_piece.Goals as goal
use Rattle.feeding.proofs.piece.feed_piece.Goals.{After-feed-fed, Else-not-is_state, Else-report-ne-REPORT_WORDS, Start}

abbrev lent : Start → Lent
lent s =
    let a = s.args in
    let m = a.memory.now in
    record { state = a.state.now; page = m.page.now; line = m.line.now; staging = m.staging.now; store = m.store.now; font = m.font.now }

abbrev piece : Start → List ℕ
piece s = s.args.piece.now

abbrev told : Start → List ℕ
told s = s.args.report.now

-- past the first test the words are a state, past the second the report has its length
held : (c : Else-not-is_state) → is_state (lent (goal.at.Else-not-is_state c).Start).state ≡ true
held c = sym c.is_state.ensures ∙ c.if-not-is_state.false

report-right : (c : Else-report-ne-REPORT_WORDS) → length (told (goal.at.Else-report-ne-REPORT_WORDS c).Start) ≡ report_size
report-right c = c.if-report-ne-REPORT_WORDS.false

-- what `feed` gave back; its first two arguments are the state and the piece
abbrev fed : After-feed-fed → Feeding
fed c = feeding_in c.feed-fed.result c.feed-fed.new.memory

fed-as-asked : (c : After-feed-fed)
    → let s = (goal.at.After-feed-fed c).Start in feeding_words (fed c) (lent s).state (told s) ≡ at_feed (lent s) (piece s) (told s)
fed-as-asked c =
    let s = (goal.at.After-feed-fed c).Start in
    let p = read_whole (lent s).state c.pending_read.ensures c.state_with-p.ensures in
    feeds (lent s) (piece s) (told s) (held (goal.at.After-feed-fed c).Else-not-is_state) p (fed c)
    (report-right (goal.at.After-feed-fed c).Else-report-ne-REPORT_WORDS) c.feed-fed.ensures.fed

pub returns-then-refusal : goal.returns-then-refusal
returns-then-refusal c =
    let s = (goal.at.returns-then-refusal c).Start in
    let f = (goal.at.returns-then-refusal c).After-feed-fed in
    let whole = fed_refused (lent s) (piece s) (told s) (fed f) (fed-as-asked f) c.answer_number.ensures c.refusal.ensures c.if-refusal.true
    in record { outcome = whole.0; sound = whole.1; lent = f.feed-fed.ensures.lent }

pub returns : goal.returns
returns c =
    let s = (goal.at.returns c).Start in
    let f = (goal.at.returns c).After-feed-fed in
    let whole = fed_on (lent s) (piece s) (told s) (fed f) (fed-as-asked f) c.answer_number-2.ensures c.refusal.ensures
    c.if-refusal.false (c.put.ensures.written, c.put.ensures.sound) c.tell.ensures
    c.noted_number.ensures c.noted_place.ensures in record { outcome = whole.0; sound = whole.1; lent = f.feed-fed.ensures.lent }
