-- What each way through feeding comes to.
use Prim.Native.Nat.{ℕ, ◌≤◌, ◌<◌}
use mathlib.Core.Bool.{Bool, true, false, true≢false}
use mathlib.Core.List.{List, [], ◌∷◌}
use mathlib.Core.Path.{◌≡◌, refl, ap, subst, sym, ◌∙◌}
use native.Mathlib.Omega.{arith}
use borrow.Author.Tests.{eq-eqb}
use lib.ListN.{get_or, length}
use Rattle.sheet.specs.Edition.{Edition}
use Rattle.sheet.proofs.Editions.{Proper}
use Rattle.printer.specs.declared.Pending.TheVariants.{Nothing}
use Rattle.printer.specs.declared.Printer.{Printer}
use Rattle.printer.specs.Given.{machine, moved}
use Rattle.printer.specs.Machine.{Machine, edition_of, limit, store_size}
use Rattle.printer.specs.Numbers.{value}
use Rattle.printer.specs.Room.{Ready}
use Rattle.printer.specs.Sound.{sound}
use Rattle.protocol.specs.declared.Answer.{Answer}
use Rattle.protocol.specs.declared.Answer.TheVariants.{Done, Finished, Noted, JobFull, Unsound, Misfit, WrongLines, WrongSpacing}
use Rattle.std.specs.Prelude.{None, Ok, Option, Some}
use Rattle.protocol.specs.declared.Lent.TheVariants.{Page, LineStore, Staging, DownloadStore, Font}
use Rattle.protocol.specs.Answers.{lent_number, refusal, report}
use Rattle.protocol.specs.Calls.{Fit, Feeding, feed_fitted, feeding, fit, take_bytes}
use Rattle.protocol.proofs.Accepted.{takes_fed}
use Rattle.protocol.proofs.Answering.{taking_heeds}
use Rattle.protocol.proofs.Ways.{feed_unsound}
use Rattle.runs.specs.Runs.{given_run, reached, running}
use Rattle.runs.proofs.Leading.{run_leads}
use Rattle.runs.proofs.Running.{room-taken, stays_put}
use Rattle.words.specs.Words.{Ranged, at_rest, is_state, state_of, state_with, state_words}
use Rattle.words.proofs.Kept.{put_is_state}
use Rattle.words.proofs.Resting.{rest_is_state, rest_state}
use Rattle.feeding.specs.Feeding.{Called, called, feed_call, feeding_report, feeding_words, refused_or, report_size}

-- the memory that opening and feeding are lent, with the state
pub record Lent : Type 0 where
  pub state : List ℕ
  pub page : List ℕ
  pub line : List ℕ
  pub staging : List ℕ
  pub store : List ℕ
  pub font : List ℕ

-- a call that leaves all that it was lent as it is
abbrev pub left_alone : Lent → ℕ → List ℕ → Called
left_alone x number told = called number x.state x.page x.line x.staging x.store told

-- a refusal has a number of its own
pub refusal_numbers : (a : Answer) → refusal a ≡ true → 10 ≤ (report a).number
unfolding refusal report lent_number
refusal_numbers Done q = absurd (true≢false (sym q))
refusal_numbers Finished q = absurd (true≢false (sym q))
refusal_numbers (Noted f place) q = absurd (true≢false (sym q))
refusal_numbers JobFull q = absurd (true≢false (sym q))
refusal_numbers Unsound q = omega arith
refusal_numbers (Misfit Page) q = omega arith
refusal_numbers (Misfit LineStore) q = omega arith
refusal_numbers (Misfit Staging) q = omega arith
refusal_numbers (Misfit DownloadStore) q = omega arith
refusal_numbers (Misfit Font) q = omega arith
refusal_numbers WrongLines q = omega arith
refusal_numbers WrongSpacing q = omega arith

-- A report of the wrong length comes after all that feeding refuses besides.
module _ (e : Edition) (font piece : List ℕ) (m : Machine) where
  abbrev unheard : Feeding → ℕ
  unheard f = refused_or 22 f.answer

  pub unsound_first : sound e m.printer ≡ false → 10 ≡ unheard (feeding e font piece m)
  unfolding refused_or refusal report
  unsound_first s = ap unheard (feed_unsound e font piece m s)

  module _ (s : sound e m.printer ≡ true) {tested : Fit} (is : tested ≡ fit e m.printer.form font m) where
    pub report_last : tested ≡ (Ok tt) → 22 ≡ unheard (feeding e font piece m)
    unfolding refused_or feeding feed_fitted
    report_last r = rw (s, ← is, r, taking_heeds e font piece m)

module _ (x : Lent) (piece told : List ℕ) where
  abbrev pub at_feed : Called
  at_feed = feed_call x.font piece x.state x.page x.line x.staging x.store told

  -- what feeding is to give, and a state with it up to number 3
  abbrev pub Feeds : Called → Type 0
  Feeds g = (g ≡ at_feed) × (g.number ≤ 3 → is_state g.state ≡ true)

  module _ (q : is_state x.state ≡ true) {p : Printer} (s : p ≡ state_of x.state) where
    abbrev lent_to : Machine
    lent_to = machine p x.page x.line x.staging x.store

    pub feeds : (f : Feeding) → length told ≡ report_size → f ≡ feeding (edition_of p) x.font piece lent_to
        → feeding_words f x.state told ≡ at_feed
    unfolding feed_call
    feeds f k e = simp (eq-eqb (length told) report_size k, q, e, s)

  -- a refused feeding, and one that is not
  module _ (f : Feeding) {number : ℕ} {no : Bool} (e : feeding_words f x.state told ≡ at_feed) (n : number ≡ (report f.answer).number)
      (r : no ≡ refusal f.answer) where
    pub fed_refused : no ≡ true
        → Feeds (called number x.state f.machine.page f.machine.line f.machine.staging f.machine.store told)
    unfolding feeding_words
    fed_refused q =
        let refused : refusal f.answer ≡ true = sym r ∙ q in
        (rw (← e, refused, n), λ m. absurd (omega (arith, refusal_numbers f.answer refused)))

    pub fed_on : {words written : List ℕ} {note place : ℕ} → no ≡ false
        → (words ≡ state_words f.machine.printer) × (is_state words ≡ true)
        → written ≡ f.taken ∷ note ∷ place ∷ 0 ∷ []
        → note ≡ value 0 (report f.answer)
        → place ≡ value 1 (report f.answer)
        → Feeds (called number words f.machine.page f.machine.line f.machine.staging f.machine.store written)
    unfolding feeding_words feeding_report
    fed_on q w s a b =
        let heeded : refusal f.answer ≡ false = sym r ∙ q in
        (rw (← e, heeded, n, w.0, s, a, b), λ m. w.1)

-- a piece of no byte, and of one
pub no_byte : (piece : List ℕ) → length piece ≡ 0 → piece ≡ []
no_byte [] l = refl
no_byte (b ∷ bs) l = absurd (omega arith)

pub one_byte : (piece : List ℕ) → length piece ≤ 1 → (length piece ≡ 0 → ⊥) → piece ≡ get_or piece 0 0 ∷ []
one_byte [] most some = absurd (some refl)
one_byte (b ∷ []) most some = refl
one_byte (b ∷ c ∷ bs) most some = absurd (omega arith)

-- No byte fed to words at rest.
pub none_fed : (x : Lent) (told : List ℕ) {p : Printer} {written : List ℕ} → at_rest x.state ≡ true → length told ≡ report_size
    → p ≡ state_with x.state Nothing
    → Ready (edition_of p) (machine p x.page x.line x.staging x.store) × (length x.font ≡ store_size)
    → x.state ≡ state_words p → written ≡ 0 ∷ 0 ∷ 0 ∷ 0 ∷ []
    → Feeds x [] told (called 0 x.state x.page x.line x.staging x.store written)
unfolding refusal report take_bytes
none_fed x told {p} rests k s ready w t =
    let held = rest_is_state x.state rests in
    let whole = s ∙ sym (rest_state x.state rests) in
    let fed : Feeding = record { answer = Done; taken = 0; machine = machine p x.page x.line x.staging x.store } in
    fed_on x [] told fed (feeds x [] told held whole fed k (takes_fed ready.0 x.font ready.1 [] fed refl)) refl refl refl (w, held) t refl refl

-- A byte fed to words at rest, by where it has brought the head.
module _ (x : Lent) (b : ℕ) (p : Printer) (r : Option ℕ) (after : List ℕ) where
  abbrev lent_at : Machine
  lent_at = machine p x.page x.line x.staging x.store

  abbrev pub RanTo : Type 0
  RanTo = given_run (reached r p) x.page after x.staging x.store ≡ running (edition_of p) x.font (b ∷ []) lent_at

  -- nowhere: the line is as it was
  pub byte_left : RanTo → r ≡ None → after ≡ x.line
  unfolding reached
  byte_left ran is =
      ap (λ (m : Machine). m.line)
      (stays_put (edition_of p) x.font b lent_at (given_run (reached r p) x.page after x.staging x.store) ran
      (ap (λ (q : Option ℕ). (reached q p).taken) is))

  -- to a column: in a job that has room for it
  pub byte_room : {column : ℕ} → RanTo → r ≡ Some column → p.job < limit
  unfolding reached
  byte_room ran is =
      room-taken (edition_of p) x.font b lent_at (given_run (reached r p) x.page after x.staging x.store) ran
      (omega (arith, ap (λ (q : Option ℕ). (reached q p).taken) is))

  -- it is fed, and the words change as the state does
  module _ {column : ℕ} (ran : RanTo) (is : r ≡ Some column) where
    abbrev fed : Feeding
    fed = record { answer = Done; taken = 1; machine = machine (moved column p) x.page after x.staging x.store }

    byte_taken : Proper (edition_of p) → Ready (edition_of p) lent_at → length x.font ≡ store_size
        → fed ≡ feeding (edition_of p) x.font (b ∷ []) lent_at
    unfolding reached take_bytes
    byte_taken proper ready f =
        let there : given_run (reached (Some column) p) x.page after x.staging x.store ≡ running (edition_of p) x.font (b ∷ []) lent_at =
        subst (λ (q : Option ℕ). given_run (reached q p) x.page after x.staging x.store
        ≡ running (edition_of p) x.font (b ∷ []) lent_at) is ran in
        takes_fed ready x.font f (b ∷ []) fed (sym (run_leads (edition_of p) proper x.font {m = lent_at} there).same)

    pub byte_fed : (told : List ℕ) {words written : List ℕ} → at_rest x.state ≡ true → length told ≡ report_size
        → p ≡ state_with x.state Nothing → Proper (edition_of p) → Ready (edition_of p) lent_at × (length x.font ≡ store_size)
        → words ≡ state_words (moved column p) → written ≡ 1 ∷ 0 ∷ 0 ∷ 0 ∷ []
        → Feeds x (b ∷ []) told (called 0 words x.page after x.staging x.store written)
    unfolding refusal report
    byte_fed told rests k s proper ready w t =
        let held = rest_is_state x.state rests in
        let whole = s ∙ sym (rest_state x.state rests) in
        let nothing : p.pending ≡ Nothing = ap (λ (q : Printer). q.pending) s in
        let room = byte_room ran is in
        let kept = ap is_state w ∙ put_is_state (moved column p) (omega arith) (subst Ranged (sym nothing) tt) in
        fed_on x (b ∷ []) told fed (feeds x (b ∷ []) told held whole fed k (byte_taken proper ready.0 ready.1)) refl refl refl (w, kept) t refl refl
