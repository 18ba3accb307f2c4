-- What document 01 says under its table of answers, and that no answer has the number that document 02 retired.
use Prim.Native.Nat.{ℕ, suc, ◌+◌, ◌≤◌, ◌<◌}
use mathlib.Core.Bool.{Bool, true, false, cond, true≢false}
use mathlib.Core.List.{List, [], ◌∷◌}
use mathlib.Core.Path.{◌≡◌, refl, sym, ap, ◌∙◌}
use native.Mathlib.Omega.{arith}
use borrow.Author.Tests.{lt-ltb}
use lib.Dec.{ltb}
use lib.ListN.{length}
use Rattle.sheet.specs.declared.Form.{Form}
use Rattle.sheet.specs.declared.Model.{Model}
use Rattle.sheet.specs.Edition.{Edition, described}
use Rattle.sheet.specs.Form.{lines_allowed, new_form, spacing_allowed}
use Rattle.printer.specs.declared.Closing.{Closing}
use Rattle.printer.specs.declared.Closing.TheVariants as closing
use Rattle.printer.specs.declared.Event.{Event}
use Rattle.printer.specs.declared.Event.TheVariants as event
use Rattle.printer.specs.Bytes.{step}
use Rattle.printer.specs.Numbers.{Report, close_report, plain}
use Rattle.printer.specs.Machine.{Machine, limit, shut, with_printer}
use Rattle.printer.specs.Sound.{form_sound, sound}
use Rattle.printer.specs.Steps.{Step, tell, tell_step}
use Rattle.printer.proofs.Keeping.{step_counts}
use Rattle.protocol.specs.declared.Answer.{Answer}
use Rattle.protocol.specs.declared.Answer.TheVariants.{Done, Finished, Noted, JobFull, Unsound, Misfit, WrongLines, WrongSpacing}
use Rattle.std.specs.Prelude.{Err, Ok}
use Rattle.protocol.specs.declared.Lent.{Lent}
use Rattle.protocol.specs.declared.Lent.TheVariants.{Page, LineStore, Staging, DownloadStore, Font}
use Rattle.protocol.specs.Answers.{lent_number, refusal, report}
use Rattle.protocol.specs.Protocol.{used_up}
use Rattle.protocol.specs.Calls.{Fit, Feeding, Opening, feed_fitted, feeding, fit, heard, open_fitted, opening, stopped, take_bytes, unopened}

-- what does not fit has the numbers 11 to 15
lent_numbers : (lent : Lent) → (11 ≤ lent_number lent) × (lent_number lent ≤ 15)
unfolding lent_number
lent_numbers Page = (omega arith, omega arith)
lent_numbers LineStore = (omega arith, omega arith)
lent_numbers Staging = (omega arith, omega arith)
lent_numbers DownloadStore = (omega arith, omega arith)
lent_numbers Font = (omega arith, omega arith)

-- 0 is the number of one answer alone
pub numbered_0 : (a : Answer) → report a ≡ plain 0 → a ≡ Done
unfolding report
numbered_0 Done q = refl
numbered_0 Finished q = absurd (let n = ap (λ (r : Report). r.number) q in omega arith)
numbered_0 (Noted f place) q = absurd (let n = ap (λ (r : Report). r.number) q in omega arith)
numbered_0 JobFull q = absurd (let n = ap (λ (r : Report). r.number) q in omega arith)
numbered_0 Unsound q = absurd (let n = ap (λ (r : Report). r.number) q in omega arith)
numbered_0 (Misfit lent) q = absurd (let n = ap (λ (r : Report). r.number) q in omega (arith, lent_numbers lent))
numbered_0 WrongLines q = absurd (let n = ap (λ (r : Report). r.number) q in omega arith)
numbered_0 WrongSpacing q = absurd (let n = ap (λ (r : Report). r.number) q in omega arith)

-- A call that takes bytes of a piece of n is no refusal, keeps the model, counts the bytes that it takes, takes no more than there are, and all where
-- it answers 0.
record Taking (n : ℕ) (m : Machine) (f : Feeding) : Type 0 where
  model : f.machine.printer.model ≡ m.printer.model
  allowed : refusal f.answer ≡ false
  counted : f.machine.printer.job ≡ m.printer.job + f.taken
  within : f.taken ≤ n
  all : f.answer ≡ Done → f.taken ≡ n

-- an answer that is not 0
not_done : (a : Answer) → a ≡ Done → used_up a ≡ false → ⊥
not_done a d q = true≢false (sym (ap used_up d) ∙ q)

module _ (e : Edition) (font : List ℕ) where
  stopped_taking : (n : ℕ) (a : Answer) (m : Machine) → refusal a ≡ false → (a ≡ Done → 0 ≡ n) → Taking n m (stopped a m)
  stopped_taking n a m q all = record { model = refl; allowed = q; counted = omega arith; within = omega arith; all = all }

  heard_taking : (n : ℕ) (v : Event) (m x : Machine) (f : Feeding) → x.printer.model ≡ m.printer.model
      → x.printer.job ≡ m.printer.job + 1 → Taking n x f → Taking (suc n) m (heard v x f)
  unfolding heard refusal
  heard_taking n event.Quiet m x f w q k =
      record {
        model = k.model ∙ w;
        allowed = k.allowed;
        counted = omega (arith, k.counted);
        within = omega (arith, k.within);
        all = λ d. ap suc (k.all d);
      }
  heard_taking n event.Finished m x f w q k =
      record { model = w; allowed = refl; counted = q; within = omega arith; all = λ d. absurd (not_done Finished d refl) }
  heard_taking n (event.Noted g place) m x f w q k =
      record { model = w; allowed = refl; counted = q; within = omega arith; all = λ d. absurd (not_done (Noted g place) d refl) }

  taking_if : (n : ℕ) (m : Machine) (f : Feeding) (t : Bool) → Taking n m f → Taking n m (cond t f (stopped JobFull m))
  unfolding refusal
  taking_if n m f true k = k
  taking_if n m f false k = stopped_taking n JobFull m refl (λ d. absurd (not_done JobFull d refl))

  taking : (bs : List ℕ) (m : Machine) → Taking (length bs) m (take_bytes e font bs m)
  unfolding take_bytes refusal
  taking [] m = stopped_taking 0 Done m refl (λ _. refl)
  taking (b ∷ bs) m =
      let s : Step = step e font b m in
      taking_if (suc (length bs)) m _ (ltb m.printer.job limit)
      (heard_taking (length bs) s.event m s.machine _ (step_counts e font b m).model (step_counts e font b m).job (taking bs s.machine))

  -- bytes that are taken are not refused
  pub taking_heeds : (bs : List ℕ) (m : Machine) → refusal (take_bytes e font bs m).answer ≡ false
  taking_heeds bs m = (taking bs m).allowed

  -- a byte below the limit is taken
  heard_moves : (v : Event) (x : Machine) (f : Feeding) → 1 ≤ (heard v x f).taken
  unfolding heard
  heard_moves event.Quiet x f = omega arith
  heard_moves event.Finished x f = omega arith
  heard_moves (event.Noted g place) x f = omega arith

  moves : (b : ℕ) (bs : List ℕ) (m : Machine) → m.printer.job < limit → 1 ≤ (take_bytes e font (b ∷ bs) m).taken
  unfolding take_bytes
  moves b bs m l = rw (lt-ltb _ _ l) (heard_moves (step e font b m).event _ _)

-- what a feeding is: refused, with all as it came, or the bytes taken
data Fate (e : Edition) (font piece : List ℕ) (m : Machine) (f : Feeding) : Type 0 where
  refused : refusal f.answer ≡ true → f.taken ≡ 0 → f.machine ≡ m → Fate e font piece m f
  taken : f ≡ take_bytes e font piece m → Fate e font piece m f

module _ (e : Edition) (font piece : List ℕ) (m : Machine) where
  fitted_fate : (t : Fit) → Fate e font piece m (feed_fitted e font piece t m)
  unfolding feed_fitted refusal
  fitted_fate (Ok tt) = taken refl
  fitted_fate (Err lent) = refused refl refl refl

  tested_fate : (t : Bool) → Fate e font piece m (cond t (feed_fitted e font piece (fit e m.printer.form font m) m) (stopped Unsound m))
  unfolding refusal
  tested_fate true = fitted_fate (fit e m.printer.form font m)
  tested_fate false = refused refl refl refl

  fate : Fate e font piece m (feeding e font piece m)
  unfolding feeding
  fate = tested_fate (sound e m.printer)

-- Answers 10 to 15 give back every lent store, and the state, as they came, and take no byte.
module _ (e : Edition) (font piece : List ℕ) (m : Machine) where
  refused_unchanged : (f : Feeding) → Fate e font piece m f → refusal f.answer ≡ true → (f.taken ≡ 0) × (f.machine ≡ m)
  refused_unchanged f (refused r t q) h = (t, q)
  refused_unchanged f (taken q) h =
      absurd (true≢false (sym h ∙ ap (λ (g : Feeding). refusal g.answer) q ∙ (taking e font piece m).allowed))

  pub feeding_refused : refusal (feeding e font piece m).answer ≡ true → ((feeding e font piece m).taken ≡ 0) × ((feeding e font piece m).machine ≡ m)
  feeding_refused h = refused_unchanged _ (fate e font piece m) h

  -- no feeding changes the model
  model_kept : (f : Feeding) → Fate e font piece m f → f.machine.printer.model ≡ m.printer.model
  model_kept f (refused r t q) = ap (λ (x : Machine). x.printer.model) q
  model_kept f (taken q) = rw q (taking e font piece m).model

  pub feeding_model : (feeding e font piece m).machine.printer.model ≡ m.printer.model
  feeding_model = model_kept _ (fate e font piece m)

  -- every feeding counts the bytes that it takes, and takes no more than the piece has
  counts_taken : (f : Feeding) → Fate e font piece m f → (f.machine.printer.job ≡ m.printer.job + f.taken) × (f.taken ≤ length piece)
  counts_taken f (refused r t q) = (omega (arith, ap (λ (x : Machine). x.printer.job) q), omega arith)
  counts_taken f (taken q) = rw q ((taking e font piece m).counted, (taking e font piece m).within)

  pub feeding_counts :
      ((feeding e font piece m).machine.printer.job ≡ m.printer.job + (feeding e font piece m).taken) × ((feeding e font piece m).taken ≤ length piece)
  feeding_counts = counts_taken _ (fate e font piece m)

  -- answer 0 takes all of the piece
  takes_all : (f : Feeding) → Fate e font piece m f → f.answer ≡ Done → f.taken ≡ length piece
  unfolding refusal
  takes_all f (refused r t q) d = absurd (true≢false (sym r ∙ ap refusal d))
  takes_all f (taken q) d = ap (λ (g : Feeding). g.taken) q ∙ (taking e font piece m).all (sym (ap (λ (g : Feeding). g.answer) q) ∙ d)

  pub feeding_done : report (feeding e font piece m).answer ≡ plain 0 → (feeding e font piece m).taken ≡ length piece
  feeding_done d = takes_all _ (fate e font piece m) (numbered_0 _ d)

-- Unless it is refused, a feeding of a piece that is not empty, below the job limit, takes a byte at least.
module _ (e : Edition) (font : List ℕ) (b : ℕ) (bs : List ℕ) (m : Machine) where
  takes_one : (f : Feeding) → Fate e font (b ∷ bs) m f → refusal f.answer ≡ false → m.printer.job < limit → 1 ≤ f.taken
  takes_one f (refused r t q) h l = absurd (true≢false (sym r ∙ h))
  takes_one f (taken q) h l = rw q (moves e font b bs m l)

  pub feeding_moves : refusal (feeding e font (b ∷ bs) m).answer ≡ false → m.printer.job < limit → 1 ≤ (feeding e font (b ∷ bs) m).taken
  feeding_moves h l = takes_one _ (fate e font (b ∷ bs) m) h l

-- No byte both finishes a form and gives a note: a step tells one thing at most.
tells_one : (e : Edition) (v : Event) (m : Machine) → length (tell e v m).told ≤ 1
unfolding tell
tells_one e event.Quiet m = omega arith
tells_one e event.Finished m = omega arith
tells_one e (event.Noted f place) m = omega arith

pub step_tells_one : (e : Edition) (font : List ℕ) (b : ℕ) (m : Machine) → length (tell_step e (step e font b m)).told ≤ 1
unfolding tell_step
step_tells_one e font b m = tells_one e (step e font b m).event (step e font b m).machine

-- A refused opening gives the shut state and leaves every lent store as it came.
module _ (w : Model) (lines spacing : ℕ) (font : List ℕ) (m : Machine) where
  abbrev e : Edition
  e = described w

  abbrev form : Form
  form = new_form lines spacing

  abbrev Unchanged : Opening → Type 0
  Unchanged o = refusal o.answer ≡ true → o.machine ≡ with_printer (shut w) m

  fitted_unchanged : (t : Fit) → Unchanged (open_fitted w form t m)
  unfolding open_fitted refusal
  fitted_unchanged (Ok tt) h = absurd (true≢false (sym h))
  fitted_unchanged (Err lent) h = refl

  tested_unchanged : (a b : Bool) → Unchanged (cond a (cond b (open_fitted w form (fit e form font m) m) (unopened w WrongSpacing m)) (unopened w WrongLines m))
  tested_unchanged true true h = fitted_unchanged (fit e form font m) h
  tested_unchanged true false h = refl
  tested_unchanged false b h = refl

  pub opening_refused : refusal (opening w lines spacing font m).answer ≡ true → (opening w lines spacing font m).machine ≡ with_printer (shut w) m
  unfolding opening
  opening_refused h = tested_unchanged (lines_allowed e lines) (spacing_allowed spacing) h

  -- an opening gives a state of the model asked for, whatever it answers
  opened_model : (t : Fit) → (open_fitted w form t m).machine.printer.model ≡ w
  unfolding open_fitted
  opened_model (Ok tt) = refl
  opened_model (Err lent) = refl

  tested_model : (a b : Bool)
      → (cond a (cond b (open_fitted w form (fit e form font m) m) (unopened w WrongSpacing m)) (unopened w WrongLines m)).machine.printer.model ≡ w
  tested_model true true = opened_model (fit e form font m)
  tested_model true false = refl
  tested_model false b = refl

  pub opening_model : (opening w lines spacing font m).machine.printer.model ≡ w
  unfolding opening
  opening_model = tested_model (lines_allowed e lines) (spacing_allowed spacing)

-- the shut state is unsound
pub shut_unsound : (e : Edition) (w : Model) → sound e (shut w) ≡ false
unfolding sound form_sound lines_allowed
shut_unsound e w = refl

-- document 02 retired 17: no opening and no feeding answers it
pub retired_17 : (a : Answer) → (report a).number ≡ 17 → ⊥
unfolding report
retired_17 Done q = omega arith
retired_17 Finished q = omega arith
retired_17 (Noted f place) q = omega arith
retired_17 JobFull q = omega arith
retired_17 Unsound q = omega arith
retired_17 (Misfit lent) q = omega (arith, lent_numbers lent)
retired_17 WrongLines q = omega arith
retired_17 WrongSpacing q = omega arith

-- and no closing
pub retired_17_closing : (c : Closing) → (close_report c).number ≡ 17 → ⊥
unfolding close_report
retired_17_closing closing.Unsound q = omega arith
retired_17_closing (closing.Unfinished place) q = omega arith
retired_17_closing closing.Unprinted q = omega arith
retired_17_closing closing.Clean q = omega arith
