-- The course of a whole delivery: where it begins, what leads from one machine to the next, and what comes of it.
use Prim.Native.Nat.{ℕ, zero, suc, ◌<◌}
use mathlib.Core.Bool.{Bool, true, false, cond}
use mathlib.Core.List.{List, [], ◌∷◌, map}
use mathlib.Core.Path.{◌≡◌, refl, sym, ap, ◌∙◌}
use native.Mathlib.Omega.{arith}
use lib.ListN.{drop, get_or, length}
use Rattle.sheet.specs.Edition.{Edition}
use Rattle.printer.specs.Machine.{Machine}
use Rattle.printer.specs.Steps.{Told, form, note}
use Rattle.protocol.specs.declared.Answer.{Answer}
use Rattle.protocol.specs.declared.Answer.TheVariants.{Done, Finished, Noted, JobFull, Unsound, Misfit, WrongLines, WrongSpacing}
use Rattle.protocol.specs.Calls.{Feeding}
use Rattle.protocol.specs.Course.{Course, OneFeeding, and_then, come_of, delivery_course, following, forms_told, last_of, last_page}
use Rattle.protocol.specs.Course.{offer_course, relent}
use Rattle.protocol.specs.Protocol.{Delivery, after, answered, delivery, offer, on, used_up}

-- what is told before a delivery is told before it and the next ones
on-after : (t : Told) (d : Delivery) (go : Machine → Delivery) → on (after (t ∷ []) d) go ≡ after (t ∷ []) (on d go)
on-after t d go = either (used_up d.answer)
  where
    either : (b : Bool)
        → cond b (after (t ∷ d.told) (go d.machine)) (after (t ∷ []) d) ≡ after (t ∷ []) (cond b (after d.told (go d.machine)) d)
    either true = refl
    either false = refl

-- Any way of feeding, and a machine that stands where there is none.
module _ (e : Edition) (feed : List ℕ → Machine → Feeding) (none : Machine) where
  -- one feeding leads from each of some machines to the next
  abbrev AllFed : List Machine → Type 0
  AllFed [] = Unit {0}
  AllFed (m ∷ []) = Unit {0}
  AllFed (m ∷ next ∷ ms) = OneFeeding feed m next × AllFed (next ∷ ms)

  fed_at : (ms : List Machine) → AllFed ms → (i : ℕ) → suc i < length ms → OneFeeding feed (get_or ms i none) (get_or ms (suc i) none)
  fed_at [] h i lt = absurd (omega arith)
  fed_at (m ∷ []) h i lt = absurd (omega arith)
  fed_at (m ∷ next ∷ ms) h zero lt = h.0
  fed_at (m ∷ next ∷ ms) h (suc i) lt = fed_at (next ∷ ms) h.1 i (omega arith)

  -- so it is in each form
  abbrev FormsFed : Course → Type 0
  FormsFed [] = Unit {0}
  FormsFed (ms ∷ forms) = AllFed ms × FormsFed forms

  form_fed : (forms : Course) → FormsFed forms → (k : ℕ) → AllFed (get_or forms k [])
  form_fed [] h k = tt
  form_fed (ms ∷ forms) h zero = h.0
  form_fed (ms ∷ forms) h (suc k) = form_fed forms h.1 k

  -- a form begins at a machine
  abbrev Begins : Machine → List Machine → Type 0
  Begins m [] = ⊥
  Begins m (first ∷ ms) = first ≡ m

  begins_at : (m : Machine) (ms : List Machine) → Begins m ms → get_or ms 0 none ≡ m
  begins_at m [] h = absurd h
  begins_at m (first ∷ ms) h = h

  -- each of some forms begins where the one before it ended, with a blank page; the form before the first ended at `last`
  abbrev GoOn : Machine → Course → Type 0
  GoOn last [] = Unit {0}
  GoOn last (ms ∷ forms) = Begins (relent e last) ms × GoOn (last_of none ms) forms

  goes_on_at : (ms : List Machine) (forms : Course) → GoOn (last_of none ms) forms → (k : ℕ) → k < length forms
      → get_or (get_or forms k []) 0 none ≡ relent e (last_of none (get_or (ms ∷ forms) k []))
  goes_on_at ms [] h k lt = absurd (omega arith)
  goes_on_at ms (next ∷ forms) h zero lt = begins_at (relent e (last_of none ms)) next h.0
  goes_on_at ms (next ∷ forms) h (suc k) lt = goes_on_at next forms h.1 k (omega arith)

  -- the first form begins at a machine, and the others go on from it
  abbrev FormsBegin : Machine → Course → Type 0
  FormsBegin m [] = ⊥
  FormsBegin m (ms ∷ forms) = Begins m ms × GoOn (last_of none ms) forms

  first_at : (m : Machine) (forms : Course) → FormsBegin m forms → get_or (get_or forms 0 []) 0 none ≡ m
  first_at m [] h = absurd h
  first_at m (ms ∷ forms) h = begins_at m ms h.0

  later_at : (m : Machine) (forms : Course) → FormsBegin m forms → (k : ℕ) → suc k < length forms
      → get_or (get_or forms (suc k) []) 0 none ≡ relent e (last_of none (get_or forms k []))
  later_at m [] h k lt = absurd h
  later_at m (ms ∷ forms) h k lt = goes_on_at ms forms h.1 k (omega arith)

  -- A course from a machine on, and the pages that it comes to.
  record Shown (m : Machine) (out : List (List ℕ)) (forms : Course) : Type 0 where
    begin : FormsBegin m forms
    fed : FormsFed forms
    come : map last_page forms ≡ out

  -- a machine that nothing follows
  left_shown : (m : Machine) → Shown m (m.page ∷ []) (and_then m [])
  unfolding and_then last_page last_of
  left_shown m = record { begin = (refl, tt); fed = (tt, tt); come = refl }

  -- a machine, and then the course from the one on to which a feeding led
  fed_shown : (m next : Machine) (out : List (List ℕ)) (forms : Course) → OneFeeding feed m next → Shown next out forms
      → Shown m out (and_then m forms)
  unfolding and_then last_page last_of
  fed_shown m next out [] f s = absurd s.begin
  fed_shown m next out ([] ∷ forms) f s = absurd s.begin.0
  fed_shown m next out ((first ∷ ms) ∷ forms) (piece, to) s =
      record { begin = (refl, s.begin.1); fed = (((piece, to ∙ sym s.begin.0), s.fed.0), s.fed.1); come = s.come }

  -- a machine with a finished page, and then the course from the blank one on
  finished_shown : (m : Machine) (out : List (List ℕ)) (forms : Course) → Shown (relent e m) out forms → Shown m (m.page ∷ out) ((m ∷ []) ∷ forms)
  unfolding last_page last_of
  finished_shown m out [] s = absurd s.begin
  finished_shown m out (ms ∷ forms) s =
      record { begin = (refl, s.begin); fed = (tt, s.fed); come = ap (λ (ps : List (List ℕ)). m.page ∷ ps) s.come }

  -- what a caller does from a machine on, and its course
  abbrev Takes : (Machine → Delivery) → (Machine → Course) → Type 0
  Takes go course = (m : Machine) → Shown m (come_of (go m)) (course m)

  following_shown : (a : Answer) (m : Machine) (again next : Machine → Delivery) (again_course next_course : Machine → Course)
      → Takes (λ n. on (again n) next) again_course → Takes next next_course
      → Shown m (come_of (on (answered e a m again) next)) (following e a m again_course next_course)
  unfolding following answered forms_told
  following_shown Finished m again next again_course next_course h k =
      rw (on-after (form m.page) (again (relent e m)) next)
      (finished_shown m (come_of (on (again (relent e m)) next)) (again_course (relent e m)) (h (relent e m)))
  following_shown (Noted f place) m again next again_course next_course h k = rw (on-after (note f place) (again m) next) (h m)
  following_shown Done m again next again_course next_course h k = k m
  following_shown JobFull m again next again_course next_course h k = left_shown m
  following_shown Unsound m again next again_course next_course h k = left_shown m
  following_shown (Misfit lent) m again next again_course next_course h k = left_shown m
  following_shown WrongLines m again next again_course next_course h k = left_shown m
  following_shown WrongSpacing m again next again_course next_course h k = left_shown m

  offer_shown : (calls : ℕ) (piece : List ℕ) (next : Machine → Delivery) (next_course : Machine → Course) → Takes next next_course
      → Takes (λ m. on (offer e feed calls piece m) next) (offer_course e feed calls piece next_course)
  unfolding offer offer_course
  offer_shown zero piece next next_course k m = k m
  offer_shown (suc calls) piece next next_course k m =
      let f : Feeding = feed piece m in
      let rest : List ℕ = drop f.taken piece in
      fed_shown m f.machine _ _ (piece, refl)
      (following_shown f.answer f.machine (offer e feed calls rest) next _ next_course (offer_shown calls rest next next_course k) k)

  delivery_shown : (pieces : List (List ℕ)) → Takes (delivery e feed pieces) (delivery_course e feed pieces)
  unfolding delivery delivery_course forms_told
  delivery_shown [] m = left_shown m
  delivery_shown (piece ∷ pieces) m =
      offer_shown (suc (length piece)) piece (delivery e feed pieces) (delivery_course e feed pieces) (delivery_shown pieces) m

-- A delivery of any pieces, by any way of feeding, from any machine on.
module _ (e : Edition) (feed : List ℕ → Machine → Feeding) (pieces : List (List ℕ)) (m : Machine) where
  abbrev course : Course
  course = delivery_course e feed pieces m

  shown : Shown e feed m m (come_of (delivery e feed pieces m)) course
  shown = delivery_shown e feed m pieces m

  -- the first form begins at the machine that was lent
  pub delivery_begins : get_or (get_or course 0 []) 0 m ≡ m
  delivery_begins = first_at e feed m m course shown.begin

  -- each later one begins at the machine that the one before it ended with, a blank page lent
  pub delivery_lends_blank : (k : ℕ) → suc k < length course → get_or (get_or course (suc k) []) 0 m ≡ relent e (last_of m (get_or course k []))
  delivery_lends_blank k lt = later_at e feed m m course shown.begin k lt

  -- within each form one feeding leads from each machine to the next
  pub delivery_feeds : (k i : ℕ) → suc i < length (get_or course k [])
      → OneFeeding feed (get_or (get_or course k []) i m) (get_or (get_or course k []) (suc i) m)
  delivery_feeds k i lt = fed_at e feed m (get_or course k []) (form_fed e feed m course shown.fed k) i lt

  -- the last pages of the forms are the forms that the delivery tells, in order, and then the page that it leaves
  pub delivery_comes_to : map last_page course ≡ come_of (delivery e feed pieces m)
  delivery_comes_to = shown.come
