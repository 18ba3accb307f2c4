-- The course of a delivery, form by form: the machine before the first feeding on a form, and after each. Document 02, #111.
use Rattle.std.specs.Prelude.{ℕ, zero, suc, List, [], ◌∷◌, ◌++◌, ◌≡◌, drop, length}
use Rattle.sheet.specs.Edition.{Edition}
use Rattle.sheet.specs.Form.{blank_page}
use Rattle.printer.specs.Machine.{Machine, with_page}
use Rattle.printer.specs.Steps.{Told, form, note}
use Rattle.protocol.specs.declared.Answer.{Answer}
use Rattle.protocol.specs.declared.Answer.TheVariants.{Done, Finished, Noted, JobFull, Unsound, Misfit, WrongLines, WrongSpacing}
use Rattle.protocol.specs.Calls.{Feeding}
use Rattle.protocol.specs.Protocol.{Delivery}

-- for each form the machine in the order of time: before the first feeding on the form, and after each
abbrev pub Course : Type 0
Course = List (List Machine)

-- a machine, and then the others of the form at hand
unfoldable pub and_then : Machine → Course → Course
and_then m [] = (m ∷ []) ∷ []
and_then m (ms ∷ forms) = (m ∷ ms) ∷ forms

-- the machine that is lent a blank page for the next form
abbrev pub relent : Edition → Machine → Machine
relent e m = with_page (blank_page e m.printer.form) m

-- the course from an answer on: a caller goes on as in `answered`, and with the next piece where this one is used up
unfoldable pub following : Edition → Answer → Machine → (Machine → Course) → (Machine → Course) → Course
following e Finished m again next = (m ∷ []) ∷ again (relent e m)
following e (Noted f place) m again next = again m
following e Done m again next = next m
following e JobFull m again next = and_then m []
following e Unsound m again next = and_then m []
following e (Misfit lent) m again next = and_then m []
following e WrongLines m again next = and_then m []
following e WrongSpacing m again next = and_then m []

-- the course of a piece, offered in at most so many calls, and of the pieces that come next
unfoldable pub offer_course : Edition → (List ℕ → Machine → Feeding) → ℕ → List ℕ → (Machine → Course) → Machine → Course
offer_course e feed zero piece next m = next m
offer_course e feed (suc calls) piece next m =
    let f : Feeding = feed piece m in
    and_then m (following e f.answer f.machine (offer_course e feed calls (drop f.taken piece) next) next)

-- the course of a delivery: the pieces in turn
unfoldable pub delivery_course : Edition → (List ℕ → Machine → Feeding) → List (List ℕ) → Machine → Course
delivery_course e feed [] m = and_then m []
delivery_course e feed (piece ∷ pieces) m = offer_course e feed (suc (length piece)) piece (delivery_course e feed pieces) m

-- the pages of the forms that were told
unfoldable pub forms_told : List Told → List (List ℕ)
forms_told [] = []
forms_told (form page ∷ ts) = page ∷ forms_told ts
forms_told (note f place ∷ ts) = forms_told ts

-- the pages that come of a delivery: the finished forms in order, and last the page at hand
abbrev pub come_of : Delivery → List (List ℕ)
come_of d = forms_told d.told ++ (d.machine.page ∷ [])

-- the last of a machine and those after it
unfoldable pub last_of : Machine → List Machine → Machine
last_of m [] = m
last_of m (n ∷ ns) = last_of n ns

-- the page of the last of some machines
unfoldable pub last_page : List Machine → List ℕ
last_page [] = []
last_page (m ∷ ms) = (last_of m ms).page

-- one feeding leads from a machine to the next
abbrev pub OneFeeding : (List ℕ → Machine → Feeding) → Machine → Machine → Type 0
OneFeeding feed m next = (piece : List ℕ) × ((feed piece m).machine ≡ next)
