-- A dot once black stays black in its form for the code too: for what feeds as the contract of `feed` says, from any state and memory.
use Prim.Native.Nat.{ℕ, ◌≤◌, ◌<◌}
use mathlib.Core.List.{List, []}
use mathlib.Core.Path.{◌≡◌, refl, subst, sym}
use lib.ListN.{get_or, length}
use Rattle.sheet.specs.Dots.{Black}
use Rattle.sheet.specs.Edition.{Edition}
use Rattle.sheet.specs.Held.{All, HeldBytes}
use Rattle.printer.specs.Held.{Held}
use Rattle.printer.specs.Machine.{Machine, edition_of}
use Rattle.protocol.specs.Calls.{feeding}
use Rattle.protocol.specs.Course.{Course, come_of, delivery_course}
use Rattle.protocol.specs.Protocol.{Delivery, delivery}
use Rattle.protocol.proofs.DeliveryDots.{delivery_stays_black, form_has_every_dot}
use Rattle.protocol.proofs.SameDelivery.{course_same, delivery_same}
use Rattle.job.proofs.CodeCutting.{HeldOf, Meets, code_agrees}

module _ (m : Machine) where
  abbrev page_at : Course → ℕ → ℕ → List ℕ
  page_at course k i = (get_or (get_or course k []) i m).page

  -- within each form of a course a dot once black stays black through every later feeding
  abbrev pub StaysBlack : Course → Type 0
  StaysBlack course = (k i j d : ℕ) → i ≤ j → j < length (get_or course k []) → Black (page_at course k i) d → Black (page_at course k j) d

  -- a form of a delivery, finished or still at hand in the end, has every dot that any feeding on it blackened
  abbrev pub EveryDot : Course → Delivery → Type 0
  EveryDot course left = (k i d : ℕ) → i < length (get_or course k []) → Black (page_at course k i) d → Black (get_or (come_of left) k []) d

module _ (code : Meets) (font : List ℕ) (pieces : List (List ℕ)) (m : Machine) (f : HeldBytes font) (p : All HeldBytes pieces) (h : Held m) where
  abbrev e : Edition
  e = edition_of m.printer

  of_model : HeldOf m.printer.model m
  of_model = record { model = refl; held = h }

  abbrev course : Course
  course = delivery_course e (code.feed font) pieces m

  same_course : delivery_course e (feeding e font) pieces m ≡ course
  same_course = sym (course_same (code_agrees code _ font f) pieces m p of_model)

  same_delivery : delivery e (feeding e font) pieces m ≡ delivery e (code.feed font) pieces m
  same_delivery = sym (delivery_same (code_agrees code _ font f) pieces m p of_model)

  pub code_stays_black : StaysBlack m course
  code_stays_black = subst (StaysBlack m) same_course (delivery_stays_black e font pieces m)

  pub code_has_every_dot : EveryDot m course (delivery e (code.feed font) pieces m)
  code_has_every_dot =
      subst (EveryDot m course) same_delivery
      (subst (λ (c : Course). EveryDot m c (delivery e (feeding e font) pieces m)) same_course (form_has_every_dot e font pieces m))
