-- Through a whole delivery, however the job is cut, a dot once black stays black in its form. Document 02, #111.
use Prim.Native.Nat.{ℕ, zero, suc, ◌-◌, ◌≤◌, ◌<◌}
use mathlib.Core.List.{List, [], ◌∷◌}
use mathlib.Core.Logic.{⊎_elim}
use mathlib.Core.Path.{◌≡◌, refl, sym, ap, subst, ◌∙◌}
use native.Mathlib.Omega.{arith}
use native.Mathlib.Nat.{eq-or-lt_of_le}
use lib.ListN.{get_or, length, get_or-map}
use Rattle.sheet.specs.Dots.{Black}
use Rattle.sheet.specs.Edition.{Edition}
use Rattle.printer.specs.Machine.{Machine}
use Rattle.protocol.specs.Calls.{feeding}
use Rattle.protocol.specs.Course.{OneFeeding, come_of, delivery_course, last_of, last_page}
use Rattle.protocol.specs.Protocol.{delivery}
use Rattle.protocol.proofs.DeliveryCourse.{delivery_comes_to, delivery_feeds}
use Rattle.protocol.proofs.FeedingDots.{feeding_stays_black}

-- the last of some machines is the one of the highest number
last-after : (m : Machine) (ms : List Machine) (none : Machine) → get_or (m ∷ ms) (length ms) none ≡ last_of m ms
unfolding last_of
last-after m [] none = refl
last-after m (n ∷ ms) none = last-after n ms none

last_at : (ms : List Machine) (none : Machine) → 0 < length ms → (get_or ms (length ms - 1) none).page ≡ last_page ms
unfolding last_page
last_at [] none lt = absurd (omega arith)
last_at (m ∷ ms) none lt =
    let last : suc (length ms) - 1 ≡ length ms = omega arith in
    ap (λ (n : ℕ). (get_or (m ∷ ms) n none).page) last ∙ ap (λ (n : Machine). n.page) (last-after m ms none)

-- A delivery of any pieces, from any state and with whatever is lent: machine i of form k, and its page.
module _ (e : Edition) (font : List ℕ) (pieces : List (List ℕ)) (m : Machine) where
  abbrev machines : ℕ → List Machine
  machines k = get_or (delivery_course e (feeding e font) pieces m) k []

  abbrev page_at : ℕ → ℕ → List ℕ
  page_at k i = (get_or (machines k) i m).page

  -- what is black before a feeding is black after it
  fed_black : (n next : Machine) → OneFeeding (feeding e font) n next → (d : ℕ) → Black n.page d → Black next.page d
  fed_black n next (piece, to) d b = subst (λ (k : Machine). Black k.page d) to (feeding_stays_black e font piece n d b)

  -- THE LAW: within each form a dot once black stays black through every later feeding
  pub delivery_stays_black : (k i j d : ℕ) → i ≤ j → j < length (machines k) → Black (page_at k i) d → Black (page_at k j) d
  delivery_stays_black k i zero d le lt b = let same : i ≡ 0 = omega arith in subst (λ (n : ℕ). Black (page_at k n) d) same b
  delivery_stays_black k i (suc j) d le lt b =
      ⊎_elim (λ same. subst (λ (n : ℕ). Black (page_at k n) d) same b)
      (λ less. fed_black _ _ (delivery_feeds e (feeding e font) pieces m k j lt) d (delivery_stays_black k i j d (omega arith) (omega arith) b))
      (eq-or-lt_of_le le)

  -- THE LAW: a form, finished or still at hand in the end, has every dot that any feeding on it blackened
  pub form_has_every_dot : (k i d : ℕ) → i < length (machines k) → Black (page_at k i) d
      → Black (get_or (come_of (delivery e (feeding e font) pieces m)) k []) d
  unfolding last_page
  form_has_every_dot k i d lt b =
      let told = ap (λ (ps : List (List ℕ)). get_or ps k []) (delivery_comes_to e (feeding e font) pieces m) in
      let last = last_at (machines k) m (omega arith) in
      subst (λ (p : List ℕ). Black p d) (last ∙ sym (get_or-map last_page (delivery_course e (feeding e font) pieces m) k []) ∙ told)
      (delivery_stays_black k i (length (machines k) - 1) d (omega arith) (omega arith) b)
