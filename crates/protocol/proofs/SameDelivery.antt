-- Two ways of feeding that agree on machines and pieces of some kind, and keep to that kind, deliver the same.
use Prim.Native.Nat.{ℕ, zero, suc}
use mathlib.Core.List.{List, [], ◌∷◌}
use mathlib.Core.Path.{◌≡◌, refl, ap}
use lib.ListN.{drop, length}
use Rattle.sheet.specs.Edition.{Edition}
use Rattle.sheet.specs.Held.{All}
use Rattle.printer.specs.Machine.{Machine}
use Rattle.printer.specs.Steps.{form, note}
use Rattle.protocol.specs.declared.Answer.{Answer}
use Rattle.protocol.specs.declared.Answer.TheVariants.{Done, Finished, Noted, JobFull, Unsound, Misfit, WrongLines, WrongSpacing}
use Rattle.protocol.specs.Calls.{Feeding}
use Rattle.protocol.specs.Course.{Course, and_then, delivery_course, following, offer_course, relent}
use Rattle.protocol.specs.Protocol.{Delivery, after, answered, delivery, offer}

-- On machines M and pieces P both ways of feeding agree, and all that is fed next is of that kind: the machine left, with a blank page lent after a
-- finished form, and the rest of the piece.
pub record Agree (e : Edition) (M : Machine → Type 0) (P : List ℕ → Type 0) (feed other : List ℕ → Machine → Feeding) : Type 0 where
  pub same : (piece : List ℕ) (m : Machine) → P piece → M m → feed piece m ≡ other piece m
  pub left : (piece : List ℕ) (m : Machine) → P piece → M m → M (other piece m).machine
  pub lent : (piece : List ℕ) (m : Machine) → P piece → M m → (other piece m).answer ≡ Finished → M (relent e (other piece m).machine)
  pub rest : (n : ℕ) (piece : List ℕ) → P piece → P (drop n piece)

module _ {e : Edition} {M : Machine → Type 0} {P : List ℕ → Type 0} {feed other : List ℕ → Machine → Feeding} (agree : Agree e M P feed other) where
  -- one delivery, which leaves such a machine
  record One (d other_d : Delivery) : Type 0 where
    is : d ≡ other_d
    left : M other_d.machine

  answered_one : (a : Answer) (m : Machine) (go other_go : Machine → Delivery) → ((n : Machine) → M n → One (go n) (other_go n)) → M m
      → (a ≡ Finished → M (relent e m)) → One (answered e a m go) (answered e a m other_go)
  unfolding answered
  answered_one Finished m go other_go k h blank =
      let o = k (relent e m) (blank refl) in
      record { is = ap (after (form m.page ∷ [])) o.is; left = o.left }
  answered_one (Noted f place) m go other_go k h blank = let o = k m h in record { is = ap (after (note f place ∷ [])) o.is; left = o.left }
  answered_one Done m go other_go k h blank = record { is = refl; left = h }
  answered_one JobFull m go other_go k h blank = record { is = refl; left = h }
  answered_one Unsound m go other_go k h blank = record { is = refl; left = h }
  answered_one (Misfit lent) m go other_go k h blank = record { is = refl; left = h }
  answered_one WrongLines m go other_go k h blank = record { is = refl; left = h }
  answered_one WrongSpacing m go other_go k h blank = record { is = refl; left = h }

  offer_one : (calls : ℕ) (piece : List ℕ) (m : Machine) → P piece → M m → One (offer e feed calls piece m) (offer e other calls piece m)
  unfolding offer
  offer_one zero piece m p h = record { is = refl; left = h }
  offer_one (suc calls) piece m p h =
      let f : Feeding = other piece m in
      let rest : List ℕ = drop f.taken piece in
      rw (agree.same piece m p h)
      (answered_one f.answer f.machine (offer e feed calls rest) (offer e other calls rest)
      (λ n k. offer_one calls rest n (agree.rest f.taken piece p) k) (agree.left piece m p h) (agree.lent piece m p h))

  -- THE LAW: they deliver the same
  pub delivery_same : (pieces : List (List ℕ)) (m : Machine) → All P pieces → M m → delivery e feed pieces m ≡ delivery e other pieces m
  unfolding delivery
  delivery_same [] m p h = refl
  delivery_same (piece ∷ pieces) m p h =
      let o = offer_one (suc (length piece)) piece m p.0 h in
      rw (o.is, delivery_same pieces (offer e other (suc (length piece)) piece m).machine p.1 o.left)

  following_same : (a : Answer) (m : Machine) (again other_again next other_next : Machine → Course)
      → ((n : Machine) → M n → again n ≡ other_again n) → ((n : Machine) → M n → next n ≡ other_next n) → M m
      → (a ≡ Finished → M (relent e m)) → following e a m again next ≡ following e a m other_again other_next
  unfolding following
  following_same Finished m again other_again next other_next k g h blank = ap (λ (c : Course). (m ∷ []) ∷ c) (k (relent e m) (blank refl))
  following_same (Noted f place) m again other_again next other_next k g h blank = k m h
  following_same Done m again other_again next other_next k g h blank = g m h
  following_same JobFull m again other_again next other_next k g h blank = refl
  following_same Unsound m again other_again next other_next k g h blank = refl
  following_same (Misfit lent) m again other_again next other_next k g h blank = refl
  following_same WrongLines m again other_again next other_next k g h blank = refl
  following_same WrongSpacing m again other_again next other_next k g h blank = refl

  offer_course_same : (calls : ℕ) (piece : List ℕ) (next other_next : Machine → Course) → ((n : Machine) → M n → next n ≡ other_next n)
      → (m : Machine) → P piece → M m → offer_course e feed calls piece next m ≡ offer_course e other calls piece other_next m
  unfolding offer_course
  offer_course_same zero piece next other_next g m p h = g m h
  offer_course_same (suc calls) piece next other_next g m p h =
      let f : Feeding = other piece m in
      let rest : List ℕ = drop f.taken piece in
      rw (agree.same piece m p h)
      (ap (and_then m)
      (following_same f.answer f.machine _ _ next other_next
      (λ n k. offer_course_same calls rest next other_next g n (agree.rest f.taken piece p) k) g (agree.left piece m p h)
      (agree.lent piece m p h)))

  -- THE LAW: so do their courses
  pub course_same : (pieces : List (List ℕ)) (m : Machine) → All P pieces → M m → delivery_course e feed pieces m ≡ delivery_course e other pieces m
  unfolding delivery_course
  course_same [] m p h = refl
  course_same (piece ∷ pieces) m p h =
      offer_course_same (suc (length piece)) piece (delivery_course e feed pieces) (delivery_course e other pieces)
      (λ n k. course_same pieces n p.1 k) m p.0 h
