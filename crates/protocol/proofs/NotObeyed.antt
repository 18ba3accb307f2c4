-- A feeding that answers with a note: the bytes before its last one were used up, and that byte changed nothing.
use Prim.Native.Nat.{ℕ, suc, ◌-◌}
use Rattle.protocol.specs.declared.Lent.{Lent}
use mathlib.Core.Bool.{Bool, true, false, cond}
use mathlib.Core.List.{List, [], ◌∷◌}
use mathlib.Core.Path.{◌≡◌, refl, sym, ap, ◌∙◌}
use native.Mathlib.Omega.{arith}
use lib.Dec.{ltb}
use lib.ListN.{take}
use Rattle.sheet.specs.Edition.{Edition}
use Rattle.printer.specs.declared.Event.{Event}
use Rattle.printer.specs.declared.Event.TheVariants as event
use Rattle.printer.specs.declared.Fault.{Fault}
use Rattle.printer.specs.Bytes.{step}
use Rattle.printer.specs.Machine.{Machine, limit}
use Rattle.printer.specs.Sound.{sound}
use Rattle.printer.proofs.NotObeyed.{not_obeyed, noted_at}
use Rattle.protocol.specs.declared.Answer.TheVariants.{Noted, JobFull, Unsound}
use Rattle.std.specs.Prelude.{Err, Ok}
use Rattle.protocol.specs.Calls.{Fit, Feeding, feed_fitted, feeding, fit, heard, one_more, stopped, take_bytes}
use Rattle.protocol.specs.Notes.{NotObeyed}

module _ (f : Fault) (place : ℕ) where
  -- a way of feeding takes j bytes of a piece, and then one that gives the note
  record NotedAfter (feed : List ℕ → Feeding) (piece : List ℕ) : Type 0 where
    j : ℕ
    taken : (feed piece).taken ≡ suc j
    last : NotObeyed f place (feed (take j piece)) (feed piece)

  abbrev Notes : (List ℕ → Feeding) → List ℕ → Type 0
  Notes feed piece = (feed piece).answer ≡ Noted f place → NotedAfter feed piece

  -- after a quiet byte
  noted_later : (feed rest : List ℕ → Feeding) (b : ℕ) (bs : List ℕ) → ((xs : List ℕ) → feed (b ∷ xs) ≡ one_more (rest xs))
      → NotedAfter rest bs → NotedAfter feed (b ∷ bs)
  noted_later feed rest b bs w h =
      record {
        j = suc h.j;
        taken = rw (w bs) (ap suc h.taken);
        last =
            rw (w bs, w (take h.j bs))
            (record { used_up = h.last.used_up; taken = omega (arith, h.last.taken); machine = h.last.machine; place = h.last.place });
      }

  module _ (e : Edition) (font : List ℕ) where
    abbrev taking : Machine → List ℕ → Feeding
    taking m bs = take_bytes e font bs m

    module _ (b : ℕ) (m : Machine) where
      abbrev next : Machine
      next = (step e font b m).machine

      -- what a byte comes to, by the test of the limit and by its event
      turn : (t : Bool) (v : Event) → ltb m.printer.job limit ≡ t → (step e font b m).event ≡ v → (bs : List ℕ)
          → taking m (b ∷ bs) ≡ cond t (heard v next (taking next bs)) (stopped JobFull m)
      unfolding take_bytes
      turn t v q is bs = rw (q, is)

      turn_noted : (t : Bool) (v : Event) → ltb m.printer.job limit ≡ t → (step e font b m).event ≡ v → (bs : List ℕ)
          → Notes (taking next) bs → Notes (taking m) (b ∷ bs)
      unfolding heard take_bytes
      turn_noted true event.Quiet q is bs k a =
          let w = turn true event.Quiet q is in
          noted_later (taking m) (taking next) b bs w (k (sym (ap (λ (g : Feeding). g.answer) (w bs)) ∙ a))
      turn_noted true event.Finished q is bs k a =
          let w = turn true event.Finished q is bs in let z : ◌≡◌ {A = ℕ} 0 1 = cc in absurd (omega arith)
      turn_noted true (event.Noted g p) q is bs k a =
          let w = turn true (event.Noted g p) q is bs in
          let n : (step e font b m).event ≡ event.Noted f place = cc in
          record {
            j = 0;
            taken = ap (λ (x : Feeding). x.taken) w;
            last = rw w (record { used_up = refl; taken = omega arith; machine = not_obeyed e font b m n; place = noted_at e font b m n });
          }
      turn_noted false v q is bs k a =
          let w = turn false v q is bs in let z : ◌≡◌ {A = ℕ} 0 1 = cc in absurd (omega arith)

    taking_noted : (bs : List ℕ) (m : Machine) → Notes (taking m) bs
    unfolding take_bytes
    taking_noted [] m a = let z : ◌≡◌ {A = ℕ} 0 1 = cc in absurd (omega arith)
    taking_noted (b ∷ bs) m a =
        turn_noted b m (ltb m.printer.job limit) (step e font b m).event refl refl bs (taking_noted bs (step e font b m).machine) a

    fitted_noted : (piece : List ℕ) (t : Fit) (m : Machine) → Notes (λ bs. feed_fitted e font bs t m) piece
    unfolding feed_fitted
    fitted_noted piece (Ok tt) m a = taking_noted piece m a
    fitted_noted piece (Err lent) m a = let z : ◌≡◌ {A = ℕ} 0 1 = cc in absurd (omega arith)

    tested_noted : (piece : List ℕ) (t : Bool) (m : Machine)
        → Notes (λ bs. cond t (feed_fitted e font bs (fit e m.printer.form font m) m) (stopped Unsound m)) piece
    tested_noted piece true m a = fitted_noted piece (fit e m.printer.form font m) m a
    tested_noted piece false m a = let z : ◌≡◌ {A = ℕ} 0 1 = cc in absurd (omega arith)

    feeding_noted : (piece : List ℕ) (m : Machine) → Notes (λ bs. feeding e font bs m) piece
    unfolding feeding
    feeding_noted piece m a = tested_noted piece (sound e m.printer) m a

module _ (e : Edition) (font piece : List ℕ) (m : Machine) where
  -- what a feeding left, and what the feeding of all bytes but the last that it took leaves
  abbrev left : Feeding
  left = feeding e font piece m

  abbrev before : Feeding
  before = feeding e font (take (left.taken - 1) piece) m

  -- THE LAW: a feeding that answers with a note left what the bytes before the noted one leave, with that byte counted and not obeyed
  pub feeding_not_obeyed : {f : Fault} {place : ℕ} → left.answer ≡ Noted f place → NotObeyed f place before left
  feeding_not_obeyed {f} {place} a =
      let h : NotedAfter f place (λ bs. feeding e font bs m) piece = feeding_noted f place e font piece m a in
      let q : left.taken - 1 ≡ h.j = omega (arith, h.taken) in
      rw q h.last
