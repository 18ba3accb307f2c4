-- However a job of any length is cut into pieces, the calls give what the whole-job reading gives of its first 4,294,967,295 bytes, and the last
-- answer is 3 exactly where there are more.
use Prim.Native.Nat.{ℕ, zero, suc, zero-le, ◌+◌, ◌-◌, ◌≤◌, ◌<◌}
use mathlib.Core.Bool.{Bool, true, false, cond}
use mathlib.Core.List.{List, [], ◌∷◌, ◌++◌}
use mathlib.Core.Logic.{◌↔◌}
use mathlib.Core.Path.{◌≡◌, refl, sym, ap, subst, ◌∙◌}
use native.Mathlib.Omega.{arith}
use borrow.Author.Tests.{le-ltb, lt-ltb, ltb-false, ltb-true}
use lib.Dec.{leb-suc-suc, ltb}
use lib.ListN.{drop, length, length-append, take}
use lib.Seq.{take_all, take-append-add, take-append-le, take-nil}
use Rattle.sheet.proofs.Editions.{Proper, described_proper}
use Rattle.sheet.specs.Form.{new_form}
use Rattle.sheet.specs.declared.Form.{Form}
use Rattle.sheet.specs.declared.Model.{Model}
use Rattle.sheet.specs.Edition.{Edition, described}
use Rattle.printer.specs.declared.Event.{Event}
use Rattle.printer.specs.declared.Event.TheVariants as event
use Rattle.printer.specs.declared.Pending.TheVariants.{Nothing}
use Rattle.printer.specs.declared.Printer.{Printer}
use Rattle.printer.specs.Bytes.{run, step}
use Rattle.printer.specs.Commands.{reading}
use Rattle.printer.specs.Numbers.{Report, plain}
use Rattle.printer.specs.Machine.{Machine, limit, store_size}
use Rattle.printer.specs.Room.{Ready}
use Rattle.printer.specs.Steps.{Outcome, Step, form, note, tell, tell_step}
use Rattle.printer.proofs.Appending.{run-append}
use Rattle.printer.proofs.Keeping.{run_counts, step_counts, tell-printer}
use Rattle.printer.proofs.Readings.{run_reading}
use Rattle.printer.proofs.StaysSound.{opened_ready, run_ready, step_fine}
use Rattle.protocol.specs.declared.Answer.TheVariants.{Done, JobFull}
use Rattle.protocol.specs.Answers.{report}
use Rattle.protocol.specs.Calls.{Feeding, feeding, heard, opening, take_bytes}
use Rattle.protocol.specs.Protocol.{Delivery, after, answered, delivered, delivered_up_to, delivery, ends, joined, offer, on, room}
use Rattle.protocol.proofs.Accepted.{Accepted, feeding_takes, opening_accepted}

-- where all bytes fit, it is the delivery of the whole job
pub all_fit : (n : ℕ) (read : List ℕ → Machine → Outcome) (job : List ℕ) (m : Machine) → length job ≤ n
    → delivered_up_to n read job m ≡ delivered (read job m)
unfolding delivered_up_to
all_fit n read job m l = search (take_all, le-ltb)

answer_of : (n l : ℕ) (t : Bool) → ltb n l ≡ t → (report (cond t JobFull Done) ≡ plain 3 ↔ n < l) × (report (cond t JobFull Done) ≡ plain 0 ↔ l ≤ n)
unfolding report
answer_of n l true q =
    ((λ _. ltb-true n l q, λ _. refl), (λ d. absurd (let k = ap (λ (r : Report). r.number) d in omega arith), λ k. absurd (omega (arith, ltb-true n l q))))
answer_of n l false q =
    ((λ d. absurd (let k = ap (λ (r : Report). r.number) d in omega arith), λ k. absurd (omega (arith, ltb-false n l q))), (λ _. ltb-false n l q, λ _. refl))

-- the answer is 3 exactly where there are more bytes than fit, and else 0
pub last-answer : (n : ℕ) (read : List ℕ → Machine → Outcome) (job : List ℕ) (m : Machine)
    → (report (delivered_up_to n read job m).answer ≡ plain 3 ↔ n < length job) × (report (delivered_up_to n read job m).answer ≡ plain 0 ↔ length job ≤ n)
unfolding delivered_up_to
last-answer n read job m = answer_of n (length job) (ltb n (length job)) refl

ltb_add : (a n l : ℕ) (t : Bool) → ltb n l ≡ t → ltb (a + n) (a + l) ≡ t
ltb_add a n l true q = lt-ltb (a + n) (a + l) (omega (arith, ltb-true n l q))
ltb_add a n l false q = le-ltb (a + n) (a + l) (omega (arith, ltb-false n l q))

module _ (e : Edition) (proper : Proper e) (font : List ℕ) where
  -- the bytes as far as there is room, one after the other
  abbrev up_to : ℕ → List ℕ → Machine → Delivery
  up_to n bs m = delivered_up_to n (run e font) bs m

  -- a machine that is ready and has room for n bytes more
  record Has (n : ℕ) (m : Machine) : Type 0 where
    ready : Ready e m
    left : room m ≡ n

  has_step : (b n : ℕ) (m : Machine) → Has (suc n) m → Has n (tell_step e (step e font b m)).machine
  unfolding tell_step
  has_step b n m h =
      let s : Step = step e font b m in
      let job = ap (λ (p : Printer). p.job) (tell-printer e s.event s.machine) in
      record { ready = (step_fine proper h.ready font b).ready; left = omega (arith, h.left, job, (step_counts e font b m).job) }

  has_run : (bs : List ℕ) (n : ℕ) (m : Machine) → Has (length bs + n) m → Has n (run e font bs m).machine
  has_run bs n m h = record { ready = run_ready proper font bs h.ready; left = omega (arith, h.left, (run_counts e font bs m).job) }

  -- With no byte, with no room, and with a byte that fits.
  no_byte : (n : ℕ) (m : Machine) → up_to n [] m ≡ ends Done m
  unfolding delivered_up_to run
  no_byte n m = search (take-nil, le-ltb, zero-le)

  no_room : (b : ℕ) (bs : List ℕ) (m : Machine) → up_to 0 (b ∷ bs) m ≡ ends JobFull m
  unfolding delivered_up_to run
  no_room b bs m = rw (lt-ltb 0 (suc (length bs)) (omega arith))

  one_byte : (b : ℕ) (bs : List ℕ) (n : ℕ) (m : Machine)
      → up_to (suc n) (b ∷ bs) m ≡ (let o : Outcome = tell_step e (step e font b m) in after o.told (up_to n bs o.machine))
  unfolding delivered_up_to run
  one_byte b bs n m = rw (leb-suc-suc (suc n) (length bs))

  -- One call, and something that goes on with the rest: together they do what the bytes do, if that does so for shorter rests.
  module _ (go : List ℕ → Machine → Delivery) where
    abbrev caller : Feeding → List ℕ → Delivery
    caller f bs = answered e f.answer f.machine (go (drop f.taken bs))

    abbrev GoesOn : List ℕ → Type 0
    GoesOn bs = (rest : List ℕ) (n : ℕ) (m : Machine) → length rest < length bs → Has n m → go rest m ≡ up_to n rest m

    heard_run : (b : ℕ) (bs : List ℕ) (n : ℕ) (v : Event) (m : Machine) → Has n (tell e v m).machine → GoesOn (b ∷ bs)
        → (Has n m → caller (take_bytes e font bs m) bs ≡ up_to n bs m)
        → caller (heard v m (take_bytes e font bs m)) (b ∷ bs) ≡ after (tell e v m).told (up_to n bs (tell e v m).machine)
    unfolding heard answered tell
    heard_run b bs n event.Quiet m h k ih = ih h
    heard_run b bs n event.Finished m h k ih = ap (after (form m.page ∷ [])) (k bs n _ (omega arith) h)
    heard_run b bs n (event.Noted f place) m h k ih = ap (after (note f place ∷ [])) (k bs n _ (omega arith) h)

    call_run : (bs : List ℕ) (n : ℕ) (m : Machine) → Has n m → GoesOn bs → caller (take_bytes e font bs m) bs ≡ up_to n bs m
    unfolding take_bytes tell_step answered
    call_run [] n m h k = sym (no_byte n m)
    call_run (b ∷ bs) zero m h k = rw (le-ltb m.printer.job limit (omega (arith, h.left))) (sym (no_room b bs m))
    call_run (b ∷ bs) (suc n) m h k =
        let s : Step = step e font b m in
        rw (lt-ltb m.printer.job limit (omega (arith, h.left)), one_byte b bs n m)
        (heard_run b bs n s.event s.machine (has_step b n m h) k
        (λ g. call_run bs n s.machine g (λ rest i x l w. k rest i x (omega arith) w)))

  -- Some bytes and those after them, where the first do not fit and where they do.
  past : (xs ys : List ℕ) (n : ℕ) (m : Machine) → n < length xs → ((up_to n xs m).answer ≡ JobFull) × (up_to n (xs ++ ys) m ≡ up_to n xs m)
  unfolding delivered_up_to
  past xs ys n m l =
      let k : n < length (xs ++ ys) = omega (arith, length-append xs ys) in
      (rw (lt-ltb n (length xs) l), rw (take-append-le n xs ys (omega arith), lt-ltb n (length (xs ++ ys)) k, lt-ltb n (length xs) l))

  within : (xs ys : List ℕ) (n : ℕ) (m : Machine)
      → up_to (length xs + n) (xs ++ ys) m ≡ after (run e font xs m).told (up_to n ys (run e font xs m).machine)
  unfolding delivered_up_to
  within xs ys n m =
      rw (take-append-add xs ys n, run-append e font xs (take n ys) m, length-append xs ys, ltb_add (length xs) n (length ys) _ refl)

  piece_run : (piece bs : List ℕ) (next : Machine → Delivery) → ((n : ℕ) (m : Machine) → Has n m → next m ≡ up_to n bs m)
      → (n : ℕ) (m : Machine) → Has n m → (t : Bool) → ltb n (length piece) ≡ t
      → on (up_to n piece m) next ≡ up_to n (piece ++ bs) m
  piece_run piece bs next k n m h true q =
      let p = past piece bs n m (ltb-true n (length piece) q) in
      rw (p.1, p.0)
  piece_run piece bs next k n m h false q =
      let i : ℕ = n - length piece in
      let l : length piece ≤ n = ltb-false n (length piece) q in
      let s : n ≡ length piece + i = omega arith in
      rw (all_fit n (run e font) piece m l)
      (ap (after (run e font piece m).told) (k i _ (has_run piece i m (subst (λ (j : ℕ). Has j m) s h)))
      ∙ sym (within piece bs i m)
      ∙ ap (λ (j : ℕ). up_to j (piece ++ bs) m) (sym s))

  module _ (sized : length font ≡ store_size) where
    offer_run : (n calls : ℕ) (piece : List ℕ) (m : Machine) → length piece < calls → Has n m
        → offer e (feeding e font) calls piece m ≡ up_to n piece m
    unfolding offer
    offer_run n zero piece m l h = absurd (omega arith)
    offer_run n (suc calls) piece m l h =
        rw (feeding_takes h.ready font sized piece)
        (call_run (offer e (feeding e font) calls) piece n m h (λ rest i x k w. offer_run i calls rest x (omega arith) w))

    delivery_run : (pieces : List (List ℕ)) (n : ℕ) (m : Machine) → Has n m
        → delivery e (feeding e font) pieces m ≡ up_to n (joined pieces) m
    unfolding delivery joined
    delivery_run [] n m h = sym (no_byte n m)
    delivery_run (piece ∷ pieces) n m h =
        let l : length piece < suc (length piece) = omega arith in
        rw (offer_run n)
        (piece_run piece (joined pieces) (delivery e (feeding e font) pieces) (delivery_run pieces) n m h (ltb n (length piece)) refl)

-- from any machine that is ready and has nothing pending
pub past_limit_from : {e : Edition} → Proper e → {m : Machine} → Ready e m → m.printer.pending ≡ Nothing → (font : List ℕ) → length font ≡ store_size
    → (pieces : List (List ℕ)) → delivery e (feeding e font) pieces m ≡ delivered_up_to (room m) (reading e font) (joined pieces) m
unfolding delivered_up_to
past_limit_from {e} proper {m} h idle font sized pieces =
    delivery_run e proper font sized pieces (room m) m (record { ready = h; left = refl })
    ∙ rw (run_reading e font (take (room m) (joined pieces)) m idle)

-- A job that is opened and not refused, of any length and however it is cut.
module _ (w : Model) (font : List ℕ) (lines spacing : ℕ) (lent : Machine) (pieces : List (List ℕ))
    (done : (opening w lines spacing font lent).answer ≡ Done) where
  abbrev e : Edition
  e = described w

  abbrev start : Machine
  start = (opening w lines spacing font lent).machine

  -- THE LAW: the calls give what the reading gives of its first 4,294,967,295 bytes
  pub past_limit : delivery e (feeding e font) pieces start ≡ delivered_up_to 4294967295 (reading e font) (joined pieces) start
  past_limit =
      let f : Form = new_form lines spacing in
      let a : Accepted w f font (opening w lines spacing font lent) = opening_accepted w lines spacing font lent done in
      rw a.machine (past_limit_from (described_proper w) (opened_ready w lines spacing a.lines a.spacing) refl font a.font pieces)

  -- the last answer is 3 exactly where the job has more bytes
  pub full_past_limit : report (delivery e (feeding e font) pieces start).answer ≡ plain 3 ↔ 4294967295 < length (joined pieces)
  full_past_limit = rw past_limit (last-answer 4294967295 (reading e font) (joined pieces) start).0

  -- and 0 exactly where it has not
  pub done_within_limit : report (delivery e (feeding e font) pieces start).answer ≡ plain 0 ↔ length (joined pieces) ≤ 4294967295
  done_within_limit = rw past_limit (last-answer 4294967295 (reading e font) (joined pieces) start).1
