-- The turns of the loop that takes the bytes of a piece, and its ends.
use Prim.Native.Nat.{ℕ, suc, ◌+◌, ◌≤◌, ◌<◌}
use mathlib.Core.Bool.{true, false, true≢false}
use mathlib.Core.List.{List}
use mathlib.Core.Path.{◌≡◌, refl, ap, sym, ◌∙◌}
use native.Mathlib.Numerals.{add-one}
use native.Mathlib.Omega.{arith}
use borrow.Author.Tests.{le-ltb, lt-ltb}
use lib.ListN.{drop, drop_of_length-le, get_or, length}
use lib.Seq.{drop-cons}
use Rattle.sheet.specs.Edition.{Edition}
use Rattle.sheet.proofs.Editions.{Proper}
use Rattle.printer.specs.declared.Event.{Event}
use Rattle.printer.specs.declared.Event.TheVariants as event
use Rattle.printer.specs.declared.Printer.{Printer}
use Rattle.printer.specs.Bytes.{step}
use Rattle.printer.specs.Given.{machine}
use Rattle.printer.specs.Machine.{Machine, limit, store_size}
use Rattle.printer.specs.Room.{Ready, Room}
use Rattle.printer.specs.Steps.{Step}
use Rattle.protocol.specs.declared.Answer.TheVariants.{Done, JobFull}
use Rattle.protocol.specs.Calls.{Feeding, heard, one_more, stopped, take_bytes}
use Rattle.protocol.specs.Given.{answer_to, given_feeding, is_quiet, more}

-- a machine that is ready has all that a byte asks for
pub ready_room : {e : Edition} → Proper e → {p : Printer} {page line staging store font : List ℕ} → Ready e (machine p page line staging store)
    → length font ≡ store_size → Room e p page line staging store font
ready_room proper {p} h f =
    record {
      form = h.printer.form;
      row = h.printer.head.row;
      column = omega (arith, h.printer.head.column, proper.wide p.style.pitch);
      page = h.memory.page;
      line = h.memory.line;
      staging = h.memory.staging;
      store = h.memory.store;
      resident = f;
    }

abbrev with_taken : ℕ → Feeding → Feeding
with_taken n f = record { answer = f.answer; taken = n; machine = f.machine }

pub more_zero : (f : Feeding) → f ≡ more 0 f
more_zero f = let e : f.taken ≡ 0 + f.taken = omega arith in ap (λ (n : ℕ). with_taken n f) e

more-stopped : (i : ℕ) (f : Feeding) → f.taken ≡ 0 → more i f ≡ with_taken i f
more-stopped i f q = let e : i + f.taken ≡ i = omega arith in ap (λ (n : ℕ). with_taken n f) e

heard-quiet : (v : Event) (x : Machine) (f : Feeding) → is_quiet v ≡ true → heard v x f ≡ one_more f
unfolding heard
heard-quiet event.Quiet x f q = refl
heard-quiet event.Finished x f q = absurd (true≢false (sym q))
heard-quiet (event.Noted g place) x f q = absurd (true≢false (sym q))

heard-told : (i : ℕ) (v : Event) (p : Printer) (page line staging store : List ℕ) (f : Feeding) → is_quiet v ≡ false
    → more i (heard v (machine p page line staging store) f) ≡ given_feeding (answer_to v p i) page line staging store
unfolding heard
heard-told i event.Quiet p page line staging store f n = absurd (true≢false n)
heard-told i event.Finished p page line staging store f n = refl
heard-told i (event.Noted g place) p page line staging store f n = refl

module _ (e : Edition) (font piece : List ℕ) (i : ℕ) (m : Machine) where
  -- the bytes that are left, with the count of those that were taken
  abbrev left : Feeding
  left = more i (take_bytes e font (drop i piece) m)

  pub taken_all : length piece ≤ i → left ≡ record { answer = Done; taken = i; machine = m }
  unfolding take_bytes
  taken_all h = simp (drop_of_length-le piece h) (more-stopped i (stopped Done m) refl)

  pub taken_full : i < length piece → m.printer.job ≡ limit → left ≡ record { answer = JobFull; taken = i; machine = m }
  unfolding take_bytes
  taken_full h full = simp (drop-cons piece i 0 h, le-ltb m.printer.job limit (omega arith)) (more-stopped i (stopped JobFull m) refl)

  module _ (s : Step) (is : s ≡ step e font (get_or piece i 0) m) (h : i < length piece) (room : m.printer.job < limit) where
    pub taken_on : is_quiet s.event ≡ true → left ≡ more (i + 1) (take_bytes e font (drop (i + 1) piece) s.machine)
    unfolding take_bytes
    taken_on q =
        let rest : Feeding = take_bytes e font (drop (i + 1) piece) s.machine in
        let q' : i + suc rest.taken ≡ i + 1 + rest.taken = omega arith in
        simp (drop-cons piece i 0 h, lt-ltb _ _ room, ← is, ← add-one i)
        (ap (more i) (heard-quiet s.event s.machine rest q) ∙ ap (λ (n : ℕ). with_taken n rest) q')

    pub taken_out : is_quiet s.event ≡ false
        → left
        ≡ given_feeding (answer_to s.event s.machine.printer i) s.machine.page s.machine.line s.machine.staging s.machine.store
    unfolding take_bytes
    taken_out n =
        simp (drop-cons piece i 0 h, lt-ltb _ _ room, ← is)
        (heard-told i s.event s.machine.printer s.machine.page s.machine.line s.machine.staging s.machine.store _ n)
