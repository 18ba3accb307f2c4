-- A piece of which some bytes are taken: how a run and a step lead on, and how the taking ends.
use Prim.Native.Nat.{ℕ, ◌+◌, ◌-◌, ◌≤◌, ◌<◌}
use mathlib.Core.Bool.{false, true, true≢false}
use mathlib.Core.List.{List}
use mathlib.Core.Path.{◌≡◌, refl, ap, subst, sym, ◌∙◌}
use native.Mathlib.Omega.{arith}
use lib.ListN.{drop, get_or, length, length-drop, take}
use lib.Seq.{drop-drop, take_all}
use Rattle.sheet.specs.Edition.{Edition, described}
use Rattle.sheet.proofs.Editions.{Proper}
use Rattle.printer.proofs.Ready.{quiet_ready}
use Rattle.printer.specs.declared.Event.{Event}
use Rattle.printer.specs.declared.Event.TheVariants as event
use Rattle.printer.specs.declared.Printer.{Printer}
use Rattle.printer.specs.Bytes.{step}
use Rattle.printer.specs.Given.{machine}
use Rattle.printer.specs.Machine.{Machine, edition_of, limit, store_size}
use Rattle.printer.specs.Room.{Ready, Room, Writable}
use Rattle.printer.specs.Steps.{Step}
use Rattle.printer.proofs.Keeping.{step_counts}
use Rattle.printer.proofs.StaysSound.{step_fine}
use Rattle.protocol.specs.declared.Answer.TheVariants.{Done, JobFull}
use Rattle.protocol.specs.Calls.{Feeding, take_bytes}
use Rattle.protocol.specs.Given.{answer_to, given_feeding, is_quiet, more}
use Rattle.protocol.proofs.Taking.{ready_room, taken_all, taken_full, taken_on, taken_out}
use Rattle.runs.proofs.Leading.{Leads}

-- i bytes of a piece have led from one machine to another, both of one edition
pub record Underway (e : Edition) (font piece : List ℕ) (m₀ m : Machine) (i : ℕ) : Type 0 where
  pub edition : edition_of m.printer ≡ e
  pub ready : Ready e m
  pub within : i ≤ length piece
  pub same : take_bytes e font piece m₀ ≡ more i (take_bytes e font (drop i piece) m)

-- an event that is quiet
quiet-event : (v : Event) → is_quiet v ≡ true → v ≡ event.Quiet
quiet-event event.Quiet q = refl
quiet-event event.Finished q = absurd (true≢false (sym q))
quiet-event (event.Noted f place) q = absurd (true≢false (sym q))

-- what a run asks for
pub writable : {e : Edition} → Proper e → {p : Printer} {page line staging store font : List ℕ} → Ready e (machine p page line staging store)
    → length font ≡ store_size → Writable e p line store font
writable {e} proper {p} {page} {line} {staging} {store} {font} h f =
    let r : Room e p page line staging store font = ready_room proper h f in
    record { column = r.column; line = r.line; store = r.store; resident = r.resident }

-- what is left of a piece, as a part of it
pub left_over : (piece : List ℕ) (i : ℕ) → take (length piece - i) (drop i piece) ≡ drop i piece
left_over piece i = take_all (length piece - i) (drop i piece) (simp length-drop (omega arith))

more-more : (i t : ℕ) (f : Feeding) → more i (more t f) ≡ more (i + t) f
more-more i t f =
    let e : i + (t + f.taken) ≡ i + t + f.taken = omega arith in ap (λ (n : ℕ). record { answer = f.answer; taken = n; machine = f.machine }) e

module _ {e : Edition} {font piece : List ℕ} {m₀ m : Machine} {i : ℕ} (h : Underway e font piece m₀ m i) where
  -- ready by the edition that the state has
  pub ready_here : Ready (edition_of m.printer) m
  ready_here = subst (λ (x : Edition). Ready x m) (sym h.edition) h.ready

  -- a run more
  pub after_run : {t : ℕ} {n : Machine} → Leads (edition_of m.printer) font (take (length piece - i) (drop i piece)) t m n
      → Underway e font piece m₀ n (i + t)
  after_run {t} {n} r =
      let rest : List ℕ = take (length piece - i) (drop i piece) in
      let s : Leads e font rest t m n = subst (λ (x : Edition). Leads x font rest t m n) h.edition r in
      let l : Leads e font (drop i piece) t m n = subst (λ (bs : List ℕ). Leads e font bs t m n) (left_over piece i) s in
      record {
        edition = ap described l.model ∙ h.edition;
        ready = l.ready h.ready;
        within = let k = l.within in omega (arith, h.within, length-drop i piece);
        same = h.same ∙ ap (more i) l.same ∙ more-more i t _ ∙ ap (λ (bs : List ℕ). more (i + t) (take_bytes e font bs n)) (drop-drop t i piece);
      }

  pub used_up : length piece ≤ i → take_bytes e font piece m₀ ≡ record { answer = Done; taken = i; machine = m }
  used_up l = h.same ∙ taken_all e font piece i m l

  module _ (l : i < length piece) where
    pub at_limit : m.printer.job ≡ limit → take_bytes e font piece m₀ ≡ record { answer = JobFull; taken = i; machine = m }
    at_limit full = h.same ∙ taken_full e font piece i m l full

    module _ (room : m.printer.job < limit) (s : Step) (here : s ≡ step (edition_of m.printer) font (get_or piece i 0) m) where
      is : s ≡ step e font (get_or piece i 0) m
      is = here ∙ ap (λ (x : Edition). step x font (get_or piece i 0) m) h.edition

      -- a quiet byte more
      pub after_step : Proper e → is_quiet s.event ≡ true → Underway e font piece m₀ s.machine (i + 1)
      after_step proper q =
          record {
            edition =
                ap (λ (t : Step). edition_of t.machine.printer) is ∙ ap described (step_counts e font (get_or piece i 0) m).model ∙ h.edition;
            ready =
                subst (λ (t : Step). Ready e t.machine) (sym is)
                (quiet_ready (step_fine proper h.ready font (get_or piece i 0)) (ap (λ (t : Step). t.event) (sym is) ∙ quiet-event s.event q));
            within = omega (arith, l);
            same = h.same ∙ taken_on e font piece i m s is l room q;
          }

      pub told : is_quiet s.event ≡ false
          → take_bytes e font piece m₀
          ≡ given_feeding (answer_to s.event s.machine.printer i) s.machine.page s.machine.line s.machine.staging s.machine.store
      told n = h.same ∙ taken_out e font piece i m s is l room n
