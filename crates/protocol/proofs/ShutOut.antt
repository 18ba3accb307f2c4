-- The five programs that have to be shut out, each where document 01 says that it falls: "Evidence asked". A program is any way of feeding.
use Prim.Native.Nat.{ℕ, zero, suc, ◌<◌}
use mathlib.Core.Bool.{Bool, true, false, cond}
use mathlib.Core.List.{List, [], ◌∷◌, map, append-nil}
use mathlib.Core.Path.{◌∙◌, ◌≡◌, ap, refl, subst, sym}
use native.Mathlib.Omega.{arith}
use lib.ListN.{drop, drop_of_length-le, get_or, length, replicate}
use Rattle.sheet.proofs.Editions.{described_proper}
use Rattle.sheet.specs.declared.Model.TheVariants.{Lp2}
use Rattle.sheet.specs.Edition.{lp2}
use Rattle.sheet.specs.Form.{first_row, lines_allowed, rows_per_line, spacing_allowed, top_row}
use Rattle.printer.specs.declared.Fault.TheVariants.{HighByte}
use Rattle.printer.specs.Alone.{alone, prints, text_byte}
use Rattle.printer.specs.Bytes.{act, first_byte, run, second_byte, step, text_escape}
use Rattle.printer.specs.Commands.{reading}
use Rattle.printer.specs.Escapes.{escape}
use Rattle.printer.specs.Machine.{Machine, empty_store, store_size}
use Rattle.printer.specs.Numbers.{Report, plain, told_report}
use Rattle.printer.specs.Room.{Ready}
use Rattle.printer.specs.Steps.{Outcome, before, note, tell, tell_step}
use Rattle.printer.specs.Table.{Case, Findings, Meets, Seen, answer, bytes, found, from_f_on, from_top, look_at, note_at, number, start, stated, table}
use Rattle.printer.proofs.Readings.{run_reading}
use Rattle.printer.proofs.StaysSound.{opened_ready, step_fine}
use Rattle.protocol.specs.declared.Answer.{Answer}
use Rattle.protocol.specs.declared.Answer.TheVariants.{Done, Finished, Noted, JobFull, Unsound, Misfit, WrongLines, WrongSpacing}
use Rattle.protocol.specs.declared.Lent.TheVariants.{Page, LineStore, Staging, DownloadStore, Font}
use Rattle.protocol.specs.Answers.{lent_number, refusal, report}
use Rattle.protocol.specs.Calls.{Feeding, feeding, heard, take_bytes}
use Rattle.protocol.specs.Protocol.{Delivery, after, answered, delivered, delivery, ends, joined, offer, outcome, used_up}
use Rattle.protocol.proofs.Accepted.{feeding_takes}

-- a program, by what its calls give back
abbrev pub Program : Type 0
Program = List ℕ → Machine → Feeding

-- a program as a way of reading a job: the job delivered in one piece
abbrev pub in_one_piece : Program → List ℕ → Machine → Outcome
in_one_piece feed job m = outcome (delivery lp2 feed (job ∷ []) m)

-- demand 2 for a program at a case of the table
abbrev pub MeetsCase : Program → Case → Type 0
MeetsCase feed c = found Lp2 (in_one_piece feed) c ≡ stated c

-- a job just opened, on 66 lines at 6 an inch
abbrev pub at_top : Machine
at_top = start Lp2 0 false

-- demand 3 for a program at a cutting: such a job is delivered as the whole of it is read
abbrev pub MeetsCutting : List ℕ → Program → List (List ℕ) → Type 0
MeetsCutting font feed pieces = delivery lp2 feed pieces at_top ≡ delivered (reading lp2 font (joined pieces) at_top)

-- a program that gives back what feeding does, but for the count
pub record AllButCount (font : List ℕ) (feed : Program) : Type 0 where
  pub answers : (piece : List ℕ) (m : Machine) → (feed piece m).answer ≡ (feeding lp2 font piece m).answer
  pub leaves : (piece : List ℕ) (m : Machine) → (feed piece m).machine ≡ (feeding lp2 font piece m).machine

-- a case by its place in the table
abbrev case : ℕ → Case
case i = get_or table i (from_top [] [] [])

-- Cases B, C and H, the last with the right checksum.
abbrev pub case_b : Case
case_b = case 1

abbrev pub case_c : Case
case_c = case 2

abbrev pub case_h : Case
case_h = case 7

abbrev findings : ℕ → List Findings → Findings
findings i fs = get_or fs i (record { told = []; seen = [] })

-- a program that meets the table meets them
pub table_has : (feed : Program) → Meets Lp2 table (in_one_piece feed) → MeetsCase feed case_b × MeetsCase feed case_c × MeetsCase feed case_h
unfolding table from_f_on
table_has feed h = (ap (findings 1) h, ap (findings 2) h, ap (findings 7) h)

-- a refusal tells nothing
refused_silent : (a : Answer) (m : Machine) (go : Machine → Delivery) → refusal a ≡ true → (answered lp2 a m go).told ≡ []
unfolding refusal answered
refused_silent Done m go q = refl
refused_silent Finished m go q = let z : ◌≡◌ {A = ℕ} 0 1 = cc in absurd (omega arith)
refused_silent (Noted f place) m go q = let z : ◌≡◌ {A = ℕ} 0 1 = cc in absurd (omega arith)
refused_silent JobFull m go q = refl
refused_silent Unsound m go q = refl
refused_silent (Misfit lent) m go q = refl
refused_silent WrongLines m go q = refl
refused_silent WrongSpacing m go q = refl

-- what is told after an answer, by its numbers
abbrev told_after : Answer → Machine → (Machine → Delivery) → List Report
told_after a m go = map told_report (answered lp2 a m go).told

-- after an answer 2 something is told
note-told : (a : Answer) (m : Machine) (go : Machine → Delivery) → (report a).number ≡ 2 → 0 < length (told_after a m go)
unfolding report lent_number answered
note-told Done m go q = absurd (omega arith)
note-told Finished m go q = absurd (omega arith)
note-told (Noted f place) m go q = omega arith
note-told JobFull m go q = absurd (omega arith)
note-told Unsound m go q = absurd (omega arith)
note-told (Misfit Page) m go q = absurd (omega arith)
note-told (Misfit LineStore) m go q = absurd (omega arith)
note-told (Misfit Staging) m go q = absurd (omega arith)
note-told (Misfit DownloadStore) m go q = absurd (omega arith)
note-told (Misfit Font) m go q = absurd (omega arith)
note-told WrongLines m go q = absurd (omega arith)
note-told WrongSpacing m go q = absurd (omega arith)

abbrev first_number : List Report → ℕ
first_number rs = (get_or rs 0 (plain 0)).number

-- one note and no more is not told where an answer 2 has another behind it
not_one_note : (a : Answer) (m : Machine) (go : Machine → Delivery) (n place : ℕ)
    → ((report a).number ≡ 2 → 0 < length (map told_report (go m).told)) → told_after a m go ≡ note_at n place ∷ [] → ⊥
unfolding report told_report answered
not_one_note Done m go n place h q = let k = ap length q in omega arith
not_one_note Finished m go n place h q = let k = ap first_number q in omega arith
not_one_note (Noted f at) m go n place h q = let k = ap length q in omega (arith, h refl)
not_one_note JobFull m go n place h q = let k = ap length q in omega arith
not_one_note Unsound m go n place h q = let k = ap length q in omega arith
not_one_note (Misfit lent) m go n place h q = let k = ap length q in omega arith
not_one_note WrongLines m go n place h q = let k = ap length q in omega arith
not_one_note WrongSpacing m go n place h q = let k = ap length q in omega arith

-- an answer leaves the download store as it is if what goes on does
answered_keeps : (a : Answer) (m : Machine) (go : Machine → Delivery) → ((n : Machine) → (go n).machine.store ≡ n.store)
    → (answered lp2 a m go).machine.store ≡ m.store
unfolding answered
answered_keeps Done m go k = refl
answered_keeps Finished m go k = k _
answered_keeps (Noted f place) m go k = k m
answered_keeps JobFull m go k = refl
answered_keeps Unsound m go k = refl
answered_keeps (Misfit lent) m go k = refl
answered_keeps WrongLines m go k = refl
answered_keeps WrongSpacing m go k = refl

-- the third of the bytes that are seen first
abbrev third_byte : List Seen → ℕ
third_byte [] = 0
third_byte (number n ∷ ss) = 0
third_byte (bytes bs ∷ ss) = get_or bs 2 0
third_byte (answer r ∷ ss) = 0

top_ready : Ready lp2 at_top
unfolding lp2 lines_allowed spacing_allowed top_row first_row rows_per_line
top_ready = opened_ready Lp2 66 6 refl refl

-- 1B 3C, which sets elongated characters, is used up and tells nothing; 80 behind it gives a note
abbrev obeyed : List ℕ
obeyed = 0x1b ∷ 0x3c ∷ []

obeyed_taken : (font : List ℕ) → ((take_bytes lp2 font obeyed at_top).answer ≡ Done) × ((take_bytes lp2 font obeyed at_top).machine.printer.job ≡ 2)
unfolding take_bytes heard step act first_byte second_byte text_escape escape
obeyed_taken font = (refl, refl)

obeyed_read : (font : List ℕ) → length (reading lp2 font (0x1b ∷ 0x3c ∷ 0x80 ∷ []) at_top).told ≡ 1
unfolding run tell_step tell step act first_byte second_byte text_escape escape alone text_byte prints
obeyed_read font = rw (sym (run_reading lp2 font (0x1b ∷ 0x3c ∷ 0x80 ∷ []) at_top refl)) refl

-- 80 00: the first byte gives a note, the second does nothing
abbrev noted_first : List ℕ
noted_first = 0x80 ∷ 0x00 ∷ []

-- what the first byte leaves
abbrev noted_left : List ℕ → Machine
noted_left font = (step lp2 font 0x80 at_top).machine

noted_tells : (font : List ℕ) → (tell_step lp2 (step lp2 font 0x80 at_top)).machine ≡ noted_left font
unfolding tell_step tell step act first_byte alone text_byte prints
noted_tells font = refl

noted_ready : (font : List ℕ) → Ready lp2 (noted_left font)
noted_ready font = subst (Ready lp2) (noted_tells font) (step_fine (described_proper Lp2) top_ready font 0x80).ready

noted-taken : (font : List ℕ)
    → ((take_bytes lp2 font noted_first at_top).answer ≡ Noted HighByte 0)
    × ((take_bytes lp2 font noted_first at_top).machine ≡ noted_left font)
    × ((take_bytes lp2 font noted_first at_top).taken ≡ 1)
unfolding take_bytes heard step act first_byte alone text_byte prints
noted-taken font = (refl, refl, refl)

noted_again : (font : List ℕ) → (take_bytes lp2 font noted_first (noted_left font)).answer ≡ Noted HighByte 1
unfolding take_bytes heard step act first_byte alone text_byte prints
noted_again font = refl

noted_none : (font : List ℕ) → ((take_bytes lp2 font [] (noted_left font)).answer ≡ Done)
    × ((take_bytes lp2 font [] (noted_left font)).machine.printer.job ≡ 1)
unfolding take_bytes step act first_byte alone text_byte prints
noted_none font = (refl, refl)

noted_read : (font : List ℕ) → (length (reading lp2 font noted_first at_top).told ≡ 1) × ((reading lp2 font noted_first at_top).machine.printer.job ≡ 2)
unfolding run tell_step tell step act first_byte alone text_byte prints
noted_read font = rw (sym (run_reading lp2 font noted_first at_top refl)) (refl, refl)

module _ (feed : Program) where
  -- a job in one piece is what the offers of it come to
  offers : (job : List ℕ) (m : Machine) → in_one_piece feed job m ≡ outcome (offer lp2 feed (suc (length job)) job m)
  unfolding delivery
  offers job m = let d : Delivery = offer lp2 feed (suc (length job)) job m in either d (used_up d.answer)
    where
      either : (d : Delivery) (b : Bool) → outcome (cond b (after d.told (ends Done d.machine)) d) ≡ outcome d
      either d true = rw (append-nil d.told)
      either d false = refl

  -- what is told of a job in one piece
  abbrev tells : List ℕ → List Report
  tells job = map told_report (offer lp2 feed (suc (length job)) job at_top).told

  case_tells : (job : List ℕ) (told : List Report) → MeetsCase feed (from_top job told []) → tells job ≡ told
  unfolding found stated
  case_tells job told h = ap (λ (o : Outcome). map told_report o.told) (sym (offers job at_top)) ∙ ap (λ (f : Findings). f.told) h

  refusing_tells : ((piece : List ℕ) (m : Machine) → refusal (feed piece m).answer ≡ true) → (job : List ℕ) → tells job ≡ []
  unfolding offer
  refusing_tells h job = rw (refused_silent (feed job at_top).answer _ _ (h job at_top))

  one_number_tells : (n : ℕ) → ((piece : List ℕ) (m : Machine) → (report (feed piece m).answer).number ≡ n) → (b : ℕ) (bs : List ℕ) (fault place : ℕ)
      → tells (b ∷ bs) ≡ note_at fault place ∷ [] → ⊥
  unfolding offer
  one_number_tells n h b bs fault place q =
      let f : Feeding = feed (b ∷ bs) at_top in
      let rest : List ℕ = drop f.taken (b ∷ bs) in
      not_one_note f.answer f.machine _ fault place
      (λ two. note-told (feed rest f.machine).answer _ _ (h rest f.machine ∙ sym (h (b ∷ bs) at_top) ∙ two)) q

  -- A PROGRAM THAT REFUSES ALL falls to demand 2 at case B, and at case C.
  pub refuses_all : ((piece : List ℕ) (m : Machine) → refusal (feed piece m).answer ≡ true) → (MeetsCase feed case_b → ⊥) × (MeetsCase feed case_c → ⊥)
  unfolding table
  refuses_all h = (
    λ b. let k = ap length (sym (refusing_tells h case_b.job) ∙ case_tells case_b.job case_b.told b) in omega arith,
    λ c. let k = ap length (sym (refusing_tells h case_c.job) ∙ case_tells case_c.job case_c.told c) in omega arith,
  )

  -- ONE WITH A SINGLE ANSWER falls there too: even one whose answers all have the same number, whatever their values.
  pub single_answer : (n : ℕ) → ((piece : List ℕ) (m : Machine) → (report (feed piece m).answer).number ≡ n)
      → (MeetsCase feed case_b → ⊥) × (MeetsCase feed case_c → ⊥)
  unfolding table
  single_answer n h = (
    λ b. one_number_tells n h 0x41 (replicate 132 0x41) 44 132 (case_tells case_b.job case_b.told b),
    λ c. one_number_tells n h 0x1b (0x3c ∷ replicate 67 0x41) 44 68 (case_tells case_c.job case_c.told c),
  )

  abbrev KeepsStore : Type 0
  KeepsStore = (piece : List ℕ) (m : Machine) → (feed piece m).machine.store ≡ m.store

  offer_keeps : KeepsStore → (calls : ℕ) (piece : List ℕ) (m : Machine) → (offer lp2 feed calls piece m).machine.store ≡ m.store
  unfolding offer
  offer_keeps keeps zero piece m = refl
  offer_keeps keeps (suc calls) piece m =
      let f : Feeding = feed piece m in
      answered_keeps f.answer f.machine _ (offer_keeps keeps calls (drop f.taken piece)) ∙ keeps piece m

  job_keeps : KeepsStore → (job : List ℕ) (m : Machine) → (in_one_piece feed job m).machine.store ≡ m.store
  job_keeps keeps job m = ap (λ (o : Outcome). o.machine.store) (offers job m) ∙ offer_keeps keeps (suc (length job)) job m

  -- ONE THAT LEAVES MEMORY ALONE, be it only the download store, falls to demand 2 at case H.
  pub leaves_memory_alone : ((piece : List ℕ) (m : Machine) → (feed piece m).machine.store ≡ m.store) → MeetsCase feed case_h → ⊥
  unfolding table from_f_on found stated look_at empty_store
  leaves_memory_alone keeps h =
      let k : ◌≡◌ {A = ℕ} 0 1 = rw (job_keeps keeps case_h.job at_top) at (ap (λ (f : Findings). third_byte f.seen) h) in
      omega arith

  -- a piece that is used up at its first call
  done_at_once : (piece : List ℕ) (pieces : List (List ℕ)) (m : Machine) → (feed piece m).answer ≡ Done
      → delivery lp2 feed (piece ∷ pieces) m ≡ delivery lp2 feed pieces (feed piece m).machine
  unfolding delivery offer answered
  done_at_once piece pieces m q = rw q

  module _ (font : List ℕ) (sized : length font ≡ store_size) where
    -- ONE THAT OBEYS THE FIRST PIECE AND FEIGNS THE REST, answering 0 whatever it takes and leaves, falls to demand 3: with 1B 3C and then 80.
    pub feigns_the_rest : ((piece : List ℕ) (m : Machine) → m.printer.job ≡ 0 → feed piece m ≡ feeding lp2 font piece m)
        → ((piece : List ℕ) (m : Machine) → 0 < m.printer.job → (feed piece m).answer ≡ Done)
        → MeetsCutting font feed ((0x1b ∷ 0x3c ∷ []) ∷ (0x80 ∷ []) ∷ []) → ⊥
    unfolding joined delivery
    feigns_the_rest obeys feigns h =
        let f : feed obeyed at_top ≡ take_bytes lp2 font obeyed at_top = obeys obeyed at_top refl ∙ feeding_takes top_ready font sized obeyed in
        let d = done_at_once obeyed ((0x80 ∷ []) ∷ []) at_top (ap (λ (g : Feeding). g.answer) f ∙ (obeyed_taken font).0) in
        let j : (feed obeyed at_top).machine.printer.job ≡ 2 = ap (λ (g : Feeding). g.machine.printer.job) f ∙ (obeyed_taken font).1 in
        let r = done_at_once (0x80 ∷ []) [] (feed obeyed at_top).machine (feigns (0x80 ∷ []) (feed obeyed at_top).machine (omega (arith, j))) in
        let k = ap (λ (x : Delivery). length x.told) (sym (d ∙ r) ∙ h) in
        omega (arith, k, obeyed_read font)

    module _ (right : AllButCount font feed) where
      -- 80 00 in one piece: the note, and then what the count leaves of the piece
      counted_out : (n : ℕ) → (feed noted_first at_top).taken ≡ n
          → in_one_piece feed noted_first at_top ≡ before (note HighByte 0 ∷ []) (outcome (offer lp2 feed 2 (drop n noted_first) (noted_left font)))
      unfolding offer answered
      counted_out n q =
          offers noted_first at_top
          ∙ rw (q, right.answers noted_first at_top, right.leaves noted_first at_top, feeding_takes top_ready font sized noted_first)
          (rw ((noted-taken font).0, (noted-taken font).1) refl)

      -- the piece offered again tells another note
      told_again : 0 < length (offer lp2 feed 2 noted_first (noted_left font)).told
      unfolding offer answered
      told_again =
          rw (right.answers noted_first (noted_left font), feeding_takes (noted_ready font) font sized noted_first, noted_again font) (omega arith)

      -- nothing offered leaves the second byte uncounted
      none_left : (offer lp2 feed 2 [] (noted_left font)).machine.printer.job ≡ 1
      unfolding offer answered
      none_left =
          rw (right.answers [] (noted_left font), right.leaves [] (noted_left font), feeding_takes (noted_ready font) font sized [])
          (rw ((noted_none font).0, (noted_none font).1) refl)

      by_count : (n : ℕ) → (feed noted_first at_top).taken ≡ n → MeetsCutting font feed (noted_first ∷ []) → n ≡ 1
      unfolding joined
      by_count zero q h =
          let k = ap (λ (o : Outcome). length o.told) (sym (counted_out 0 q) ∙ ap outcome h) in
          absurd (omega (arith, k, told_again, (noted_read font).0))
      by_count (suc zero) q h = refl
      by_count (suc (suc n)) q h =
          let none : drop (suc (suc n)) noted_first ≡ [] = drop_of_length-le noted_first {i = suc (suc n)} (omega arith) in
          let l = ap (λ (bs : List ℕ). (offer lp2 feed 2 bs (noted_left font)).machine.printer.job) none in
          let k = ap (λ (o : Outcome). o.machine.printer.job) (sym (counted_out (suc (suc n)) q) ∙ ap outcome h) in
          absurd (omega (arith, k, l, none_left, (noted_read font).1))

    -- ONE WITH A MADE-UP COUNT, right in all else, falls to demand 3: with 80 00 in one piece no count but the right one stands.
    pub made_up_count : AllButCount font feed → MeetsCutting font feed ((0x80 ∷ 0x00 ∷ []) ∷ [])
        → (feed (0x80 ∷ 0x00 ∷ []) at_top).taken ≡ (feeding lp2 font (0x80 ∷ 0x00 ∷ []) at_top).taken
    made_up_count right h =
        by_count right _ refl h ∙ sym (ap (λ (g : Feeding). g.taken) (feeding_takes top_ready font sized noted_first) ∙ (noted-taken font).2)
