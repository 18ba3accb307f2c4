-- The table A to L at the calls, of each model: each case's job, fed in one piece from the case's start, gives what the case says, and the last
-- answer is 0.
use Prim.Native.Nat.{ℕ, ◌+◌, ◌≤◌}
use mathlib.Core.Bool.{Bool, true, false, not, ◌&&◌, and-eq-true_iff}
use mathlib.Core.List.{List, [], ◌∷◌, map, append-nil}
use mathlib.Core.Path.{◌≡◌, refl, ◌∙◌}
use native.Mathlib.Omega.{arith}
use borrow.Author.Tests.{leb-true}
use lib.Dec.{T, leb}
use lib.ListN.{length}
use Rattle.sheet.proofs.Editions.{described_proper}
use Rattle.sheet.specs.declared.Form.{Form}
use Rattle.sheet.specs.declared.Pitch.TheVariants.{Normal}
use Rattle.sheet.specs.declared.Model.{Model}
use Rattle.sheet.specs.declared.Model.TheVariants.{Lp2, Dg6215}
use Rattle.sheet.specs.Edition.{described, dg6215, lp2}
use Rattle.sheet.specs.Form.{first_row, lines_allowed, new_form, rows_per_line, spacing_allowed, top_row}
use Rattle.printer.specs.Commands.{reading}
use Rattle.printer.specs.Machine.{Machine, opened, store_size}
use Rattle.printer.specs.Numbers.{plain}
use Rattle.printer.specs.Table.{Case, Meets, found, from_f_on, start, table, table_6215}
use Rattle.printer.specs.Room.{Ready}
use Rattle.printer.specs.Facts.{SoundHead}
use Rattle.printer.proofs.StaysSound.{opened_ready}
use Rattle.printer.proofs.Table.{cases, cases_6215}
use Rattle.protocol.specs.Answers.{report}
use Rattle.protocol.specs.Calls.{feeding}
use Rattle.protocol.specs.Protocol.{Delivery, delivered, delivery, joined, outcome}
use Rattle.protocol.proofs.Cutting.{any_cutting_from}

-- a line that is no plot line is fresh
fresh-row : (plotted : Bool) → T (not plotted) → (◌≡◌ {A = ℕ} 0 0) × (plotted ≡ false)
fresh-row false t = (refl, refl)
fresh-row true t = elim t [ ]

-- 66 lines are a form of either model
form_allowed : (w : Model) → lines_allowed (described w) 66 ≡ true
unfolding lines_allowed lp2 dg6215
form_allowed Lp2 = refl
form_allowed Dg6215 = refl

start_ready : (w : Model) (r : ℕ) (plotted : Bool) → r + 9 ≤ 792 → Ready (described w) (start w r plotted)
unfolding rows_per_line top_row first_row spacing_allowed
start_ready w r plotted l =
    let f : Form = new_form 66 6 in
    let h : Ready (described w) (opened w f) = opened_ready w 66 6 (form_allowed w) refl in
    let head : SoundHead f ((described w).width Normal) (start w r plotted).printer.head =
    record { above = omega arith; row = l; column = omega arith; fresh = fresh-row plotted } in
    record {
      printer = record { form = h.printer.form; head = head; tabs = h.printer.tabs; load = tt; place = tt; plot = λ t. absurd t };
      memory = h.memory;
    }

-- a case starts on a row of the form and has a short job
abbrev fed : Case → Bool
fed c = leb (c.row + 9) 792 && leb (length c.job) 200

abbrev all_fed : List Case → Bool
all_fed [] = true
all_fed (c ∷ cs) = fed c && all_fed cs

table-fed : all_fed table ≡ true
unfolding table from_f_on
table-fed = refl

table_6215-fed : all_fed table_6215 ≡ true
unfolding table_6215 from_f_on
table_6215-fed = refl

module _ (w : Model) (font : List ℕ) (sized : length font ≡ store_size) where
  -- a job fed in one piece
  abbrev pub whole : List ℕ → Machine → Delivery
  whole job m = delivery (described w) (feeding (described w) font) (job ∷ []) m

  one_piece : (c : Case) → fed c ≡ true
      → whole c.job (start w c.row c.plotted) ≡ delivered (reading (described w) font c.job (start w c.row c.plotted))
  unfolding joined
  one_piece c q =
      let t = (and-eq-true_iff _ _).0 q in
      let l : length c.job ≤ 200 = leb-true _ _ t.1 in
      simp append-nil at
      (any_cutting_from (described_proper w) (start_ready w c.row c.plotted (leb-true _ _ t.0)) refl font sized
      (c.job ∷ []) (simp append-nil (omega arith)))

  found_same : (cs : List Case) → all_fed cs ≡ true
      → map (found w (λ (job : List ℕ) (m : Machine). outcome (whole job m))) cs ≡ map (found w (reading (described w) font)) cs
  unfolding found
  found_same [] q = refl
  found_same (c ∷ cs) q =
      let t = (and-eq-true_iff _ _).0 q in
      rw (one_piece c t.0, found_same cs t.1)

  -- the calls meet some cases
  abbrev pub CallsMeet : List Case → Type 0
  CallsMeet cs = Meets w cs (λ (job : List ℕ) (m : Machine). outcome (whole job m))

  -- and the last answer of each is 0
  abbrev pub CallsDone : List Case → Type 0
  CallsDone cs = map (λ (c : Case). report (whole c.job (start w c.row c.plotted)).answer) cs ≡ map (λ (c : Case). plain 0) cs

  done_all : (cs : List Case) → all_fed cs ≡ true → CallsDone cs
  unfolding report
  done_all [] q = refl
  done_all (c ∷ cs) q =
      let t = (and-eq-true_iff _ _).0 q in
      rw (one_piece c t.0, done_all cs t.1)

module _ (font : List ℕ) (sized : length font ≡ store_size) where
  -- the calls find in each case of the model's table what the case says
  pub calls_meet : CallsMeet Lp2 font sized table
  calls_meet = found_same Lp2 font sized table table-fed ∙ cases.by_commands font

  pub calls_meet_6215 : CallsMeet Dg6215 font sized table_6215
  calls_meet_6215 = found_same Dg6215 font sized table_6215 table_6215-fed ∙ cases_6215.by_commands font

  -- and the last answer of each is 0
  pub calls_done : CallsDone Lp2 font sized table
  calls_done = done_all Lp2 font sized table table-fed

  pub calls_done_6215 : CallsDone Dg6215 font sized table_6215
  calls_done_6215 = done_all Dg6215 font sized table_6215 table_6215-fed
