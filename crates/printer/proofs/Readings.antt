-- The bytes one at a time do what the commands do: from every machine with nothing pending a run is the whole-job reading.
use Prim.Native.Nat.{ℕ, zero, suc, ◌+◌, ◌-◌, ◌*◌, ◌≤◌}
use mathlib.Core.Bool.{Bool, ◌&&◌, cond, false, true}
use mathlib.Core.List.{List, [], ◌∷◌}
use mathlib.Core.Path.{◌≡◌, refl, sym, ap, subst, ◌∙◌}
use native.Mathlib.Nat.{zero-add}
use native.Mathlib.Omega.{arith}
use lib.Dec.{eqb}
use lib.ListN.{drop, length, length-drop, take}
use Rattle.sheet.specs.Edition.{Edition}
use Rattle.printer.specs.Brackets.{no_settings, settings}
use Rattle.printer.specs.declared.Pending.{Pending}
use Rattle.printer.specs.declared.Pending.TheVariants.{Bracket, CountHigh, Escape, Nothing, Reset, Select, Tabs}
use Rattle.printer.specs.Alone.{alone}
use Rattle.printer.specs.Bytes.{act, first_byte, run, second_byte, step, text_escape, waiting}
use Rattle.printer.specs.Commands.{Cut, Items, byte, cut, cut_checksum, cut_download, cut_escape, cut_reset, cut_select, cut_tabs, unended}
use Rattle.printer.specs.Commands.{escaped, items, leave, leave_download, leave_select, listed, obey, read, read_cut, reading, set_tabs}
use Rattle.printer.specs.Commands.{Text, cut_bracket, ending, endless, text, unfinished, whole}
use Rattle.printer.specs.Escapes.{clear_tabs, escape}
use Rattle.printer.specs.Machine.{Machine, with_job, with_pending}
use Rattle.printer.specs.Plotting.{plot_escape}
use Rattle.printer.specs.Steps.{Outcome, before, silent, tell, tell_step, then}
use Rattle.printer.proofs.BracketTexts.{Spanned, after_text, text_run, text_spanned}
use Rattle.printer.proofs.Keeping.{Kept, obey_keeps}
use Rattle.printer.proofs.Payloads.{after_payload, payload_run}
use Rattle.printer.proofs.Resuming.{at, counts}
use Rattle.printer.proofs.Shorter.{Short, short_cut}
use Rattle.printer.proofs.TabLists.{Counted, after_items, items_counted, set_tabs_at, tabs_run}

module _ (e : Edition) (font : List ℕ) where
  -- `read_cut` going on byte by byte, with what an unfinished command leaves handed over
  unfoldable resume : Cut → List ℕ → Machine → Outcome → Outcome
  resume (whole c rest) bs m left = then (obey e font c m.printer.job (with_job (m.printer.job + (suc (length bs) - length rest)) m)) (run e font rest)
  resume unfinished bs m left = left

  read_cut_resume : (c : Cut) (bs : List ℕ) (m : Machine)
      → read_cut e font (run e font) c bs m ≡ resume c bs m (leave e font bs m.printer.job (with_job (m.printer.job + suc (length bs)) m))
  unfolding read_cut resume
  read_cut_resume (whole c rest) bs m = refl
  read_cut_resume unfinished bs m = refl

  -- Each command that began at place j, by the bytes bs that follow ESC and its letter x.
  module _ (j : ℕ) (m : Machine) where
    -- the count once all of them came
    abbrev all_came : List ℕ → ℕ
    all_came bs = j + suc (suc (length bs))

    tabs_cut : (x : ℕ) (bs : List ℕ) (i : Items) → Counted bs i
        → after_items e font j i bs (j + 1 + 1) (clear_tabs m)
        ≡ resume (cut_tabs i) (x ∷ bs) (at j Nothing m) (set_tabs e bs (j + 2) (clear_tabs (at (all_came bs) (Tabs j) m)))
    unfolding after_items cut_tabs resume obey clear_tabs
    tabs_cut x bs (listed ns rest) h =
        let s₁ : j + 1 + 1 ≡ j + 2 = omega arith in
        let s₂ : j + 2 + suc (length ns) ≡ j + (suc (suc (length bs)) - length rest) = omega arith in
        rw (set_tabs_at e ns (j + 2) (j + (suc (suc (length bs)) - length rest)) Nothing (clear_tabs m), s₁, s₂)
    tabs_cut x bs unended h =
        let s₁ : j + 1 + 1 ≡ j + 2 = omega arith in
        let s₂ : j + 2 + length bs ≡ all_came bs = omega arith in
        rw (set_tabs_at e bs (j + 2) (all_came bs) (Tabs j) (clear_tabs m), s₁, s₂)

    reset_cut : (x : ℕ) (bs : List ℕ)
        → run e font bs (at (j + 1 + 1) (Reset j) m) ≡ resume (cut_reset bs) (x ∷ bs) (at j Nothing m) (silent (at (all_came bs) (Reset j) m))
    unfolding run step act cut_reset resume obey
    reset_cut x [] = simp counts
    reset_cut x (b ∷ rest) = simp counts

    select_cut : (x : ℕ) (bs : List ℕ)
        → run e font bs (at (j + 1 + 1) (Select j) m)
        ≡ resume (cut_select bs) (x ∷ bs) (at j Nothing m) (silent (leave_select e font bs j (at (all_came bs) Nothing m)))
    unfolding run step act cut_select leave_select resume obey tell_step tell
    select_cut x [] = simp counts
    select_cut x (h ∷ []) = simp counts
    select_cut x (h ∷ l ∷ rest) = let s : j + 1 + 1 + 1 + 1 ≡ j + (suc (suc (suc (suc (length rest)))) - length rest) = omega arith in rw s

    bracket_cut : (x : ℕ) (bs : List ℕ) (t : Text) → Spanned bs t
        → after_text e font j t bs no_settings (j + 1 + 1) m
        ≡ resume (cut_bracket t) (x ∷ bs) (at j Nothing m) (silent (at (all_came bs) (Bracket j (settings bs no_settings)) m))
    unfolding after_text cut_bracket resume obey
    bracket_cut x bs (ending ts last rest) h =
        let s : j + 1 + 1 + suc (length ts) ≡ j + (suc (suc (length bs)) - length rest) = omega arith in
        rw s
    bracket_cut x bs endless h =
        let s : j + 1 + 1 + length bs ≡ all_came bs = omega arith in
        rw s

    payload_cut : (x a b c d : ℕ) (bs rest : List ℕ) → drop (a * 256 + b) bs ≡ rest
        → after_payload e font j (a * 256 + b) (c * 256 + d) rest (a * 256 + b) bs 0 0 (j + 1 + 1 + 1 + 1 + 1 + 1) m
        ≡ resume (cut_checksum (a * 256 + b) (c * 256 + d) (take (a * 256 + b) bs) rest) (x ∷ a ∷ b ∷ c ∷ d ∷ bs) (at j Nothing m)
        (silent (leave_download e font (a ∷ b ∷ c ∷ d ∷ bs) j (at (all_came (a ∷ b ∷ c ∷ d ∷ bs)) Nothing m)))
    unfolding after_payload cut_checksum leave_download resume obey
    payload_cut x a b c d bs [] h =
        let s : j + 1 + 1 + 1 + 1 + 1 + 1 + length bs ≡ j + suc (suc (suc (suc (suc (suc (length bs)))))) = omega arith in
        simp (zero-add, s)
    payload_cut x a b c d bs (k ∷ rest) h =
        let s : j + 1 + 1 + 1 + 1 + 1 + 1 + suc (a * 256 + b) ≡ j + (suc (suc (suc (suc (suc (suc (length bs)))))) - length rest) =
        omega (arith, simp length-drop at (ap length h)) in
        rw (zero-add, s)

    download_cut : (x : ℕ) (bs : List ℕ)
        → run e font bs (at (j + 1 + 1) (CountHigh j) m)
        ≡ resume (cut_download bs) (x ∷ bs) (at j Nothing m) (silent (leave_download e font bs j (at (all_came bs) Nothing m)))
    unfolding run step act cut_download resume leave_download tell_step tell
    download_cut x [] = simp counts
    download_cut x (a ∷ []) = simp counts
    download_cut x (a ∷ b ∷ []) = simp counts
    download_cut x (a ∷ b ∷ c ∷ []) = simp counts
    download_cut x (a ∷ b ∷ c ∷ d ∷ bs) =
        payload_run e font j (a * 256 + b) (c * 256 + d) (a * 256 + b) bs 0 0 (j + 1 + 1 + 1 + 1 + 1 + 1) m (omega arith)
        ∙ payload_cut x a b c d bs (drop (a * 256 + b) bs) refl

    -- the byte b after ESC, and the bytes bs after it
    module _ (b : ℕ) (bs : List ℕ) where
      -- outside plot mode, by the five tests of the byte; one that fails all of them is a whole command
      letter_cut : (t₁ t₂ t₃ t₄ t₅ : Bool) → m.printer.head.plotting ≡ false
          → then
          (tell_step e
          (cond t₁ (waiting (Tabs j) (clear_tabs (at (j + 1 + 1) (Escape j) m)))
          (cond t₂ (waiting (Reset j) (at (j + 1 + 1) (Escape j) m))
          (cond t₃ (waiting (CountHigh j) (at (j + 1 + 1) (Escape j) m))
          (cond t₄ (waiting (Select j) (at (j + 1 + 1) (Escape j) m))
          (cond t₅ (waiting (Bracket j no_settings) (at (j + 1 + 1) (Escape j) m))
          (escape e b j (at (j + 1 + 1) Nothing m))))))))
          (run e font bs)
          ≡ resume
          (cond t₁ (cut_tabs (items bs)) (cond t₂ (cut_reset bs) (cond t₃ (cut_download bs)
          (cond t₄ (cut_select bs) (cond t₅ (cut_bracket (text bs)) (whole (escaped b) bs))))))
          (b ∷ bs) (at j Nothing m)
          (cond t₁ (set_tabs e bs (j + 2) (clear_tabs (at (all_came bs) (Tabs j) m)))
          (cond t₂ (silent (at (all_came bs) (Reset j) m))
          (cond t₃ (silent (leave_download e font bs j (at (all_came bs) Nothing m)))
          (cond t₄ (silent (leave_select e font bs j (at (all_came bs) Nothing m)))
          (silent (at (all_came bs) (Bracket j (settings bs no_settings)) m))))))
      unfolding tell_step tell clear_tabs resume obey
      letter_cut true t₂ t₃ t₄ t₅ h = tabs_run e font j bs (j + 1 + 1) (clear_tabs m) ∙ tabs_cut b bs (items bs) (items_counted bs)
      letter_cut false true t₃ t₄ t₅ h = reset_cut b bs
      letter_cut false false true t₄ t₅ h = download_cut b bs
      letter_cut false false false true t₅ h = select_cut b bs
      letter_cut false false false false true h = text_run e font j bs no_settings (j + 1 + 1) m ∙ bracket_cut b bs (text bs) (text_spanned bs)
      letter_cut false false false false false h = simp (h, counts)

      escape_run : (t : Bool) → m.printer.head.plotting ≡ t
          → then (tell_step e (cond t (plot_escape e b j (at (j + 1 + 1) Nothing m)) (text_escape e b j (at (j + 1 + 1) (Escape j) m)))) (run e font bs)
          ≡ read_cut e font (run e font) (cut_escape e t (b ∷ bs)) (b ∷ bs) (at j Nothing m)
      unfolding text_escape cut_escape leave clear_tabs read_cut obey
      escape_run true h = simp (h, counts)
      escape_run false h = rw read_cut_resume (letter_cut (eqb b 0x46) (eqb b 0x63) (eqb b 0x59) (eqb b 0x4e) (eqb b 0x5b && e.brackets) h)

    byte_run : (t : Bool) (b : ℕ) (bs : List ℕ)
        → then (tell_step e (cond t (waiting (Escape j) (at (j + 1) Nothing m)) (alone e font b j (at (j + 1) Nothing m)))) (run e font bs)
        ≡ read_cut e font (run e font) (cond t (cut_escape e m.printer.head.plotting bs) (whole (byte b) bs)) bs (at j Nothing m)
    unfolding tell_step tell run step act second_byte cut_escape read_cut leave obey
    byte_run true b [] = refl
    byte_run true b (c ∷ bs) = escape_run c bs m.printer.head.plotting refl
    byte_run false b bs = simp counts

  -- what the bytes do, by the first command that is cut off them
  command_run : (b : ℕ) (bs : List ℕ) (m : Machine)
      → run e font (b ∷ bs) (with_pending Nothing m) ≡ read_cut e font (run e font) (cut e m.printer.head.plotting b bs) bs (with_pending Nothing m)
  unfolding run step act first_byte cut
  command_run b bs m = byte_run m.printer.job m (eqb b 0x1b) b bs

  -- a command goes on as well in one way as in another that does the same to machines with nothing pending
  read_cut_same : (f g : List ℕ → Machine → Outcome) (c : Cut) (bs : List ℕ) (m : Machine) → Short (length bs) c → m.printer.pending ≡ Nothing
      → ((rest : List ℕ) (x : Machine) → length rest ≤ length bs → x.printer.pending ≡ Nothing → f rest x ≡ g rest x)
      → read_cut e font f c bs m ≡ read_cut e font g c bs m
  unfolding read_cut
  read_cut_same f g (whole c rest) bs m short h same =
      let j : ℕ = m.printer.job + (suc (length bs) - length rest) in
      let o : Outcome = obey e font c m.printer.job (with_job j m) in
      ap (before o.told)
      (same rest o.machine short (ap (λ (k : Kept). k.pending) (obey_keeps e font c m.printer.job (with_job j m) refl) ∙ h))
  read_cut_same f g unfinished bs m short h same = refl

  run_read : (commands : ℕ) (bs : List ℕ) (m : Machine) → length bs ≤ commands → m.printer.pending ≡ Nothing
      → run e font bs m ≡ read e font commands bs m
  unfolding read run
  run_read zero [] m l h = refl
  run_read zero (b ∷ bs) m l h = absurd (omega arith)
  run_read (suc commands) [] m l h = refl
  run_read (suc commands) (b ∷ bs) m l h =
      subst (λ (x : Machine). run e font (b ∷ bs) x ≡ read_cut e font (run e font) (cut e x.printer.head.plotting b bs) bs x)
      (sym (ap (λ (q : Pending). with_pending q m) h)) (command_run b bs m)
      ∙ read_cut_same (run e font) (read e font commands) (cut e m.printer.head.plotting b bs) bs m
      (short_cut e m.printer.head.plotting b bs) h (λ rest x k p. run_read commands rest x (omega arith) p)

  pub run_reading : (job : List ℕ) (m : Machine) → m.printer.pending ≡ Nothing → run e font job m ≡ reading e font job m
  unfolding reading
  run_reading job m h = run_read (length job) job m (omega arith) h
