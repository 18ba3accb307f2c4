-- Every byte keeps a machine ready, its state sound and its memory of its lengths.
use Prim.Native.Nat.{ℕ, zero-le, ◌+◌, ◌-◌, ◌*◌, ◌%◌, ◌≤◌, ◌<◌}
use mathlib.Core.Bool.{Bool, true, false, not, ◌&&◌, ◌||◌, and-eq-true_iff, true≢false}
use mathlib.Core.List.{List, [], ◌∷◌}
use mathlib.Core.Path.{◌≡◌, refl, sym, subst, ◌∙◌}
use native.Mathlib.Omega.{arith}
use borrow.Author.Tests.{eq-eqb, le-leb, leb-true, ltb-false, ltb-true}
use lib.Dec.{T, eqb, ltb}
use lib.ListN.{drop, length, length-append, length-drop, length-set, length-take, set, take}
use lib.Seq.{get_or-drop}
use Rattle.sheet.specs.declared.Form.{Form}
use Rattle.sheet.specs.declared.Line.{Line}
use Rattle.sheet.specs.declared.Model.{Model}
use Rattle.sheet.specs.declared.Pitch.{Pitch}
use Rattle.sheet.specs.declared.Pitch.TheVariants.{Normal, Compressed}
use Rattle.sheet.specs.declared.Row.{Row}
use Rattle.sheet.specs.Dots.{struck}
use Rattle.sheet.specs.Edition.{Edition, described}
use Rattle.sheet.specs.Form.{below_top, blank_page, first_row, fits, has_line, line, line_of, lines_above, lines_allowed, lines_through, new_form}
use Rattle.sheet.specs.Form.{next_line, page_bytes, spacing_allowed, top_row, unmargined}
use Rattle.sheet.proofs.Editions.{Proper}
use Rattle.sheet.proofs.Struck.{length-struck}
use Rattle.sheet.proofs.Units.{length-blank_page, length-empty_line, line-below_top, line-fits, line-from_top, line-inside, lower-below_top}
use Rattle.glyph.specs.Entering.{or_in}
use Rattle.glyph.proofs.Lengths.{length-enter, length-or_in}
use Rattle.std.specs.Prelude.{None, Option, Some}
use Rattle.printer.specs.declared.Load.{Load}
use Rattle.printer.specs.declared.Pending.{Pending}
use Rattle.printer.specs.declared.Pending.TheVariants.{Nothing, Escape, Tabs, Reset, Select, SelectLow, CountHigh, CountLow, AddressHigh}
use Rattle.printer.specs.declared.Pending.TheVariants.{AddressLow, Payload, Bracket}
use Rattle.printer.specs.declared.Printer.{Printer}
use Rattle.printer.specs.declared.Settings.{Settings}
use Rattle.printer.specs.Alone.{alone, text_byte}
use Rattle.printer.specs.Brackets.{at_top, bracket, continues, no_settings, only, reform}
use Rattle.printer.specs.Brackets.{reformed, resize, resized, respace, respaced, setting_byte, style}
use Rattle.printer.specs.Bytes.{act, bracket_byte, ended, loaded, first_byte, payload_byte, run, second_byte, step, tab_byte, text_escape}
use Rattle.printer.specs.Downloads.{download, out_of_range, replaced}
use Rattle.printer.specs.Escapes.{after_reset, begin_plot, clear_tabs, escape, in_turn, repitched, reset, select, set_downloaded, set_elongated}
use Rattle.printer.specs.Escapes.{set_pitch, set_underscore, tab, tab_here, tab_item}
use Rattle.printer.specs.Facts.{Sound, SoundForm, SoundHead, SoundLoad, SoundPlace, SoundPlot, SoundTabs}
use Rattle.printer.specs.Machine.{Machine, fresh_head, opened, store_size, with_job, with_pending, with_staging}
use Rattle.printer.specs.Plotting.{plot, plot_byte, plot_escape, leave_plot}
use Rattle.printer.specs.Printing.{entered, moved_to, print}
use Rattle.printer.specs.Sound.{begun, at_most_escape, form_sound}
use Rattle.printer.specs.Steps.{finished}
use Rattle.printer.specs.Tabs.{line_tabs, tabs_through}
use Rattle.printer.specs.Terminators.{carriage_return, current_line, form_feed, newline, strike, tab_to, vertical_tab}
use Rattle.printer.specs.Room.{Ready}
use Rattle.printer.proofs.Ready.{Fine, fine, fine_cond, fine_finished, fine_noted, fine_quiet, fine_reformed, fine_test, length-empty_store}
use Rattle.printer.proofs.SoundTabs.{Inside, first_tab-inside, tab_put, tabs_cleared, tabs_kept, taken-inside}
use Rattle.printer.proofs.Soundness.{form_facts}

lt_add_one : (a b : ℕ) → a < b → a + 1 ≤ b
lt_add_one a b h = omega arith

-- two tests that fail together fail each
or_parts : (a b : Bool) → (a || b) ≡ false → (a ≡ false) × (b ≡ false)
or_parts true b h = absurd (true≢false h)
or_parts false b h = (refl, h)

-- a download that is in range lies within the store
pub in_range : (count address : ℕ) → out_of_range count address ≡ false → (2048 ≤ address) × (address + count ≤ 4096)
unfolding out_of_range
in_range count address q =
    let low = or_parts (ltb address 2048) _ q in
    let high = or_parts _ _ low.1 in
    (ltb-false _ _ low.0, ltb-false _ _ high.0)

-- a form just opened has its own ends for margins
unmargined_new : (e : Edition) (lines spacing : ℕ) → (e.brackets || unmargined (new_form lines spacing)) ≡ true
unfolding unmargined
unmargined_new e lines spacing = go e.brackets
  where
    go : (b : Bool) → (b || (eqb 1 1 && eqb lines lines)) ≡ true
    go true = refl
    go false = eq-eqb lines lines refl

-- a form can be struck at its first row
form-top-fits : {e : Edition} {f : Form} → SoundForm e f → fits f (top_row f) ≡ true
unfolding top_row
form-top-fits {f = f} k = line-fits f f.top k.top k.between

form-top-below : (f : Form) → below_top f (top_row f) ≡ true
unfolding top_row
form-top-below f = line-below_top f f.top (omega arith)

-- a fresh line within the margins
fresh_head-sound : (f : Form) (r : Row) (width : ℕ) → fits f r ≡ true → below_top f r ≡ true → SoundHead f width (fresh_head r)
unfolding fits below_top
fresh_head-sound f r width q k = record { above = leb-true _ _ k; row = leb-true _ _ q; column = omega arith; fresh = λ _. (refl, refl) }

-- The rules.
module _ {e : Edition} {m : Machine} (h : Ready e m) where
  abbrev form : Form
  form = m.printer.form

  abbrev here : Row
  here = m.printer.head.row

  abbrev width : ℕ
  width = e.width m.printer.style.pitch

  here_fits : fits form here ≡ true
  unfolding fits
  here_fits = le-leb _ _ h.printer.head.row

  here_below : below_top form here ≡ true
  unfolding below_top
  here_below = le-leb _ _ h.printer.head.above

  top_fits : fits form (top_row form) ≡ true
  top_fits = form-top-fits h.printer.form

  top_below : below_top form (top_row form) ≡ true
  top_below = form-top-below form

  strike_ready : (r : Row) → fits form r ≡ true → below_top form r ≡ true → Ready e (strike e r m)
  unfolding strike
  strike_ready r q k =
      let p : length (struck e m.page m.line here m.printer.style.pitch) ≡ page_bytes e form = length-struck e _ _ _ _ ∙ h.memory.page in
      search (fresh_head-sound, length-empty_line, absurd)

  newline_fine : Fine e (newline e m)
  unfolding newline
  newline_fine = search (fine_test, fine_quiet, fine_finished, strike_ready, top_fits, top_below, lower-below_top, here_below) depth 10

  form_feed_fine : Fine e (form_feed e m)
  unfolding form_feed
  form_feed_fine = search (fine, strike_ready, top_fits, top_below)

  carriage_return_fine : Fine e (carriage_return e m)
  unfolding carriage_return
  carriage_return_fine = search (fine, strike_ready, here_fits, here_below)

  abbrev Stop : Option Line → Type 0
  Stop t = Inside form.top.0 form.bottom.0 t

  line_ready : (n : Line) → Stop (Some n) → Ready e (strike e (first_row form n) m)
  line_ready n b = strike_ready _ (line-fits form n (omega (arith, h.printer.form.top, b.0)) b.1) (line-below_top form n b.0)

  tab_to_fine : (below lowest : Option Line) → Stop below → Stop lowest → Fine e (tab_to e below lowest m)
  unfolding tab_to
  tab_to_fine (Some n) lowest b l = fine_quiet (line_ready n b)
  tab_to_fine None (Some n) b l = fine_finished (line_ready n l)
  tab_to_fine None None b l = carriage_return_fine

  vertical_tab_fine : Fine e (vertical_tab e m)
  unfolding vertical_tab
  vertical_tab_fine =
      let n : Line = current_line m in
      let n₂ : Line = form.top in
      let n₃ : Line = form.bottom in
      let tabs : List Bool = line_tabs m.printer.tabs in
      let from : n₂.0 ≤ n.0 = line-from_top form here here_below in
      tab_to_fine _ _
      (first_tab-inside n₂.0 n₃.0 (next_line n) (drop (lines_through n) (take n₃.0 tabs)) (omega arith)
      (λ i t. omega (arith, taken-inside n₃.0 tabs (lines_through n + i) (rw get_or-drop at t))))
      (first_tab-inside n₂.0 n₃.0 n₂ (drop (lines_above n₂) (take n₃.0 tabs)) (omega arith)
      (λ i t. omega (arith, h.printer.form.top, taken-inside n₃.0 tabs (lines_above n₂ + i) (rw get_or-drop at t))))

  moved_sound : (c : ℕ) → c ≤ width → SoundHead form width (moved_to c m.printer.head)
  moved_sound c l = record { above = h.printer.head.above; row = h.printer.head.row; column = l; fresh = λ t. absurd t }

  print_fine : (font : List ℕ) (b place : ℕ) → Fine e (print e font b place m)
  unfolding print entered
  print_fine font b place =
      let l : length (entered e font b m) ≡ e.columns = length-enter _ _ _ _ _ _ _ ∙ h.memory.line in
      search (fine_test, fine_quiet, fine_noted, moved_sound, leb-true) depth 10

  plot_fine : (v place : ℕ) → Fine e (plot e v place m)
  unfolding plot
  plot_fine v place =
      let l : length (or_in m.printer.head.column v m.line) ≡ e.columns = length-or_in _ _ _ ∙ h.memory.line in
      search (fine_test, fine_quiet, fine_noted, moved_sound, leb-true) depth 10

  in_turn_fine : (place : ℕ) (after : Machine) → (T m.printer.head.fresh → Ready e after) → Fine e (in_turn place m after)
  unfolding in_turn
  in_turn_fine place after k = fine_test m.printer.head.fresh _ _ (λ q. fine_quiet (k (subst T (sym q) tt))) (λ _. fine_noted h)

  set_elongated_ready : (on : Bool) → Ready e (set_elongated on m)
  set_elongated_ready on = search

  set_underscore_ready : (on : Bool) → Ready e (set_underscore on m)
  set_underscore_ready on = search

  set_downloaded_ready : (on : Bool) → Ready e (set_downloaded on m)
  set_downloaded_ready on = search

  -- on a fresh line the pitch may change, and, in an edition that lets it, anywhere
  set_pitch_ready : (p : Pitch) → m.printer.head.column ≤ e.width p → Ready e (set_pitch p m)
  set_pitch_ready p k = search (h.printer.head.fresh, h.printer.plot)

  restyle_ready : (p : Pitch) (on : Bool) → m.printer.head.column ≤ e.width p → Ready e (set_elongated on (set_pitch p m))
  restyle_ready p on k = search (h.printer.head.fresh, h.printer.plot)

  repitched_fine : Proper e → (p : Pitch) (place : ℕ) (after : Machine) → (m.printer.head.column ≤ e.width p → Ready e after)
      → Fine e (repitched e place m after)
  unfolding repitched
  repitched_fine proper p place after k =
      fine_test e.mixed _ _
      (λ q. fine_quiet (k (omega (arith, h.printer.head.column, proper.level (subst T (sym q) tt) m.printer.style.pitch p))))
      (λ _. in_turn_fine place after (λ t. k (omega (arith, (h.printer.head.fresh t).0))))

  begin_plot_ready : at_most_escape m.printer.pending ≡ true → Ready e (begin_plot m)
  begin_plot_ready q = search absurd

  leave_plot_ready : Ready e (leave_plot m)
  leave_plot_ready = search (absurd, h.printer.head.fresh)

  tab_ready : (on : Bool) (n : Line) → 1 ≤ n.0 → n.0 ≤ form.lines → Ready e (tab on n m)
  unfolding tab
  tab_ready on n l k = let i : lines_above n < form.lines = omega arith in search (tab_put m.printer.tabs h.printer.tabs)

  tab_here_ready : (on : Bool) → Ready e (tab_here on m)
  unfolding tab_here line_of
  tab_here_ready on = tab_ready on (current_line m) (omega arith) (omega (arith, line-inside form here here_fits, h.printer.form.bottom))

  tab_item_fine : (n place : ℕ) → Fine e (tab_item n place m)
  unfolding tab_item has_line
  tab_item_fine n place =
      fine_test (has_line form n) _ _
      (λ q. let p = (and-eq-true_iff _ _).0 q in fine_quiet (tab_ready true (line n) (leb-true _ _ p.0) (leb-true _ _ p.1)))
      (λ _. fine_noted h)

  clear_tabs_ready : Ready e (clear_tabs m)
  unfolding clear_tabs
  clear_tabs_ready = search tabs_cleared

  after_reset_ready : Ready e (after_reset e m)
  unfolding after_reset clear_tabs
  after_reset_ready = search (tabs_cleared, fresh_head-sound, here_fits, here_below, length-empty_line, length-empty_store, absurd)

  reset_fine : (b place : ℕ) → Fine e (reset e b place m)
  unfolding reset
  reset_fine b place = search (fine, after_reset_ready)

  select_fine : (high low place : ℕ) → Fine e (select high low place m)
  unfolding select
  select_fine high low place = search (fine, set_downloaded_ready)

  escape_fine : Proper e → (b place : ℕ) → at_most_escape m.printer.pending ≡ true → Fine e (escape e b place m)
  unfolding escape
  escape_fine proper b place q =
      let compressed : Fine e (repitched e place m (set_pitch Compressed m)) = repitched_fine proper Compressed place _ (set_pitch_ready Compressed) in
      let normal : Fine e (repitched e place m (set_pitch Normal m)) = repitched_fine proper Normal place _ (set_pitch_ready Normal) in
      search (fine, tab_here_ready, set_elongated_ready, set_underscore_ready, set_downloaded_ready, in_turn_fine, begin_plot_ready) depth 20

  -- another form, which is sound
  reformed_fine : (f : Form) → SoundForm e f → Fine e (finished (reformed f m))
  unfolding reformed
  reformed_fine f k =
      let head : SoundHead f (e.width m.printer.style.pitch) (fresh_head (top_row f)) = fresh_head-sound f _ _ (form-top-fits k) (form-top-below f) in
      let tabs : SoundTabs f.lines (line_tabs (tabs_through f.lines m.printer.tabs)) = tabs_kept f.lines m.printer.tabs in
      let page : length (blank_page e f) ≡ page_bytes e f = length-blank_page e f in
      fine_reformed (search absurd)

  reform_fine : (allowed : Bool) (f : Form) (place : ℕ) → (allowed ≡ true → SoundForm e f) → Fine e (reform allowed f place m)
  unfolding reform
  reform_fine allowed f place k = fine_test (allowed && at_top m) _ _ (λ q. reformed_fine f (k ((and-eq-true_iff _ _).0 q).0)) (λ _. fine_noted h)

  style_fine : Proper e → (s : Option ℕ) (place : ℕ) → Fine e (style e s place m)
  unfolding style
  style_fine proper None place = fine_noted h
  style_fine proper (Some v) place =
      let any : (p : Pitch) (on : Bool) → Fine e (repitched e place m (set_elongated on (set_pitch p m))) =
      λ p on. repitched_fine proper p place _ (restyle_ready p on) in
      fine_cond (eqb v 0) _ _ (any Normal true)
      (fine_cond (eqb v 2) _ _ (any Compressed true)
      (fine_cond (eqb v 4) _ _ (any Normal false)
      (fine_cond (eqb v 6) _ _ (any Compressed false) (fine_noted h))))

  -- Only an edition with such commands lets the form change.
  module _ (can : e.brackets ≡ true) where
    own : (f : Form) → (e.brackets || unmargined f) ≡ true
    own f = rw can

    resize_fine : (s : Settings) (place : ℕ) → Fine e (resize e s place m)
    unfolding resize form_sound
    resize_fine s place =
        let f : Form = resized s form in
        reform_fine _ f place
        (λ q.
        let a = (and-eq-true_iff _ _).0 q in
        let b = (and-eq-true_iff (ltb s.semicolons 3) _).0 a.0 in
        form_facts e f (rw (b.1, h.printer.form.spacing, a.1) (own f)))

    respaced_sound : (spacing : ℕ) → spacing_allowed spacing ≡ true → SoundForm e (respaced spacing form)
    respaced_sound spacing q =
        let k = h.printer.form in
        record { most = k.most; spacing = q; top = k.top; between = k.between; bottom = k.bottom; own = own _ }

    respace_fine : (s : Option ℕ) (place : ℕ) → Fine e (respace e s place m)
    unfolding respace spacing_allowed
    respace_fine None place = fine_noted h
    respace_fine (Some v) place =
        fine_cond (eqb v 1) _ _ (reform_fine true _ place (λ _. respaced_sound 6 refl))
        (fine_cond (eqb v 2) _ _ (reform_fine true _ place (λ _. respaced_sound 8 refl)) (fine_noted h))

    bracket_fine : Proper e → (s : Settings) (last place : ℕ) → Fine e (bracket e s last place m)
    unfolding bracket
    bracket_fine proper s last place =
        fine_cond (eqb last 0x77) _ _ (style_fine proper (only s) place)
        (fine_cond (eqb last 0x72) _ _ (resize_fine s place)
        (fine_cond (eqb last 0x7a) _ _ (respace_fine (only s) place) (fine_noted h)))

  plot_escape_fine : (b place : ℕ) → Fine e (plot_escape e b place m)
  unfolding plot_escape
  plot_escape_fine b place = search (fine, plot_fine, leave_plot_ready)

  alone_fine : (font : List ℕ) (b place : ℕ) → Fine e (alone e font b place m)
  unfolding alone text_byte plot_byte
  alone_fine font b place = search (fine, plot_fine, print_fine, newline_fine, vertical_tab_fine, form_feed_fine, carriage_return_fine) depth 20

  download_fine : (count address sum checksum place : ℕ) → Fine e (download count address sum checksum place m)
  unfolding download replaced
  download_fine count address sum checksum place =
      fine_cond (not (eqb ((sum + checksum) % 256) 0)) _ _ (fine_noted h)
      (fine_test (out_of_range count address) _ _ (λ _. fine_noted h)
      (λ q.
      let inside = in_range count address q in
      let k : length (replaced (address - 2048) count m.staging m.store) ≡ store_size =
      simp (length-append, length-take, length-drop) (omega (arith, h.memory.staging, h.memory.store)) in
      search fine))

  -- What is pending may change: a command ends, or a longer one goes on outside plot mode.
  ended_ready : Ready e (ended m)
  ended_ready = let q : SoundPlot m.printer.head Nothing = λ t. ((h.printer.plot t).0, refl) in search

  waiting_ready : (q : Pending) → SoundLoad e q → SoundPlace m.printer.job (begun q) → (T m.printer.head.plotting → ⊥) → Ready e (with_pending q m)
  waiting_ready q load place off =
      let plot : SoundPlot m.printer.head q = λ t. absurd (off t) in
      search

  -- ESC, which begins a command in either mode
  escape_begun : (place : ℕ) → place < m.printer.job → Ready e (with_pending (Escape place) m)
  escape_begun place l =
      let plot : SoundPlot m.printer.head (Escape place) = λ t. ((h.printer.plot t).0, refl) in
      search

  staged_ready : (k b : ℕ) → Ready e (with_staging (set m.staging k b) m)
  staged_ready k b = let l : length (set m.staging k b) ≡ store_size = length-set m.staging k b ∙ h.memory.staging in search

-- One byte, by what is pending, with the byte counted.
module _ {e : Edition} {m : Machine} (h : Ready e m) where
  text_escape_fine : Proper e → (b place : ℕ) → place < m.printer.job → m.printer.head.plotting ≡ false → Fine e (text_escape e b place m)
  unfolding text_escape clear_tabs
  text_escape_fine proper b place l q =
      let off : T m.printer.head.plotting → ⊥ = λ t. subst T q t in
      fine_cond (eqb b 0x46) _ _ (fine_quiet (waiting_ready (clear_tabs_ready h) (Tabs place) tt l off))
      (fine_cond (eqb b 0x63) _ _ (fine_quiet (waiting_ready h (Reset place) tt l off))
      (fine_cond (eqb b 0x59) _ _ (fine_quiet (waiting_ready h (CountHigh place) tt l off))
      (fine_cond (eqb b 0x4e) _ _ (fine_quiet (waiting_ready h (Select place) tt l off))
      (fine_test (eqb b 0x5b && e.brackets) _ _
      (λ k. fine_quiet (waiting_ready h (Bracket place no_settings) ((and-eq-true_iff (eqb b 0x5b) _).0 k).1 l off))
      (λ _. escape_fine (ended_ready h) proper b place refl)))))

  second_byte_fine : Proper e → (b place : ℕ) → place < m.printer.job → Fine e (second_byte e b place m)
  unfolding second_byte
  second_byte_fine proper b place l =
      fine_test m.printer.head.plotting _ _ (λ _. plot_escape_fine (ended_ready h) b place) (λ q. text_escape_fine proper b place l q)

  tab_byte_fine : (b here : ℕ) → Fine e (tab_byte b here m)
  unfolding tab_byte
  tab_byte_fine b here = fine_cond (eqb b 0) _ _ (fine_quiet (ended_ready h)) (tab_item_fine h b here)

  payload_byte_fine : (l : Load) (b place : ℕ) → place < m.printer.job → (T m.printer.head.plotting → ⊥) → Fine e (payload_byte l b place m)
  unfolding payload_byte
  payload_byte_fine l b place below off =
      fine_test (ltb l.taken l.count) _ _
      (λ q. fine_quiet (waiting_ready (staged_ready h l.taken b) (Payload place (loaded l b)) (lt_add_one _ _ (ltb-true _ _ q)) below off))
      (λ _. download_fine (ended_ready h) _ _ _ _ _)

  bracket_byte_fine : Proper e → e.brackets ≡ true → (s : Settings) (b place : ℕ) → place < m.printer.job → (T m.printer.head.plotting → ⊥)
      → Fine e (bracket_byte e s b place m)
  unfolding bracket_byte
  bracket_byte_fine proper can s b place below off =
      fine_cond (continues b) _ _ (fine_quiet (waiting_ready h (Bracket place (setting_byte b s)) can below off))
      (bracket_fine (ended_ready h) can proper s b place)

-- no byte of a longer command comes in plot mode
text_mode : {e : Edition} {p : Printer} → Sound e p → at_most_escape p.pending ≡ false → T p.head.plotting → ⊥
text_mode h q t = true≢false (sym (h.plot t).1 ∙ q)

module _ {e : Edition} (proper : Proper e) (font : List ℕ) (b here : ℕ) (m : Machine) where
  act_fine : (q : Pending) → here < m.printer.job → Ready e (with_pending q m) → Fine e (act e font q b here (with_pending q m))
  unfolding act first_byte
  act_fine Nothing l h = fine_cond (eqb b 0x1b) _ _ (fine_quiet (escape_begun h here l)) (alone_fine h font b here)
  act_fine (Escape place) l h = second_byte_fine h proper b place h.printer.place
  act_fine (Tabs place) l h = tab_byte_fine h b here
  act_fine (Reset place) l h = reset_fine (ended_ready h) b place
  act_fine (Select place) l h = fine_quiet (waiting_ready h (SelectLow place b) tt h.printer.place (text_mode h.printer refl))
  act_fine (SelectLow place high) l h = select_fine (ended_ready h) high b place
  act_fine (CountHigh place) l h = fine_quiet (waiting_ready h (CountLow place b) tt h.printer.place (text_mode h.printer refl))
  act_fine (CountLow place high) l h = fine_quiet (waiting_ready h (AddressHigh place (high * 256 + b)) tt h.printer.place (text_mode h.printer refl))
  act_fine (AddressHigh place count) l h = fine_quiet (waiting_ready h (AddressLow place count b) tt h.printer.place (text_mode h.printer refl))
  act_fine (AddressLow place count high) l h = fine_quiet (waiting_ready h (Payload place _) zero-le h.printer.place (text_mode h.printer refl))
  act_fine (Payload place load) l h = payload_byte_fine h load b place h.printer.place (text_mode h.printer refl)
  act_fine (Bracket place settings) l h =
      bracket_byte_fine h proper h.printer.load settings b place h.printer.place (text_mode h.printer refl)

-- a command that began below the count of the job is below it still with one byte more
counted_place : (job : ℕ) (b : Option ℕ) → SoundPlace job b → SoundPlace (job + 1) b
counted_place job None h = tt
counted_place job (Some place) h = omega arith

module _ {e : Edition} {m : Machine} where
  counted : Ready e m → Ready e (with_job (m.printer.job + 1) m)
  counted h =
      let place : SoundPlace (m.printer.job + 1) (begun m.printer.pending) = counted_place _ (begun m.printer.pending) h.printer.place in
      search

  -- THE LAW: after a step of a machine that is ready, the machine that a caller goes on with is ready too
  pub step_fine : Proper e → Ready e m → (font : List ℕ) (b : ℕ) → Fine e (step e font b m)
  unfolding step
  step_fine proper h font b = act_fine proper font b m.printer.job (with_job (m.printer.job + 1) m) m.printer.pending (omega arith) (counted h)

-- a machine just opened
pub opened_ready : (w : Model) (lines spacing : ℕ) → lines_allowed (described w) lines ≡ true → spacing_allowed spacing ≡ true
    → Ready (described w) (opened w (new_form lines spacing))
unfolding lines_allowed
opened_ready w lines spacing l s =
    let e : Edition = described w in
    let f : Form = new_form lines spacing in
    let a = (and-eq-true_iff _ _).0 l in
    let some : 1 ≤ lines = leb-true _ _ a.0 in
    let form : SoundForm e f =
    record { most = leb-true _ _ a.1; spacing = s; top = omega arith; between = some; bottom = omega arith; own = unmargined_new e lines spacing } in
    record {
      printer =
          record {
            form = form;
            head = fresh_head-sound f (top_row f) _ (form-top-fits form) (form-top-below f);
            tabs = tabs_cleared lines;
            load = tt;
            place = tt;
            plot = λ t. absurd t;
          };
      memory = record { page = length-blank_page e f; line = length-empty_line e; staging = length-empty_store; store = length-empty_store };
    }

-- and a whole run ends in a machine that is ready
pub run_ready : {e : Edition} → Proper e → (font bs : List ℕ) {m : Machine} → Ready e m → Ready e (run e font bs m).machine
unfolding run
run_ready proper font [] h = h
run_ready proper font (b ∷ bs) h = run_ready proper font bs (step_fine proper h font b).ready
