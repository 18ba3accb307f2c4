-- Every byte leaves a machine that memory can hold: each number that a rule writes has room in its type.
use Prim.Native.Nat.{ℕ, ◌%◌, ◌*◌, ◌+◌, ◌-◌, ◌/◌, ◌<◌, ◌^◌, ◌≤◌, suc, zero}
use mathlib.Core.Bool.{Bool, true, false, cond}
use mathlib.Core.List.{List}
use mathlib.Core.Path.{◌∙◌, ◌≡◌, ap, refl, subst, sym}
use native.Mathlib.Nat.{mod-le, mul-le-mul_right, zero-mul}
use native.Mathlib.Omega.{arith}
use borrow.Author.Tests.{ltb-true}
use lib.Dec.{ltb}
use lib.ListN.{drop, length, set, take}
use Rattle.sheet.specs.declared.Form.{Form}
use Rattle.sheet.specs.declared.Line.{Line}
use Rattle.sheet.specs.declared.Row.{Row}
use Rattle.sheet.specs.declared.Model.{Model}
use Rattle.sheet.specs.Edition.{Edition, described}
use Rattle.sheet.specs.Form.{blank_page, empty_line, first_row, form_rows, new_form, page_bytes, rows_per_line, top_row}
use Rattle.sheet.specs.Held.{AllBelow, HeldBytes, HeldSlice}
use Rattle.sheet.proofs.Editions.{Countable, Proper}
use Rattle.sheet.proofs.Held.{all_append, all_drop, all_replicate, all_set, all_take, rows_counted, struck-below}
use Rattle.sheet.proofs.Units.{fits-form, form_rows_in, length-blank_page, length-empty_line, spacing-most}
use Rattle.glyph.specs.Words.{high_first}
use Rattle.glyph.proofs.Held.{enter-below, or_in-below}
use Rattle.printer.specs.Brackets.{bracket, capped, continues, digit_read, most_kept, no_settings, reform}
use Rattle.printer.specs.Brackets.{reformed, resize, respace, semicolon_read, setting_byte, style, with_digit}
use Rattle.printer.specs.Facts.{Sound, SoundForm}
use Rattle.printer.specs.declared.Event.{Event}
use Rattle.printer.specs.declared.Event.TheVariants.{Finished, Noted, Quiet}
use Rattle.printer.specs.declared.Load.{Load}
use Rattle.std.specs.Prelude.{None, Option, Some}
use Rattle.printer.specs.declared.Pending.{Pending}
use Rattle.printer.specs.declared.Pending.TheVariants.{Nothing, Escape, Tabs, Reset, Select, SelectLow, CountHigh, CountLow, AddressHigh}
use Rattle.printer.specs.declared.Pending.TheVariants.{AddressLow, Payload, Bracket}
use Rattle.printer.specs.declared.Printer.{Printer}
use Rattle.printer.specs.declared.Settings.{Settings}
use Rattle.printer.specs.declared.TabSet.{TabSet}
use Rattle.printer.specs.Alone.{alone, text_byte}
use Rattle.printer.specs.Bytes.{act, bracket_byte, ended, first_byte, loaded, payload_byte, second_byte, step, tab_byte, text_escape, waiting}
use Rattle.printer.specs.Downloads.{download, replaced}
use Rattle.printer.specs.Escapes.{after_reset, clear_tabs, escape, in_turn, repitched, reset, select, tab, tab_here, tab_item}
use Rattle.printer.specs.Held.{Held, HeldLoad, HeldPending, HeldSetting, HeldSettings, HeldState, HeldStores, HeldTabs}
use Rattle.printer.specs.Machine.{Machine, empty_store, limit, new_printer, opened, with_job, with_page, with_pending, with_staging}
use Rattle.printer.specs.Plotting.{plot, plot_byte, plot_escape}
use Rattle.printer.specs.Printing.{entered, print}
use Rattle.printer.specs.Room.{Ready, Sized}
use Rattle.printer.specs.Steps.{Step, tell, tell_step}
use Rattle.printer.specs.Tabs.{no_tabs, put_bit, tabs_through, with_tab}
use Rattle.printer.specs.Terminators.{carriage_return, form_feed, newline, strike, tab_to, vertical_tab}
use Rattle.printer.proofs.Keeping.{step_counts, tell-printer}
use Rattle.printer.proofs.Pages.{step-page-length}
use Rattle.printer.proofs.Ready.{length-empty_store}
use Rattle.printer.proofs.StaysSound.{step_fine}

-- a bit put into a word is one of its bits
put_below : (on : Bool) (k n w : ℕ) → k < n → w < 2 ^ n → put_bit on k w < 2 ^ n
unfolding put_bit
put_below on k zero w l h = absurd (omega arith)
put_below true zero (suc n) w l h = omega arith
put_below false zero (suc n) w l h = omega arith
put_below on (suc k) (suc n) w l h = let half : put_bit on k (w / 2) < 2 ^ n = put_below on k n (w / 2) (omega arith) (omega arith) in omega arith

tab_held : (on : Bool) (k : ℕ) (t : TabSet) → HeldTabs t → HeldTabs (with_tab on k t)
unfolding with_tab
tab_held on k t h = go (ltb k 64) (ltb k 128) refl refl
  where
    go : (a b : Bool) → ltb k 64 ≡ a → ltb k 128 ≡ b
        → HeldTabs (cond a (record { low = put_bit on k t.low; high = t.high })
        (cond b (record { low = t.low; high = put_bit on (k - 64) t.high }) t))
    go true b p q = record { low = put_below on k 64 t.low (ltb-true _ _ p) h.low; high = h.high }
    go false true p q = record { low = h.low; high = put_below on (k - 64) 64 t.high (omega (arith, ltb-true k 128 q)) h.high }
    go false false p q = h

-- the tabs of some lines alone
through_held : (n : ℕ) (t : TabSet) → HeldTabs t → HeldTabs (tabs_through n t)
unfolding tabs_through
through_held n t h = go (ltb n 64)
  where
    go : (a : Bool) → HeldTabs (cond a (record { low = t.low % 2 ^ n; high = 0 }) (record { low = t.low; high = t.high % 2 ^ (n - 64) }))
    go true = record { low = omega (arith, h.low, mod-le t.low (2 ^ n)); high = omega arith }
    go false = record { low = h.low; high = omega (arith, h.high, mod-le t.high (2 ^ (n - 64))) }

-- the numbers of a command that ESC [ begins, with a digit or a semicolon more
capped_held : (n : ℕ) → capped n < 2 ^ 16
capped_held n = go (ltb n most_kept) refl
  where
    go : (t : Bool) → ltb n most_kept ≡ t → cond t n most_kept < 2 ^ 16
    go true q = omega (arith, ltb-true n most_kept q)
    go false q = omega arith

digit_held : (d : ℕ) (s : Option ℕ) → d < 256 → HeldSetting (with_digit d s)
unfolding with_digit
digit_held d None l = omega arith
digit_held d (Some n) l = capped_held (10 * n + d)

settings-cond : (t : Bool) (s u : Settings) → HeldSettings s → HeldSettings u → HeldSettings (cond t s u)
settings-cond true s u h k = h
settings-cond false s u h k = k

semicolon_held : (s : Settings) → HeldSettings s → HeldSettings (semicolon_read s)
semicolon_held s h = record { first = h.first; second = h.second; third = h.third; semicolons = go (ltb s.semicolons 3) refl }
  where
    go : (t : Bool) → ltb s.semicolons 3 ≡ t → cond t (s.semicolons + 1) 3 < 2 ^ 8
    go true q = omega (arith, ltb-true s.semicolons 3 q)
    go false q = omega arith

setting_byte_held : (b : ℕ) (s : Settings) → b < 256 → HeldSettings s → HeldSettings (setting_byte b s)
unfolding setting_byte digit_read
setting_byte_held b s l h =
    let d : b - 0x30 < 256 = omega arith in
    search (settings-cond, semicolon_held, digit_held) depth 10

-- What the rules write: what is pending, the tabs, and the memory lent.
record Written (q : Pending) (t : TabSet) (pg ln sg st : List ℕ) : Type 0 where
  pending : HeldPending q
  tabs : HeldTabs t
  page : AllBelow 256 pg
  line : AllBelow 65536 ln
  staging : AllBelow 256 sg
  store : AllBelow 256 st

abbrev Writes : Machine → Type 0
Writes m = Written m.printer.pending m.printer.tabs m.page m.line m.staging m.store

writes_cond : (t : Bool) (s u : Step) → Writes s.machine → Writes u.machine → Writes (cond t s u).machine
writes_cond true s u h k = h
writes_cond false s u h k = k

-- what is pending changes
pending_writes : {q : Pending} {t : TabSet} {pg ln sg st : List ℕ} → Written q t pg ln sg st → (after : Pending) → HeldPending after
    → Written after t pg ln sg st
pending_writes h after k = record { pending = k; tabs = h.tabs; page = h.page; line = h.line; staging = h.staging; store = h.store }

blank_page-below : (e : Edition) (f : Form) → AllBelow 256 (blank_page e f)
unfolding blank_page
blank_page-below e f = all_replicate (λ x. x < 256) (page_bytes e f) 0 (omega arith)

empty_line-below : (e : Edition) → AllBelow 65536 (empty_line e)
unfolding empty_line
empty_line-below e = all_replicate (λ x. x < 65536) e.columns 0 (omega arith)

empty_store-below : AllBelow 256 empty_store
unfolding empty_store
empty_store-below = all_replicate (λ x. x < 256) 2048 0 (omega arith)

no_tabs_held : HeldTabs no_tabs
unfolding no_tabs
no_tabs_held = record { low = omega arith; high = omega arith }

-- The rules.
module _ (m : Machine) (h : Writes m) where
  tab_writes : (on : Bool) (n : Line) → Writes (tab on n m)
  unfolding tab
  tab_writes on n = search tab_held

  clear_tabs_writes : Writes (clear_tabs m)
  unfolding clear_tabs
  clear_tabs_writes = search no_tabs_held

  escape_writes : (e : Edition) (b place : ℕ) → Writes (escape e b place m).machine
  unfolding escape tab_here repitched in_turn
  escape_writes e b place = search (writes_cond, tab_writes) depth 20

  style_writes : (e : Edition) (s : Option ℕ) (place : ℕ) → Writes (style e s place m).machine
  unfolding style repitched in_turn
  style_writes e None place = h
  style_writes e (Some v) place = search writes_cond depth 10

  reform_writes : (allowed : Bool) (f : Form) (place : ℕ) → Writes (reform allowed f place m).machine
  unfolding reform reformed
  reform_writes allowed f place = search (writes_cond, through_held) depth 10

  respace_writes : (e : Edition) (s : Option ℕ) (place : ℕ) → Writes (respace e s place m).machine
  unfolding respace
  respace_writes e None place = h
  respace_writes e (Some v) place = search (writes_cond, reform_writes) depth 10

  bracket_writes : (e : Edition) (s : Settings) (last place : ℕ) → Writes (bracket e s last place m).machine
  unfolding bracket resize
  bracket_writes e s last place = search (writes_cond, style_writes, reform_writes, respace_writes) depth 10

  download_writes : (count address sum checksum place : ℕ) → Writes (download count address sum checksum place m).machine
  unfolding download replaced
  download_writes count address sum checksum place =
      let P : ℕ → Type 0 = λ x. x < 256 in
      let at : ℕ = address - 2048 in
      let store : AllBelow 256 (replaced at count m.staging m.store) =
      all_append P (take at m.store) _ (all_take P at m.store h.store)
      (all_append P (take count m.staging) (drop (at + count) m.store) (all_take P count m.staging h.staging)
      (all_drop P (at + count) m.store h.store)) in
      search writes_cond

module _ (e : Edition) (m : Machine) (h : Writes m) where
  strike_writes : (r : Row) → Writes (strike e r m)
  unfolding strike
  strike_writes r =
      let page : AllBelow 256 (strike e r m).page = struck-below e m.page m.line m.printer.head.row m.printer.style.pitch h.page in
      search (empty_line-below e)

  tab_to_writes : (below lowest : Option Line) → Writes (tab_to e below lowest m).machine
  unfolding tab_to carriage_return
  tab_to_writes (Some n) lowest = strike_writes _
  tab_to_writes None (Some n) = strike_writes _
  tab_to_writes None None = strike_writes _

  print_writes : (font : List ℕ) (b place : ℕ) → Writes (print e font b place m).machine
  unfolding print entered
  print_writes font b place = let line : AllBelow 65536 (entered e font b m) = enter-below _ _ _ _ _ _ _ h.line in search writes_cond

  plot_writes : (v place : ℕ) → v < 65536 → Writes (plot e v place m).machine
  unfolding plot
  plot_writes v place l = let line = or_in-below m.printer.head.column v m.line l h.line in search writes_cond

  plot_escape_writes : (b place : ℕ) → Writes (plot_escape e b place m).machine
  unfolding plot_escape
  plot_escape_writes b place = let wires : 0x1b < 65536 = omega arith in search (writes_cond, plot_writes)

  alone_writes : (font : List ℕ) (b place : ℕ) → b < 256 → Writes (alone e font b place m).machine
  unfolding alone text_byte plot_byte newline form_feed carriage_return vertical_tab
  alone_writes font b place byte =
      let wires : b < 65536 = omega arith in
      search (writes_cond, plot_writes, print_writes, strike_writes, tab_to_writes) depth 20

  reset_writes : (b place : ℕ) → Writes (reset e b place m).machine
  unfolding reset after_reset clear_tabs
  reset_writes b place = search (writes_cond, no_tabs_held, empty_line-below e, empty_store-below)

-- One byte, by what is pending.
module _ (m : Machine) (h : Writes m) where
  text_escape_writes : (e : Edition) (b place : ℕ) → place < 2 ^ 32 → Writes (text_escape e b place m).machine
  unfolding text_escape clear_tabs
  text_escape_writes e b place l =
      let cleared : Writes (clear_tabs m) = clear_tabs_writes m h in
      let whole : Writes (escape e b place (ended m)).machine = escape_writes (ended m) (pending_writes h Nothing tt) e b place in
      let none : HeldSettings no_settings = record { first = tt; second = tt; third = tt; semicolons = omega arith } in
      search (writes_cond, pending_writes h, pending_writes cleared) depth 20

  payload_byte_writes : (l : Load) (b place : ℕ) → HeldLoad l → place < 2 ^ 32 → b < 256 → Writes (payload_byte l b place m).machine
  unfolding payload_byte
  payload_byte_writes l b place k below byte = go (ltb l.taken l.count) refl
    where
      more : ltb l.taken l.count ≡ true → l.taken < l.count
      more q = ltb-true l.taken l.count q

      staged : Machine
      staged = with_staging (set m.staging l.taken b) m

      go : (t : Bool) → ltb l.taken l.count ≡ t
          → Writes (cond t (waiting (Payload place (loaded l b)) staged) (download l.count l.address l.sum b place (ended m))).machine
      go true q =
          record {
            pending = (below, record { count = k.count; address = k.address; taken = omega (arith, more q, k.count); sum = omega arith });
            tabs = h.tabs;
            page = h.page;
            line = h.line;
            staging = all_set (λ x. x < 256) m.staging l.taken b h.staging byte;
            store = h.store;
          }
      go false q = download_writes (ended m) (pending_writes h Nothing tt) _ _ _ _ _

module _ (e : Edition) (font : List ℕ) (b here : ℕ) (m : Machine) (l : here < 2 ^ 32) (byte : b < 256) where
  act_writes : (q : Pending) → Writes (with_pending q m) → Writes (act e font q b here (with_pending q m)).machine
  unfolding act first_byte second_byte tab_byte tab_item select bracket_byte
  act_writes Nothing h = search (writes_cond, pending_writes h, alone_writes e (ended m) h font b here)
  act_writes (Escape place) h =
      let pending : place < 2 ^ 32 = h.pending in
      search (writes_cond, plot_escape_writes e (ended m) (pending_writes h Nothing tt), text_escape_writes (with_pending (Escape place) m) h e)
  act_writes (Tabs place) h = search (writes_cond, pending_writes h, tab_writes (with_pending (Tabs place) m) h)
  act_writes (Reset place) h = reset_writes e (ended m) (pending_writes h Nothing tt) b place
  act_writes (Select place) h = pending_writes h (SelectLow place b) (h.pending, byte)
  act_writes (SelectLow place high) h = let over = pending_writes h Nothing tt in search writes_cond
  act_writes (CountHigh place) h = pending_writes h (CountLow place b) (h.pending, byte)
  act_writes (CountLow place high) h = pending_writes h (AddressHigh place (high_first high b)) (h.pending.0, omega (arith, h.pending.1))
  act_writes (AddressHigh place count) h = pending_writes h (AddressLow place count b) (h.pending.0, h.pending.1, byte)
  act_writes (AddressLow place count high) h =
      pending_writes h (Payload place (record { count = count; address = high_first high b; taken = 0; sum = 0 }))
      (h.pending.0, record { count = h.pending.1; address = omega (arith, h.pending.2); taken = omega arith; sum = omega arith })
  act_writes (Payload place load) h = payload_byte_writes (with_pending (Payload place load) m) h load b place h.pending.1 h.pending.0 byte
  act_writes (Bracket place s) h =
      let more : HeldSettings (setting_byte b s) = setting_byte_held b s byte h.pending.1 in
      writes_cond (continues b) _ _ (pending_writes h (Bracket place (setting_byte b s)) (h.pending.0, more))
      (bracket_writes (ended m) (pending_writes h Nothing tt) e s b place)

-- what a machine that memory can hold has of it
held_writes : (m : Machine) → Held m → Writes m
held_writes m h =
    record {
      pending = h.printer.pending;
      tabs = h.printer.tabs;
      page = h.memory.page.below;
      line = h.memory.line.below;
      staging = h.memory.staging.below;
      store = h.memory.store.below;
    }

-- as many numbers take as much room
same_room : (size : ℕ) (xs ys : List ℕ) → HeldSlice size xs → length ys ≡ length xs → AllBelow (256 ^ size) ys → HeldSlice size ys
same_room size xs ys h q k = record { below = k; room = rw q h.room }

-- a caller who is told of a step goes on with the same state and stores, and with another page after a finished one alone
told_line : (e : Edition) (v : Event) (m : Machine) → (tell e v m).machine.line ≡ m.line
unfolding tell
told_line e Quiet m = refl
told_line e Finished m = refl
told_line e (Noted f place) m = refl

told-staging : (e : Edition) (v : Event) (m : Machine) → (tell e v m).machine.staging ≡ m.staging
unfolding tell
told-staging e Quiet m = refl
told-staging e Finished m = refl
told-staging e (Noted f place) m = refl

told-store : (e : Edition) (v : Event) (m : Machine) → (tell e v m).machine.store ≡ m.store
unfolding tell
told-store e Quiet m = refl
told-store e Finished m = refl
told-store e (Noted f place) m = refl

-- the state of a sound form's machine has usizes
sound_held : {e : Edition} {p : Printer} → Countable e → Sound e p → p.job < 2 ^ 32 → HeldPending p.pending → HeldTabs p.tabs → HeldState p
sound_held {e} {p} countable k job pending tabs =
    let f : SoundForm e p.form = k.form in
    let rows = countable.rows in
    record {
      lines = omega (arith, f.most);
      spacing = omega (arith, spacing-most p.form.spacing f.spacing);
      top = omega (arith, f.most, f.between, f.bottom);
      bottom = omega (arith, f.most, f.bottom);
      job = job;
      pending = pending;
      row = omega (arith, k.head.row, rows_counted countable p.form f.most, fits-form p.form p.head.row.0 f.bottom k.head.row);
      column = omega (arith, k.head.column, countable.columns p.style.pitch);
      tabs = tabs;
    }

module _ {e : Edition} (proper : Proper e) {m : Machine} (ready : Ready e m) (h : Held m) where
  -- THE LAW: a byte below the job limit leaves a machine that memory can hold
  pub step_held : Countable e → (font : List ℕ) (b : ℕ) → m.printer.job < limit → b < 256 → Held (step e font b m).machine
  unfolding step tell_step
  step_held countable font b room byte =
      let s : Step = step e font b m in
      let left : Machine = s.machine in
      let after : Ready e (tell e s.event left).machine = (step_fine proper ready font b).ready in
      let counted : Machine = with_job (m.printer.job + 1) m in
      let w : Writes left = act_writes e font b m.printer.job counted h.printer.job byte m.printer.pending (held_writes m h) in
      let sound : Sound e left.printer = subst (Sound e) (tell-printer e s.event left) after.printer in
      record {
        printer = sound_held countable sound (omega (arith, (step_counts e font b m).job)) w.pending w.tabs;
        memory =
            record {
              page = same_room 1 m.page left.page h.memory.page (step-page-length e font b m) w.page;
              line =
                  same_room 2 m.line left.line h.memory.line
                  (sym (ap length (told_line e s.event left)) ∙ after.memory.line ∙ sym ready.memory.line) w.line;
              staging =
                  same_room 1 m.staging left.staging h.memory.staging
                  (sym (ap length (told-staging e s.event left)) ∙ after.memory.staging ∙ sym ready.memory.staging) w.staging;
              store =
                  same_room 1 m.store left.store h.memory.store
                  (sym (ap length (told-store e s.event left)) ∙ after.memory.store ∙ sym ready.memory.store) w.store;
            };
      }

-- a blank page lent for the next form leaves one too
pub blank_held : {e : Edition} {m : Machine} → Countable e → m.printer.form.lines ≤ e.longest → Held m
    → Held (with_page (blank_page e m.printer.form) m)
unfolding page_bytes
blank_held {e} {m} countable most h =
    let f : Form = m.printer.form in
    let rows : form_rows f * e.bytes ≤ e.longest * 12 * e.bytes = mul-le-mul_right e.bytes (form_rows_in e.longest f most) in
    let page : HeldBytes (blank_page e f) =
    record { below = blank_page-below e f; room = omega (arith, length-blank_page e f, countable.page) } in
    search

-- the state at the start of a job, of a form whose numbers are usizes
pub new_held : (w : Model) (lines spacing : ℕ) → lines < 2 ^ 64 → spacing < 2 ^ 64 → HeldState (new_printer w (new_form lines spacing))
unfolding top_row first_row
new_held w lines spacing l k =
    record {
      lines = l;
      spacing = k;
      top = omega arith;
      bottom = l;
      job = omega arith;
      pending = tt;
      row = omega (arith, zero-mul (rows_per_line spacing));
      column = omega arith;
      tabs = no_tabs_held;
    }

-- a machine just opened, where the memory lent has the form's lengths
pub opened_held : (w : Model) (lines spacing : ℕ) → lines < 2 ^ 64 → spacing < 2 ^ 64 → {pg ln sg st : List ℕ} → HeldStores pg ln sg st
    → (let f = new_form lines spacing in Sized (described w) f pg ln sg st → Held (opened w f))
opened_held w lines spacing l k {pg} {ln} {sg} {st} h sized =
    let e : Edition = described w in
    let f : Form = new_form lines spacing in
    record {
      printer = new_held w lines spacing l k;
      memory =
          record {
            page = same_room 1 pg (blank_page e f) h.page (length-blank_page e f ∙ sym sized.page) (blank_page-below e f);
            line = same_room 2 ln (empty_line e) h.line (length-empty_line e ∙ sym sized.line) (empty_line-below e);
            staging = same_room 1 sg empty_store h.staging (length-empty_store ∙ sym sized.staging) empty_store-below;
            store = same_room 1 st empty_store h.store (length-empty_store ∙ sym sized.store) empty_store-below;
          };
    }
