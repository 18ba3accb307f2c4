-- What memory can hold is what the types of the code say, no more and no less. A function's contract is about the arguments of which its types say
-- this: that a state has machine values, and that each number of a slice has one and all of them have room.
use Prim.Native.Nat.{ℕ, ◌^◌, ◌<◌}
use mathlib.Core.List.{List, [], ◌∷◌}
use mathlib.Core.Logic.{◌↔◌}
use mathlib.Core.Path.{refl}
use native.Mathlib.Omega.{arith}
use lib.ListN.{length}
use mir.Syntax.{Width, w8, w16}
use mir.Val.{Val, bits, vint}
use denote.Builtin.{u16}
use denote.Array.{each}
use denote.Laws.{Is}
use denote.Plain.{UInt}
use denote.RattleType.{RattleType}
use denote.Shadow.{shadow}
use denote.Slice.{Room}
use Rattle.sheet.specs.declared.Form.{Form}
use Rattle.sheet.specs.declared.Model.{Model}
use Rattle.sheet.specs.declared.Model.TheVariants.{Lp2, Dg6215}
use Rattle.sheet.specs.declared.Pitch.{Pitch}
use Rattle.sheet.specs.declared.Pitch.TheVariants.{Normal, Compressed}
use Rattle.sheet.specs.Held.{AllBelow, HeldBytes, HeldColumns}
use Rattle.sheet.specs.contracts.Form as form
use Rattle.sheet.specs.contracts.Model as model
use Rattle.sheet.specs.contracts.Pitch as pitch
use Rattle.printer.specs.declared.Head.{Head}
use Rattle.printer.specs.declared.Load.{Load}
use Rattle.printer.specs.declared.Pending.{Pending}
use Rattle.printer.specs.declared.Pending.TheVariants.{Nothing, Escape, Tabs, Reset, Select, SelectLow, CountHigh, CountLow, AddressHigh}
use Rattle.printer.specs.declared.Pending.TheVariants.{AddressLow, Payload, Bracket}
use Rattle.printer.specs.declared.Printer.{Printer}
use Rattle.std.specs.Prelude.{None, Option, Some}
use Rattle.printer.specs.declared.Settings.{Settings}
use Rattle.printer.specs.declared.Style.{Style}
use Rattle.printer.specs.declared.TabSet.{TabSet}
use Rattle.printer.specs.Held.{HeldLoad, HeldPending, HeldSetting, HeldSettings, HeldState, HeldTabs}
use Rattle.printer.specs.contracts.Head as head
use Rattle.printer.specs.contracts.Load as load
use Rattle.printer.specs.contracts.Pending as pending
use Rattle.printer.specs.contracts.Printer as printer
use Rattle.std.specs.contracts.option.Option as option
use Rattle.printer.specs.contracts.Settings as settings
use Rattle.printer.specs.contracts.Style as style
use Rattle.printer.specs.contracts.TabSet as tabs

-- a value of a type has machine values
abbrev pub Typed : (R : RattleType) → R.Denot → Type 0
Typed R x = (vs : List Val) × Is R x vs

-- The state.
load_typed : (l : Load) → HeldLoad l → Typed load.the_row l
load_typed l h =
    (_, (_, (refl, ((refl, h.count), ((refl, h.address), ((refl, h.taken), ((refl, h.sum), tt)))))))

load_held : (l : Load) → Typed load.the_row l → HeldLoad l
load_held l (vs, (vss, (row, ((c, count), ((a, address), ((t, taken), ((s, sum), end))))))) =
    record { count = count; address = address; taken = taken; sum = sum }

setting_typed : (s : Option ℕ) → HeldSetting s → Typed (option.the_row u16) s
setting_typed None h = (_, (_, (refl, (_, (refl, tt)))))
setting_typed (Some n) h = (_, (_, (refl, (_, (refl, ((refl, h), tt))))))

setting_held : (s : Option ℕ) → Typed (option.the_row u16) s → HeldSetting s
setting_held None h = tt
setting_held (Some n) (vs, (us, (is, (vss, (row, ((p, below), end)))))) = below

settings_typed : (s : Settings) → HeldSettings s → Typed settings.the_row s
settings_typed s h =
    let a = setting_typed s.first h.first in
    let b = setting_typed s.second h.second in
    let c = setting_typed s.third h.third in
    (_, (_, (refl, (a.1, (b.1, (c.1, ((refl, h.semicolons), tt)))))))

settings_held : (s : Settings) → Typed settings.the_row s → HeldSettings s
settings_held s (vs, (vss, (row, (a, (b, (c, ((d, semicolons), end))))))) =
    record {
      first = setting_held s.first (_, a);
      second = setting_held s.second (_, b);
      third = setting_held s.third (_, c);
      semicolons = semicolons;
    }

pending_typed : (q : Pending) → HeldPending q → Typed pending.the_row q
pending_typed Nothing h = (_, (_, (refl, (_, (refl, tt)))))
pending_typed (Escape place) h = (_, (_, (refl, (_, (refl, ((refl, h), tt))))))
pending_typed (Tabs place) h = (_, (_, (refl, (_, (refl, ((refl, h), tt))))))
pending_typed (Reset place) h = (_, (_, (refl, (_, (refl, ((refl, h), tt))))))
pending_typed (Select place) h = (_, (_, (refl, (_, (refl, ((refl, h), tt))))))
pending_typed (SelectLow place high) h = (_, (_, (refl, (_, (refl, ((refl, h.0), ((refl, h.1), tt)))))))
pending_typed (CountHigh place) h = (_, (_, (refl, (_, (refl, ((refl, h), tt))))))
pending_typed (CountLow place high) h = (_, (_, (refl, (_, (refl, ((refl, h.0), ((refl, h.1), tt)))))))
pending_typed (AddressHigh place count) h = (_, (_, (refl, (_, (refl, ((refl, h.0), ((refl, h.1), tt)))))))
pending_typed (AddressLow place count high) h = (_, (_, (refl, (_, (refl, ((refl, h.0), ((refl, h.1), ((refl, h.2), tt))))))))
pending_typed (Payload place l) h = (_, (_, (refl, (_, (refl, ((refl, h.0), ((load_typed l h.1).1, tt)))))))
pending_typed (Bracket place s) h = (_, (_, (refl, (_, (refl, ((refl, h.0), ((settings_typed s h.1).1, tt)))))))

pending_held : (q : Pending) → Typed pending.the_row q → HeldPending q
pending_held Nothing h = tt
pending_held (Escape place) (vs, (us, (is, (vss, (row, ((p, below), end)))))) = below
pending_held (Tabs place) (vs, (us, (is, (vss, (row, ((p, below), end)))))) = below
pending_held (Reset place) (vs, (us, (is, (vss, (row, ((p, below), end)))))) = below
pending_held (Select place) (vs, (us, (is, (vss, (row, ((p, below), end)))))) = below
pending_held (SelectLow place high) (vs, (us, (is, (vss, (row, ((p, below), ((b, byte), end))))))) = (below, byte)
pending_held (CountHigh place) (vs, (us, (is, (vss, (row, ((p, below), end)))))) = below
pending_held (CountLow place high) (vs, (us, (is, (vss, (row, ((p, below), ((b, byte), end))))))) = (below, byte)
pending_held (AddressHigh place count) (vs, (us, (is, (vss, (row, ((p, below), ((c, counted), end))))))) = (below, counted)
pending_held (AddressLow place count high) (vs, (us, (is, (vss, (row, ((p, below), ((c, counted), ((b, byte), end)))))))) = (below, counted, byte)
pending_held (Payload place l) (vs, (us, (is, (vss, (row, ((p, below), (loading, end))))))) = (below, load_held l (vss.1.0, loading))
pending_held (Bracket place s) (vs, (us, (is, (vss, (row, ((p, below), (numbers, end))))))) = (below, settings_held s (vss.1.0, numbers))

form_typed : (f : Form) → f.lines < 2 ^ 64 → f.spacing < 2 ^ 64 → f.top.0 < 2 ^ 64 → f.bottom.0 < 2 ^ 64 → Typed form.the_row f
form_typed f l s t b =
    (_, (_, (refl, ((refl, l), ((refl, s), ((_, (refl, ((refl, t), tt))), ((_, (refl, ((refl, b), tt))), tt)))))))

form_held : (f : Form) → Typed form.the_row f → (f.lines < 2 ^ 64) × (f.spacing < 2 ^ 64) × (f.top.0 < 2 ^ 64) × (f.bottom.0 < 2 ^ 64)
form_held f (vs, (vss, (row, ((l, lines), ((s, spacing), ((ts, (one, ((t, top), last))), ((bs, (other, ((b, bottom), end))), rest))))))) =
    (lines, spacing, top, bottom)

head_typed : (h : Head) → h.row.0 < 2 ^ 64 → h.column < 2 ^ 64 → Typed head.the_row h
head_typed h r c = (_, (_, (refl, ((_, (refl, ((refl, r), tt))), ((refl, c), (refl, (refl, (refl, tt))))))))

head_held : (h : Head) → Typed head.the_row h → (h.row.0 < 2 ^ 64) × (h.column < 2 ^ 64)
head_held h (vs, (vss, (row, ((ws, (one, ((r, counted), last))), ((c, column), flags))))) = (counted, column)

model_typed : (w : Model) → Typed model.the_row w
model_typed Lp2 = (_, (_, (refl, (_, (refl, tt)))))
model_typed Dg6215 = (_, (_, (refl, (_, (refl, tt)))))

pitch_typed : (p : Pitch) → Typed pitch.the_row p
pitch_typed Normal = (_, (_, (refl, (_, (refl, tt)))))
pitch_typed Compressed = (_, (_, (refl, (_, (refl, tt)))))

style_typed : (s : Style) → Typed style.the_row s
style_typed s = (_, (_, (refl, ((pitch_typed s.pitch).1, (refl, (refl, (refl, tt)))))))

tabs_typed : (t : TabSet) → HeldTabs t → Typed tabs.the_row t
tabs_typed t h = (_, (_, (refl, ((refl, h.low), ((refl, h.high), tt)))))

tabs_held : (t : TabSet) → Typed tabs.the_row t → HeldTabs t
tabs_held t (vs, (vss, (row, ((l, low), ((h, high), end))))) = record { low = low; high = high }

state_typed : (p : Printer) → HeldState p → Typed printer.the_row p
state_typed p h =
    let f : Typed form.the_row p.form = form_typed p.form h.lines h.spacing h.top h.bottom in
    let q : Typed pending.the_row p.pending = pending_typed p.pending h.pending in
    let at : Typed head.the_row p.head = head_typed p.head h.row h.column in
    let s : Typed style.the_row p.style = style_typed p.style in
    let t : Typed tabs.the_row p.tabs = tabs_typed p.tabs h.tabs in
    (_, (_, (refl, ((model_typed p.model).1, (f.1, ((refl, h.job), (q.1, (at.1, (s.1, (t.1, tt))))))))))

state_held : (p : Printer) → Typed printer.the_row p → HeldState p
state_held p (vs, (vss, (row, (in_model, (in_form, ((j, job), (in_pending, (in_head, (in_style, (in_tabs, end)))))))))) =
    let f = form_held p.form (_, in_form) in
    let h = head_held p.head (_, in_head) in
    record {
      lines = f.0;
      spacing = f.1;
      top = f.2;
      bottom = f.3;
      job = job;
      pending = pending_held p.pending (_, in_pending);
      row = h.0;
      column = h.1;
      tabs = tabs_held p.tabs (_, in_tabs);
    }

-- THE LAW: memory can hold a state exactly where its type has machine values for it
pub state-types : (p : Printer) → HeldState p ↔ Typed printer.the_row p
state-types p = (state_typed p, state_held p)

-- Slices.
module _ (w : Width) where
  -- the elements have a machine value each, and room together
  abbrev pub TypedSlice : List ℕ → Type 0
  TypedSlice xs = Room (UInt w) (length xs) × ((us : List Val) × shadow (each ℕ (UInt w).own_val xs us))

  below_typed : (xs : List ℕ) → AllBelow (2 ^ bits w) xs → (us : List Val) × shadow (each ℕ (UInt w).own_val xs us)
  below_typed [] h = ([], tt)
  below_typed (x ∷ xs) h = let rest = below_typed xs h.1 in (vint w x ∷ rest.0, ((refl, h.0), rest.1))

  below_held : (xs : List ℕ) (us : List Val) → shadow (each ℕ (UInt w).own_val xs us) → AllBelow (2 ^ bits w) xs
  below_held [] us h = tt
  below_held (x ∷ xs) [] h = absurd h
  below_held (x ∷ xs) (u ∷ us) h = (h.0.1, below_held xs us h.1)

-- THE LAW: so of bytes, and of sixteen-bit numbers
pub bytes-types : (xs : List ℕ) → HeldBytes xs ↔ TypedSlice w8 xs
bytes-types xs = (
  λ h. ((omega (arith, h.room), h.room), below_typed w8 xs h.below),
  λ t. record { below = below_held w8 xs t.1.0 t.1.1; room = t.0.1 },
)

pub columns-types : (xs : List ℕ) → HeldColumns xs ↔ TypedSlice w16 xs
columns-types xs = (
  λ h. ((omega (arith, h.room), h.room), below_typed w16 xs h.below),
  λ t. record { below = below_held w16 xs t.1.0 t.1.1; room = t.0.1 },
)
