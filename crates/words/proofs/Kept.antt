-- Taking apart what was put together gives the same state.
use Prim.Native.Nat.{ℕ, ◌≤◌}
use mathlib.Core.Bool.{Bool, true, false, ◌&&◌}
use mathlib.Core.List.{List}
use mathlib.Core.Path.{◌≡◌, refl}
use native.Mathlib.Omega.{arith}
use borrow.Author.Tests.{eq-eqb, le-leb}
use lib.Dec.{eqb, leb}
use lib.ListN.{get_or, length}
use Rattle.sheet.specs.declared.Model.{Model}
use Rattle.sheet.specs.declared.Model.TheVariants.{Lp2, Dg6215}
use Rattle.sheet.specs.declared.Pitch.{Pitch}
use Rattle.sheet.specs.declared.Pitch.TheVariants.{Normal, Compressed}
use Rattle.printer.specs.Machine.{limit}
use Rattle.printer.specs.declared.Pending.{Pending}
use Rattle.printer.specs.declared.Pending.TheVariants.{Nothing, Escape, Tabs, Reset, Select, SelectLow, CountHigh, CountLow}
use Rattle.printer.specs.declared.Pending.TheVariants.{AddressHigh, AddressLow, Payload, Bracket}
use Rattle.printer.specs.declared.Printer.{Printer}
use Rattle.std.specs.Prelude.{None, Option, Some}
use Rattle.words.specs.Words.{Ranged, at_most, form_of, head_of, in_range, in_range_before, is_state, model_of, model_word}
use Rattle.words.specs.Words.{number_limit, part, pending_of, pending_words, pitch_of, pitch_word, setting_of, setting_word, state_of}
use Rattle.words.specs.Words.{state_size, state_words, style_of, truth}

truth_kept : (b : Bool) → eqb (truth b) 1 ≡ b
unfolding truth
truth_kept true = refl
truth_kept false = refl

model_kept : (m : Model) → model_of (model_word m) ≡ m
unfolding model_of model_word
model_kept Lp2 = refl
model_kept Dg6215 = refl

pitch_kept : (p : Pitch) → pitch_of (pitch_word p) ≡ p
unfolding pitch_of pitch_word
pitch_kept Normal = refl
pitch_kept Compressed = refl

setting_kept : (s : Option ℕ) → setting_of (setting_word s) ≡ s
unfolding setting_of setting_word
setting_kept None = refl
setting_kept (Some n) = grind arith

-- the six words of what is pending, read back
abbrev reread : List ℕ → Pending
reread ws = pending_of (get_or ws 0 0) (get_or ws 1 0) (get_or ws 2 0) (get_or ws 3 0) (get_or ws 4 0) (get_or ws 5 0)

pending_kept : (q : Pending) → reread (pending_words q) ≡ q
unfolding pending_of pending_words
pending_kept Nothing = refl
pending_kept (Escape place) = refl
pending_kept (Tabs place) = refl
pending_kept (Reset place) = refl
pending_kept (Select place) = refl
pending_kept (SelectLow place high) = refl
pending_kept (CountHigh place) = refl
pending_kept (CountLow place high) = refl
pending_kept (AddressHigh place count) = refl
pending_kept (AddressLow place count high) = refl
pending_kept (Payload place l) = refl
pending_kept (Bracket place s) = simp setting_kept

pub six_words : (q : Pending) → length (pending_words q) ≡ 6
unfolding pending_words
six_words Nothing = refl
six_words (Escape place) = refl
six_words (Tabs place) = refl
six_words (Reset place) = refl
six_words (Select place) = refl
six_words (SelectLow place high) = refl
six_words (CountHigh place) = refl
six_words (CountLow place high) = refl
six_words (AddressHigh place count) = refl
six_words (AddressLow place count high) = refl
six_words (Payload place l) = refl
six_words (Bracket place s) = refl

-- THE LAW
pub state_kept : (p : Printer) → state_of (state_words p) ≡ p
unfolding state_of form_of head_of style_of state_words
state_kept p = simp (truth_kept, model_kept, pitch_kept, pending_kept)

pub all_words : (p : Printer) → length (state_words p) ≡ state_size
unfolding state_words
all_words p = simp six_words

truth-small : (b : Bool) → leb (truth b) 1 ≡ true
unfolding truth
truth-small true = refl
truth-small false = refl

model-small : (m : Model) → leb (model_word m) 1 ≡ true
unfolding model_word
model-small Lp2 = refl
model-small Dg6215 = refl

pitch-small : (p : Pitch) → leb (pitch_word p) 1 ≡ true
unfolding pitch_word
pitch-small Normal = refl
pitch-small Compressed = refl

-- the six words of what is pending are in range
in_six : (q : Pending) → Ranged q
    → (at_most 11 (part 0 1 (pending_words q))
    && at_most limit (part 1 1 (pending_words q))
    && at_most 255 (part 2 1 (pending_words q))
    && at_most (number_limit (get_or (pending_words q) 0 0)) (part 3 3 (pending_words q)))
    ≡ true
unfolding pending_words at_most number_limit
in_six Nothing h = refl
in_six (Escape place) h = simp (le-leb _ _ h)
in_six (Tabs place) h = simp (le-leb _ _ h)
in_six (Reset place) h = simp (le-leb _ _ h)
in_six (Select place) h = simp (le-leb _ _ h)
in_six (SelectLow place high) h = simp (le-leb _ _ h.0, le-leb _ _ h.1)
in_six (CountHigh place) h = simp (le-leb _ _ h)
in_six (CountLow place high) h = simp (le-leb _ _ h.0, le-leb _ _ h.1)
in_six (AddressHigh place count) h = simp (le-leb _ _ h.0, le-leb _ _ h.1)
in_six (AddressLow place count high) h = simp (le-leb _ _ h.0, le-leb _ _ h.1, le-leb _ _ h.2)
in_six (Payload place l) h = simp (le-leb _ _ h.0, le-leb _ _ h.1, le-leb _ _ h.2, le-leb _ _ h.3, le-leb _ _ h.4)
in_six (Bracket place s) h = simp (le-leb _ _ h.0, le-leb _ _ h.1, le-leb _ _ h.2, le-leb _ _ h.3, le-leb _ _ h.4)

put_in_range : (p : Printer) → p.job ≤ limit → Ranged p.pending → in_range (state_words p) ≡ true
unfolding in_range in_range_before state_words at_most
put_in_range p j h = simp (le-leb _ _ j, truth-small, model-small, pitch-small) (in_six p.pending h)

-- what was put together is a state
pub put_is_state : (p : Printer) → p.job ≤ limit → Ranged p.pending → is_state (state_words p) ≡ true
unfolding is_state
put_is_state p j h = simp (eq-eqb _ _ (all_words p)) (put_in_range p j h)
