-- What a byte does, by what the arm of a `match` knows.
use Prim.Native.Nat.{ℕ}
use mathlib.Core.List.{List}
use mathlib.Core.Path.{◌≡◌, ap, sym, ◌∙◌}
use Rattle.glyph.specs.Words.{high_first}
use Rattle.printer.specs.declared.Pending.{Pending}
use Rattle.printer.specs.declared.Pending.TheVariants.{AddressHigh, AddressLow, CountLow, Nothing, Payload, SelectLow}
use Rattle.printer.specs.declared.Printer.{Printer}
use Rattle.printer.specs.declared.Stepped.{Stepped}
use Rattle.printer.specs.Bytes.{act, waiting}
use Rattle.printer.specs.Escapes.{select}
use Rattle.printer.specs.Given.{over}
use Rattle.printer.specs.Machine.{Machine, edition_of, with_pending, with_printer}
use Rattle.printer.specs.Steps.{Step}

-- a step that is right for what is known is right for what is there
pub acted : {A : Type 0} (acts : A → Step) {q known : A} {s : Step} → q ≡ known → s ≡ acts known → s ≡ acts q
acted acts told right = right ∙ ap acts (sym told)

-- the arms that go on from what a call before gave: the state with nothing pending, or a number of two bytes
module _ (font : List ℕ) (b here : ℕ) (m : Machine) {q : Pending} {r : Stepped} {place : ℕ} where
  module _ {p : Printer} (ends : p ≡ (with_pending Nothing m).printer) where
    pub selects : {high : ℕ} → q ≡ SelectLow place high → over m r ≡ select high b place (with_printer p m)
        → over m r ≡ act (edition_of m.printer) font q b here m
    unfolding act
    selects told right = rw (told, ← ends) right

  module _ {high n : ℕ} (whole : n ≡ high_first high b) where
    pub counts : q ≡ CountLow place high → over m r ≡ waiting (AddressHigh place n) m → over m r ≡ act (edition_of m.printer) font q b here m
    unfolding act
    counts told right = rw (told, ← whole) right

    pub addresses : {count : ℕ} → q ≡ AddressLow place count high
        → over m r ≡ waiting (Payload place (record { count = count; address = n; taken = 0; sum = 0 })) m
        → over m r ≡ act (edition_of m.printer) font q b here m
    unfolding act
    addresses told right = rw (told, ← whole) right
