-- A rule obeyed from the state that a call gave.
use mathlib.Core.Path.{◌≡◌, ap, ◌∙◌}
use Rattle.printer.specs.declared.Printer.{Printer}
use Rattle.printer.specs.Machine.{Machine, with_printer}
use Rattle.printer.specs.Steps.{Step}

pub from : (rule : Machine → Step) (m : Machine) {s : Step} {given state : Printer} → given ≡ state → s ≡ rule (with_printer given m)
    → s ≡ rule (with_printer state m)
from rule m e h = h ∙ ap (λ (p : Printer). rule (with_printer p m)) e
