-- Of a desk's parts a call is lent what it measures: so many bytes of the page, the line store of the edition, and both stores whole.
use Rattle.std.specs.Prelude.{◌≡◌, ℕ, take, drop}
use Rattle.sheet.specs.Edition.{Edition}
use Rattle.printer.specs.declared.Printer.{Printer}
use Rattle.printer.specs.Given.{machine}
use Rattle.printer.specs.Machine.{Machine}
use Rattle.protocol.specs.declared.Fed.{Fed}
use Rattle.protocol.specs.declared.Opened.{Opened}
use Rattle.protocol.specs.Calls.{Feeding, Opening}
use Rattle.protocol.specs.Given.{given_feeding, given_opening}
use Rattle.desk.specs.declared.Desk.{Desk}

-- a state with what is lent of a desk
abbrev pub lent : Edition → ℕ → Desk → Printer → Machine
lent e bytes d p = machine p (take bytes d.page) (take e.columns d.line) d.staging d.store

-- what opening gives back, with what was lent as it leaves it
abbrev pub opened_on : Edition → ℕ → Desk → Opened → Opening
opened_on e bytes d r = given_opening r (take bytes d.page) (take e.columns d.line) d.staging d.store

-- what feeding gives back, with what was lent as it leaves it
abbrev pub fed_on : Edition → ℕ → Desk → Fed → Feeding
fed_on e bytes d r = given_feeding r (take bytes d.page) (take e.columns d.line) d.staging d.store

-- what isn't lent stays as it was
abbrev pub KeepsRest : Edition → ℕ → Desk → Desk → Type 0
KeepsRest e bytes before after = (drop bytes after.page ≡ drop bytes before.page) × (drop e.columns after.line ≡ drop e.columns before.line)
