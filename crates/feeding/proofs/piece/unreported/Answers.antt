-- `piece::unreported`: the state and the lengths are tested as feeding tests them; where all is right, the report alone is wrong.
use mathlib.Core.Bool.{true}
use mathlib.Core.Path.{◌≡◌, sym, ◌∙◌}
use Rattle.printer.specs.Given.{machine_in}
use Rattle.printer.specs.Machine.{Machine, edition_of}
use Rattle.printer.specs.Sound.{sound}
use Rattle.feeding.proofs.Feeding.{report_last}
use Rattle.feeding.proofs.piece.unreported.Goals as goal
use Rattle.feeding.proofs.piece.unreported.Goals.{Else-not-sound, Start}

-- the machine that would be fed
abbrev fed-to : Start → Machine
fed-to s = machine_in s.args.p s.args.memory.now

-- past the first test the state is sound
is-sound : (c : Else-not-sound) → sound (edition_of c.args.p) c.args.p ≡ true
is-sound c = sym c.sound.ensures ∙ c.if-not-sound.false

pub returns-in-Ok : goal.returns-in-Ok
returns-in-Ok c piece =
    let s = (goal.at.returns-in-Ok c).Start in
    report_last _ s.args.memory.now.font.now piece (fed-to s) (is-sound (goal.at.returns-in-Ok c).Else-not-sound) (c.fit.ensures s.args.p)
    c.in-Ok.is
