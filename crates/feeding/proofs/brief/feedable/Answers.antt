-- `brief::feedable`: past both tests of the state it is sound, and where all fits, the machine is ready and the font has its length.
use mathlib.Core.Bool.{true, true≢false}
use mathlib.Core.Path.{◌≡◌, refl, sym, ◌∙◌}
use Rattle.std.specs.Prelude.{Err, Ok, is_ok}
use Rattle.protocol.specs.Calls.{Fit}
use Rattle.printer.specs.Given.{machine_in}
use Rattle.printer.specs.Machine.{Machine, edition_of}
use Rattle.printer.specs.Sound.{sound}
use Rattle.printer.proofs.Soundness.{sound_facts}
use Rattle.protocol.proofs.Accepted.{right_fitting}
use Rattle.feeding.proofs.brief.feedable.Goals as goal
use Rattle.feeding.proofs.brief.feedable.Goals.{Else-not-rest_sound, Start}

-- the machine that would be fed
abbrev fed-to : Start → Machine
fed-to s = machine_in s.args.p s.args.memory.now

is-sound : (c : Else-not-rest_sound) → sound (edition_of c.args.p) c.args.p ≡ true
is-sound c = sym c.rest_sound.ensures ∙ c.if-not-rest_sound.false

-- what is right is all that fits
right : (t : Fit) → is_ok t ≡ true → t ≡ Ok tt
right (Ok u) q = refl
right (Err lent) q = absurd (true≢false (sym q))

pub returns : goal.returns
returns c q =
    let s = (goal.at.returns c).Start in
    let fits = right_fitting _ _ _ (fed-to s) (c.fit.ensures s.args.p) (right _ (sym c.is_ok.ensures.value ∙ q)) in
    (record { printer = sound_facts _ _ (is-sound (goal.at.returns c).Else-not-rest_sound); memory = fits.memory }, fits.font)
