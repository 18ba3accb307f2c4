-- `calls::feed` meets its contract: an unsound state and memory that doesn't fit are answered as `feeding` answers them, and what passes both tests is
-- ready for its bytes.
use mathlib.Core.Bool.{true}
use mathlib.Core.Path.{◌≡◌, sym, ◌∙◌}
use lib.ListN.{length}
use Rattle.printer.specs.Given.{machine_in}
use Rattle.printer.specs.Machine.{Machine, edition_of, store_size}
use Rattle.printer.specs.Room.{Ready}
use Rattle.printer.specs.Sound.{sound}
use Rattle.printer.proofs.Soundness.{sound_facts}
use Rattle.protocol.specs.Calls.{Feeding}
use Rattle.protocol.specs.Given.{feeding_in}
use Rattle.protocol.proofs.Accepted.{right_fitting, takes_fed}
use Rattle.job.proofs.calls.feed.Goals as goal
use Rattle.job.proofs.calls.feed.Goals.{After-take_bytes, Else-not-rest_sound, In-Ok, Start}

-- the machine that is fed
abbrev fed-to : Start → Machine
fed-to c = machine_in c.args.p c.args.memory.now

is-sound : (c : Else-not-rest_sound) → sound (edition_of c.args.p) c.args.p ≡ true
is-sound c = sym c.rest_sound.ensures ∙ c.if-not-rest_sound.false

-- where all fits, the machine is ready and the font has its length
ready : (c : In-Ok) → let s = (goal.at.In-Ok c).Start in
    Ready (edition_of s.args.p) (fed-to s) × (length s.args.memory.now.font.now ≡ store_size)
ready c =
    let start = (goal.at.In-Ok c).Start in
    let fits = right_fitting _ _ _ (fed-to start) (c.fit.ensures start.args.p) c.in-Ok.is in
    (record { printer = sound_facts _ _ (is-sound (goal.at.In-Ok c).Else-not-rest_sound); memory = fits.memory }, fits.font)

-- what the bytes come to
abbrev taken : After-take_bytes → Feeding
taken c = feeding_in c.take_bytes.result c.take_bytes.new.memory

pub take_bytes-requires : goal.take_bytes-requires
take_bytes-requires c = ready (goal.at.take_bytes-requires c).In-Ok

pub returns-in-Ok-clause-fed : goal.returns-in-Ok-clause-fed
returns-in-Ok-clause-fed c =
    let all = ready (goal.at.returns-in-Ok-clause-fed c).In-Ok in
    takes_fed all.0 _ all.1 _ (taken (goal.at.returns-in-Ok-clause-fed c).After-take_bytes) c.take_bytes.ensures.fed
