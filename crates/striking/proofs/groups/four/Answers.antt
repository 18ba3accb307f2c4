-- `groups::four`: the four columns stand side by side.
use Rattle.striking.proofs.Turning.{four_beside}
use Rattle.striking.proofs.groups.four.Goals as goal

pub returns : goal.returns
returns c = four_beside _ _ c.requires
