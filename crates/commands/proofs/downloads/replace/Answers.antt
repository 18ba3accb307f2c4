-- `downloads::replace`: the bytes copied to the front of the store's part from `at` on are the definition's replacement.
use Rattle.commands.proofs.Copying.{part_copied}
use Rattle.commands.proofs.downloads.replace.Goals as goal

pub returns : goal.returns
returns c = let a = c.args in part_copied a.at a.n a.store.now a.staging.now _ c.copy.ensures
