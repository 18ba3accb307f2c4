-- `downloads::out_of_range`: a payload that ends past the store's last byte is out of range, whatever its count.
use Rattle.std.proofs.Common.{le-ltb, lt-ltb}
use Rattle.printer.specs.Downloads.{out_of_range}
use Rattle.commands.proofs.downloads.out_of_range.Goals as goal

pub returns-then-end-gt-PAST_ADDRESS : goal.returns-then-end-gt-PAST_ADDRESS
unfolding out_of_range
returns-then-end-gt-PAST_ADDRESS c = simp (le-ltb _ _ c.if-first-lt-FIRST_ADDRESS.false, lt-ltb _ _ c.if-end-gt-PAST_ADDRESS.true)
