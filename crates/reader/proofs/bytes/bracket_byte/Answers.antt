-- `bytes::bracket_byte`: a byte that goes on adds to the numbers; any other ends the command, in a state with nothing pending.
use mathlib.Core.Path.{◌∙◌}
use Rattle.printer.specs.Bytes.{bracket_byte}
use Rattle.reader.proofs.bytes.bracket_byte.Goals as goal

pub returns-then-continues : goal.returns-then-continues
unfolding bracket_byte
returns-then-continues c m =
    c.waiting.ensures m ∙ simp (c.setting_byte.ensures, ← c.continues.ensures, c.if-continues.true)
