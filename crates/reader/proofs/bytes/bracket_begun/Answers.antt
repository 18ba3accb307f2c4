-- `bytes::bracket_begun`: where ESC [ begins a command it is pending; else the definition's tests of the byte all fail.
use mathlib.Core.Path.{◌∙◌}
use Rattle.printer.specs.Bytes.{text_escape}
use Rattle.reader.proofs.bytes.bracket_begun.Goals as goal

pub returns-then-brackets : goal.returns-then-brackets
unfolding text_escape
returns-then-brackets c m = c.waiting.ensures m ∙ simp (← c.brackets.ensures, c.if-brackets.true)
