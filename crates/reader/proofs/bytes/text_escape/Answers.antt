-- `bytes::text_escape`: four bytes begin longer commands and [ where it can, the rest end theirs here; the arms are the definition's tests in its order.
use mathlib.Core.Path.{◌∙◌}
use Rattle.printer.specs.Bytes.{text_escape}
use Rattle.printer.specs.Escapes.{clear_tabs}
use Rattle.reader.proofs.bytes.text_escape.Goals as goal

pub returns-in-70 : goal.returns-in-70
unfolding text_escape clear_tabs
returns-in-70 c m = c.waiting.ensures m ∙ simp (c.clear_tabs.ensures, c.in-70.is)

pub returns-in-99 : goal.returns-in-99
unfolding text_escape
returns-in-99 c m = c.waiting-in-99.ensures m ∙ simp c.in-99.is

pub returns-in-89 : goal.returns-in-89
unfolding text_escape
returns-in-89 c m = c.waiting-in-89.ensures m ∙ simp c.in-89.is

pub returns-in-78 : goal.returns-in-78
unfolding text_escape
returns-in-78 c m = c.waiting-in-78.ensures m ∙ simp c.in-78.is
