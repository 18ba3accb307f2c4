-- `bytes::tab_byte`: 00 ends the list, any other byte is an item of it.
use borrow.Author.Tests.{eq-eqb}
use Rattle.printer.specs.Bytes.{tab_byte}
use Rattle.state.proofs.Tests.{when}
use Rattle.reader.proofs.bytes.tab_byte.Goals as goal

pub returns-then-b-eq0 : goal.returns-then-b-eq0
unfolding tab_byte
returns-then-b-eq0 c m = when _ (eq-eqb _ _ c.if-b-eq0.true) (c.waiting.ensures m)
