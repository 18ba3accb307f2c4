-- `bytes::second_byte`: plot mode parts the bytes first; in it the command ends before the byte is read.
use Rattle.printer.specs.Bytes.{second_byte}
use Rattle.printer.specs.Given.{machine}
use Rattle.state.proofs.Tests.{unless}
use Rattle.reader.proofs.bytes.second_byte.Goals as goal

pub returns-else-p : goal.returns-else-p
unfolding second_byte
returns-else-p c page staging store =
    let a = c.args in
    unless _ c.if-p.false (c.text_escape.ensures (machine a.p page a.line.now staging store))
