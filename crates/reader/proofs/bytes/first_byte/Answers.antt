-- `bytes::first_byte`: ESC waits for more; any other byte is a command of its own.
use borrow.Author.Tests.{eq-eqb}
use Rattle.printer.specs.Bytes.{first_byte}
use Rattle.printer.specs.Given.{machine_in}
use Rattle.state.proofs.Tests.{when}
use Rattle.reader.proofs.bytes.first_byte.Goals as goal

pub returns-then-b-eq27-clause-stepped : goal.returns-then-b-eq27-clause-stepped
unfolding first_byte
returns-then-b-eq27-clause-stepped c =
    let a = c.args in
    when _ (eq-eqb _ _ c.if-b-eq27.true) (c.waiting.ensures (machine_in a.p a.memory.now))
