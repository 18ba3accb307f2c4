-- `bytes::act`: each arm knows what is pending, and what it calls is the rule for that.
use Rattle.printer.specs.declared.Pending.{Pending}
use Rattle.printer.specs.Bytes.{act}
use Rattle.printer.specs.Given.{machine_in}
use Rattle.printer.specs.Machine.{Machine, edition_of}
use Rattle.printer.specs.Steps.{Step}
use Rattle.reader.proofs.Acting.{acted, addresses, counts, selects}
use Rattle.reader.proofs.bytes.act.Goals as goal
use Rattle.reader.proofs.bytes.act.Goals.{Start}

-- the memory that the call was lent, with the state that it was given
abbrev lent : Start → Machine
lent c = machine_in c.args.p c.args.memory.now

-- what document 01 makes of the byte, by what is pending
abbrev acts : Start → Pending → Step
acts c q = act (edition_of c.args.p) c.args.memory.now.font.now q c.args.b c.args.here (lent c)

pub returns-in-Tabs-clause-stepped : goal.returns-in-Tabs-clause-stepped
unfolding act
returns-in-Tabs-clause-stepped c =
    acted (acts (goal.at.returns-in-Tabs-clause-stepped c).Start) c.in-Tabs.is
    (c.tab_byte.ensures (lent (goal.at.returns-in-Tabs-clause-stepped c).Start))

pub returns-in-Select-clause-stepped : goal.returns-in-Select-clause-stepped
unfolding act
returns-in-Select-clause-stepped c =
    acted (acts (goal.at.returns-in-Select-clause-stepped c).Start) c.in-Select.is
    (c.waiting.ensures (lent (goal.at.returns-in-Select-clause-stepped c).Start))

pub returns-in-SelectLow-clause-stepped : goal.returns-in-SelectLow-clause-stepped
returns-in-SelectLow-clause-stepped c =
    let a = c.args in let m = lent (goal.at.returns-in-SelectLow-clause-stepped c).Start in
    selects a.memory.now.font.now a.b a.here m c.with_pending.ensures c.in-SelectLow.is (c.select.ensures m)

pub returns-in-CountHigh-clause-stepped : goal.returns-in-CountHigh-clause-stepped
unfolding act
returns-in-CountHigh-clause-stepped c =
    acted (acts (goal.at.returns-in-CountHigh-clause-stepped c).Start) c.in-CountHigh.is
    (c.waiting-in-CountHigh.ensures (lent (goal.at.returns-in-CountHigh-clause-stepped c).Start))

pub returns-in-CountLow-clause-stepped : goal.returns-in-CountLow-clause-stepped
returns-in-CountLow-clause-stepped c =
    let a = c.args in let m = lent (goal.at.returns-in-CountLow-clause-stepped c).Start in
    counts a.memory.now.font.now a.b a.here m c.high_first.ensures c.in-CountLow.is (c.waiting-in-CountLow.ensures m)

pub returns-in-AddressHigh-clause-stepped : goal.returns-in-AddressHigh-clause-stepped
unfolding act
returns-in-AddressHigh-clause-stepped c =
    acted (acts (goal.at.returns-in-AddressHigh-clause-stepped c).Start) c.in-AddressHigh.is
    (c.waiting-in-AddressHigh.ensures (lent (goal.at.returns-in-AddressHigh-clause-stepped c).Start))

pub returns-in-AddressLow-clause-stepped : goal.returns-in-AddressLow-clause-stepped
returns-in-AddressLow-clause-stepped c =
    let a = c.args in let m = lent (goal.at.returns-in-AddressLow-clause-stepped c).Start in
    addresses a.memory.now.font.now a.b a.here m c.high_first-in-AddressLow.ensures c.in-AddressLow.is (c.waiting-in-AddressLow.ensures m)

pub returns-in-Bracket-clause-stepped : goal.returns-in-Bracket-clause-stepped
unfolding act
returns-in-Bracket-clause-stepped c =
    acted (acts (goal.at.returns-in-Bracket-clause-stepped c).Start) c.in-Bracket.is
    (c.bracket_byte.ensures (lent (goal.at.returns-in-Bracket-clause-stepped c).Start))
