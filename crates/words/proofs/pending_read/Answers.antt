-- `pending_read`: that the words are a state gives each number its range.
use native.Mathlib.Omega.{arith}
use Rattle.words.proofs.Ranges.{InRange, ranges}
use Rattle.words.proofs.pending_read.Goals as goal
use Rattle.words.proofs.pending_read.Goals.{Start}

held : (c : Start) → InRange c.args.state.now
held c = ranges c.args.state.now c.requires.0 c.requires.1

pub overflow_cast-state : goal.overflow_cast-state
overflow_cast-state c = omega (arith, (held (goal.at.overflow_cast-state c).Start).place)

pub overflow_cast-state-2 : goal.overflow_cast-state-2
overflow_cast-state-2 c = omega (arith, (held (goal.at.overflow_cast-state-2 c).Start).byte)

pub pending_of-requires : goal.pending_of-requires
pending_of-requires c =
    let h = held (goal.at.pending_of-requires c).Start in (h.count, h.address, h.taken)
