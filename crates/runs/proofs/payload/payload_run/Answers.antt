-- `payload::payload_run`: each byte that the download lacks leads the machine one staged byte on; a download that has all of them ends the run.
use Prim.Native.Nat.{ℕ, ◌<◌}
use mathlib.Core.Path.{◌≡◌, ap, sym, ◌∙◌}
use native.Mathlib.Omega.{arith}
use lib.ListN.{get_or, length, set, take}
use Rattle.std.proofs.lemmas.List.{get_or-take}
use Rattle.printer.specs.Bytes.{loaded}
use Rattle.printer.specs.Machine.{limit}
use Rattle.runs.proofs.Running.{another_byte, in_part, one_more, over_part, room_for_it, runs_over}
use Rattle.runs.proofs.Staged.{staged_on}
use Rattle.runs.proofs.payload.payload_run.Goals as goal
use Rattle.runs.proofs.payload.payload_run.Goals.{In-loop-k}

another : (c : In-loop-k) → c.loop-k.k < c.args.n
another c = in_part _ c.args.piece.now c.requires.1 c.loop-k-test.true

-- the byte that the loop is at is the piece's
at_k : (c : In-loop-k) → get_or (take c.args.n c.args.piece.now) c.loop-k.k 0 ≡ get_or c.args.piece.now c.loop-k.k 0
at_k c = get_or-take c.args.n c.args.piece.now c.loop-k.k 0 (another c)

inside : (c : In-loop-k) → c.loop-k.k < length c.args.piece.now
inside c = another_byte c.loop-k.invariant.taken (another c) c.args.piece.now c.requires.1

room : (c : In-loop-k) → c.loop-k.job < limit
room c = room_for_it c.loop-k.invariant.taken (another c) c.args.piece.now c.requires.1

pub loop-k-preserved : goal.loop-k-preserved
loop-k-preserved c =
    let l = c.loop-k in
    let i = (goal.at.loop-k-preserved c).In-loop-k in
    record {
      taken = one_more l.invariant.taken (another i);
      kept = c.stage.auto.staging ∙ l.invariant.kept;
      runs = λ font page line store. staged_on _ c.args.place c.args.p font c.args.piece.now page line store l.l l.job
          l.staging (l.invariant.runs font page line store) (inside i) (room i) c.if-l.false
          (c.stage.ensures ∙ ap (λ (b : ℕ). set l.staging l.l.taken b) (at_k i))
          (c.loaded-l.ensures ∙ ap (loaded l.l) (at_k i));
    }

pub returns : goal.returns
returns c font page line store =
    let l = c.loop-k in
    let over = over_part _ c.args.piece.now c.requires.1 c.loop-k-test.false in
    let whole : c.args.n ≡ l.k = omega (arith, l.invariant.taken.within, over) in
    rw c.staged-2.ensures
    (rw whole (sym (runs_over (l.invariant.runs font page line store) c.args.p.job l.invariant.taken.counted (omega (arith, over, c.requires.1)))))
