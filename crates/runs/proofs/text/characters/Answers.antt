-- `text::characters`: each byte that prints and whose cell has room leads the machine one character on; the first that does not ends the run.
use mathlib.Core.Bool.{not, ◌&&◌}
use lib.Dec.{leb}
use Prim.Native.Nat.{ℕ, ◌+◌, ◌*◌, ◌≤◌, ◌<◌}
use mathlib.Core.Bool.{true}
use mathlib.Core.Path.{◌≡◌, ap, sym, ◌∙◌}
use native.Mathlib.Omega.{arith}
use lib.ListN.{get_or, length, take}
use Rattle.std.proofs.lemmas.List.{get_or-take}
use Rattle.sheet.proofs.Editions.{described_proper}
use Rattle.printer.specs.Alone.{prints}
use Rattle.printer.specs.Machine.{edition_of, limit}
use Rattle.runs.proofs.Running.{another_byte, in_part, one_more, over_part, room_for_it, runs_over}
use Rattle.runs.proofs.Typed.{Pace, entering, roomy, stays_on, stride_most, typed_on, typed_out, types_still}
use Rattle.runs.proofs.text.characters.Goals as goal
use Rattle.runs.proofs.text.characters.Goals.{After-cell, After-enters, Else-not-enters, In-loop-k}

another : (c : In-loop-k) → c.loop-k.k < c.args.n
another c = in_part _ c.args.piece.now c.requires.4 c.loop-k-test.true

-- the byte that the loop is at is the piece's
at_k : (c : In-loop-k) → get_or (take c.args.n c.args.piece.now) c.loop-k.k 0 ≡ get_or c.args.piece.now c.loop-k.k 0
at_k c = get_or-take c.args.n c.args.piece.now c.loop-k.k 0 (another c)

inside : (c : In-loop-k) → c.loop-k.k < length c.args.piece.now
inside c = another_byte c.loop-k.invariant.taken (another c) c.args.piece.now c.requires.4

room : (c : In-loop-k) → c.loop-k.q.job < limit
room c = room_for_it c.loop-k.invariant.taken (another c) c.args.piece.now c.requires.4

entered : (c : After-enters) → c.enters.result
    ≡ (prints (get_or c.args.piece.now c.loop-k.k 0) && leb (c.loop-k.q.head.column + c.stride-step.result * c.cell.result) c.width-w.result)
entered c = rw (← at_k (goal.at.After-enters c).In-loop-k) c.enters.ensures

-- the style's stride, cell and line, as the code has them
pace : (c : After-cell) → let p = c.args.p in
    Pace (edition_of p) p.style c.stride-step.result (c.stride-step.result * c.cell.result) c.width-w.result
pace c =
    record {
      steps = c.stride-step.ensures;
      cells = ap (λ (n : ℕ). c.stride-step.result * n) c.cell.ensures;
      width = c.width-w.ensures;
    }

pub returns-then-not-enters : goal.returns-then-not-enters
returns-then-not-enters c page staging store font e =
    let l = c.loop-k in
    sym (typed_out (pace (goal.at.returns-then-not-enters c).After-cell)
    (l.invariant.runs page staging store font e) l.invariant.typing l.invariant.style (inside (goal.at.returns-then-not-enters c).In-loop-k)
    (entered (goal.at.returns-then-not-enters c).After-enters) c.if-not-enters.true)

pub returns : goal.returns
returns c page staging store font e =
    let l = c.loop-k in
    let over = over_part _ c.args.piece.now c.requires.4 c.loop-k-test.false in
    let whole : c.args.n ≡ l.k = omega (arith, l.invariant.taken.within, over) in
    rw whole (sym (runs_over (l.invariant.runs page staging store font e) c.args.p.job l.invariant.taken.counted (omega (arith, over, c.requires.4))))

-- the byte prints, and its cell has room on the line
character : (c : Else-not-enters) → (prints (get_or c.args.piece.now c.loop-k.k 0) ≡ true)
    × (c.loop-k.q.head.column + c.stride-step.result * c.cell.result ≤ c.width-w.result)
character c = entering _ _ _ (entered (goal.at.Else-not-enters c).After-enters) (ap not c.if-not-enters.false)

pub enter-requires : goal.enter-requires
enter-requires c =
    let k = (goal.at.enter-requires c).After-cell in
    roomy (described_proper c.args.p.model) (pace k) (stride_most c.args.p.model (pace k)) (character (goal.at.enter-requires c).Else-not-enters)
    (c.from.ensures ∙ at_k (goal.at.enter-requires c).In-loop-k) (c.loop-k.invariant.kept ∙ c.requires.2) c.requires.3

pub loop-k-preserved : goal.loop-k-preserved
loop-k-preserved c =
    let l = c.loop-k in
    let i = (goal.at.loop-k-preserved c).In-loop-k in
    let b = character (goal.at.loop-k-preserved c).Else-not-enters in
    record {
      typing = types_still _ l.invariant.typing;
      style = l.invariant.style;
      column = stays_on (described_proper c.args.p.model) (pace (goal.at.loop-k-preserved c).After-cell) b.1;
      taken = one_more l.invariant.taken (another i);
      kept = c.enter.auto.line ∙ l.invariant.kept;
      runs = λ page staging store font e. typed_on (pace (goal.at.loop-k-preserved c).After-cell)
          (l.invariant.runs page staging store font e) l.invariant.typing l.invariant.style (inside i) (room i) b e
          (c.from.ensures ∙ at_k i) c.enter.ensures;
    }
