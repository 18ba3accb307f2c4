-- `plots::plot_run`: each byte that is a column and fits leads the machine one column on; the first that is none ends the run.
use mathlib.Core.Bool.{not, ◌&&◌}
use mathlib.Core.Path.{ap}
use Prim.Native.Nat.{◌+◌, ◌≤◌, ◌<◌}
use mathlib.Core.Bool.{true}
use mathlib.Core.Path.{◌≡◌, sym, ◌∙◌}
use native.Mathlib.Omega.{arith}
use lib.Dec.{leb}
use lib.ListN.{get_or, length, take}
use Rattle.std.proofs.lemmas.List.{get_or-take}
use Rattle.sheet.proofs.Editions.{described_proper}
use Rattle.printer.specs.Plotting.{plots}
use Rattle.printer.specs.Machine.{edition_of, limit}
use Rattle.runs.proofs.Running.{another_byte, in_part, one_more, over_part, room_for_it, runs_over}
use Rattle.runs.proofs.Plotted.{drawing, on_line, plots_still, plotted_on, plotted_out}
use Rattle.runs.proofs.plots.plot_run.Goals as goal
use Rattle.runs.proofs.plots.plot_run.Goals.{After-draws, Else-not-draws, In-loop-k}

another : (c : In-loop-k) → c.loop-k.k < c.args.n
another c = in_part _ c.args.piece.now c.requires.3 c.loop-k-test.true

inside : (c : In-loop-k) → c.loop-k.k < length c.args.piece.now
inside c = another_byte c.loop-k.invariant.taken (another c) c.args.piece.now c.requires.3

room : (c : In-loop-k) → c.loop-k.q.job < limit
room c = room_for_it c.loop-k.invariant.taken (another c) c.args.piece.now c.requires.3

-- the byte that the loop is at is the piece's
at_k : (c : In-loop-k) → get_or (take c.args.n c.args.piece.now) c.loop-k.k 0 ≡ get_or c.args.piece.now c.loop-k.k 0
at_k c = get_or-take c.args.n c.args.piece.now c.loop-k.k 0 (another c)

drawn : (c : After-draws) → c.draws.result
    ≡ (plots (get_or c.args.piece.now c.loop-k.k 0) && leb (c.loop-k.q.head.column + c.stride-each.result) c.width-w.result)
drawn c = rw (← at_k (goal.at.After-draws c).In-loop-k) c.draws.ensures

pub returns-then-not-draws : goal.returns-then-not-draws
returns-then-not-draws c font page staging store =
    let l = c.loop-k in
    sym (plotted_out _ c.args.p.style c.stride-each.ensures c.width-w.ensures
    (l.invariant.runs font page staging store) l.invariant.plotting
    l.invariant.style (inside (goal.at.returns-then-not-draws c).In-loop-k) (drawn (goal.at.returns-then-not-draws c).After-draws)
    c.if-not-draws.true)

pub returns : goal.returns
returns c font page staging store =
    let l = c.loop-k in
    let over = over_part _ c.args.piece.now c.requires.3 c.loop-k-test.false in
    let whole : c.args.n ≡ l.k = omega (arith, l.invariant.taken.within, over) in
    rw whole (sym (runs_over (l.invariant.runs font page staging store) c.args.p.job l.invariant.taken.counted (omega (arith, over, c.requires.3))))

-- the byte is a column, and it fits the line
column : (c : Else-not-draws) → (plots (get_or c.args.piece.now c.loop-k.k 0) ≡ true)
    × (c.loop-k.q.head.column + c.stride-each.result ≤ c.width-w.result)
column c = drawing _ _ _ (drawn (goal.at.Else-not-draws c).After-draws) (ap not c.if-not-draws.false)

place : (c : Else-not-draws) → let size = (edition_of c.args.p).columns in
    let at = c.loop-k.q.head.column in (at < size) × (at + c.stride-each.result ≤ size)
place c =
    on_line _ c.args.p.style c.stride-each.ensures c.width-w.ensures
    (described_proper c.args.p.model)
    (column c).1

pub or_in-requires : goal.or_in-requires
or_in-requires c = omega (arith, (place (goal.at.or_in-requires c).Else-not-draws).0, c.loop-k.invariant.kept, c.requires.2)

pub loop-k-preserved : goal.loop-k-preserved
loop-k-preserved c =
    let l = c.loop-k in
    let i = (goal.at.loop-k-preserved c).In-loop-k in
    record {
      plotting = plots_still _ l.invariant.plotting;
      style = l.invariant.style;
      column = (place (goal.at.loop-k-preserved c).Else-not-draws).1;
      taken = one_more l.invariant.taken (another i);
      kept = c.or_in.auto.line ∙ l.invariant.kept;
      runs = λ font page staging store. plotted_on _ c.args.p.style c.stride-each.ensures c.width-w.ensures
          (l.invariant.runs font page staging store) l.invariant.plotting l.invariant.style (inside i) (room i)
          (column (goal.at.loop-k-preserved c).Else-not-draws)
          (c.from.ensures ∙ at_k i) c.or_in.ensures;
    }
