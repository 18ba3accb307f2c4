-- `positions::eighty_positions`: positions with no wire leave the page as it is; else each turn strikes the sixteen that are next, and those left make of
-- the page what all eighty make of it at entry.
use Prim.Native.Nat.{ℕ, ◌+◌, ◌-◌, ◌≤◌}
use mathlib.Core.Path.{◌≡◌, sym, ap, ◌∙◌}
use native.Mathlib.Omega.{arith}
use lib.ListN.{length, take, drop}
use Rattle.striking.specs.Groups.{any_wires}
use Rattle.sheet.specs.Edition.{dg6215}
use Rattle.striking.proofs.Grouping.{none_set}
use Rattle.striking.proofs.Striking.{eighty_on_line, sixteen_more, eighty_struck}
use Rattle.striking.proofs.positions.eighty_positions.Goals as goal
use Rattle.striking.proofs.positions.eighty_positions.Goals.{Start}

inside : (s : Start) → s.args.c + 80 ≤ length s.args.line.now
inside s = eighty_on_line s.args.line.now s.args.pitch s.args.c s.requires.c_value.0 s.requires.c_value.1 s.requires.room.full

pub returns-then-any_wires-eq0 : goal.returns-then-any_wires-eq0
returns-then-any_wires-eq0 c =
    let a = c.args in
    let eighty : a.c + 80 - a.c ≡ 80 = omega arith in
    let none : any_wires (take (a.c + 80 - a.c) (drop a.c a.line.now)) ≡ 0 = sym c.any_wires.ensures ∙ c.if-any_wires-eq0.true in
    none_set dg6215 _ _ _ _ _ (ap (λ (n : ℕ). any_wires (take n (drop a.c a.line.now))) (sym eighty) ∙ none)

-- the sixteen are on the line, and the nine rows on the page
pub sixteen_positions-requires : goal.sixteen_positions-requires
unfolding dg6215
sixteen_positions-requires c =
    let s = (goal.at.sixteen_positions-requires c).Start in
    let l = c.loop-k in
    let room = s.requires.room in
    record {
      room = record { rows = omega (arith, room.rows, l.invariant.left.kept); full = room.full };
      c_value =
          (omega (arith, s.requires.c_value.0, l.invariant.whole), omega (arith, inside s, room.full, l));
    }

pub overflow_add-c : goal.overflow_add-c
unfolding dg6215
overflow_add-c c = let s = (goal.at.overflow_add-c c).Start in omega (arith, inside s, s.requires.room.full)

pub loop-k-preserved : goal.loop-k-preserved
loop-k-preserved c =
    let l = c.loop-k in
    sixteen_more _ _ _ _ _ (inside (goal.at.loop-k-preserved c).Start) _ _ l.k l.invariant (omega arith) c.sixteen_positions.ensures

pub returns : goal.returns
returns c = eighty_struck _ _ _ _ _ (inside (goal.at.returns c).Start) _ c.loop-k.k c.loop-k.invariant (omega arith)

pub offset_bounds-line-c : goal.offset_bounds-line-c
unfolding dg6215
offset_bounds-line-c c = let s = (goal.at.offset_bounds-line-c c).Start in omega (arith, inside s, s.requires.room.full)

pub slice_bounds-any_wires-end : goal.slice_bounds-any_wires-end
slice_bounds-any_wires-end c = inside (goal.at.slice_bounds-any_wires-end c).Start
