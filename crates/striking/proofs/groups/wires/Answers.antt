-- `groups::wires`: each turn joins the next wire, a row below the one before; nine wires joined are the columns struck.
use Prim.Native.Nat.{ℕ, ◌-◌}
use mathlib.Core.Path.{◌≡◌, refl, sym, ap, ◌∙◌}
use native.Mathlib.Omega.{arith}
use native.Mathlib.Numerals.{add-one}
use Rattle.sheet.specs.Edition.{lp2}
use Rattle.striking.specs.Groups.{join}
use Rattle.striking.proofs.Wires.{row_is, wire_in, wired, next_wired, three_struck}
use Rattle.striking.proofs.groups.wires.Goals as goal

pub loop-row-init : goal.loop-row-init
unfolding wired
loop-row-init g c = refl

pub loop-row-preserved : goal.loop-row-preserved
unfolding lp2
loop-row-preserved g c =
    let a = c.args in
    let l = c.loop-row in
    let dots : ℕ → ℕ = wire_in g.row.N a.held in
    let row : l.page ≡ wired lp2 g.row.N dots a.at a.page.now l.row = l.invariant in
    next_wired lp2 g.row.N dots a.at a.page.now l.row row
    (c.wire.ensures ∙ ap (λ (i : ℕ). join l.page i g.row.N (dots (8 - l.row))) (sym (row_is lp2 a.at l.row)))
    ∙ ap (wired lp2 g.row.N dots a.at a.page.now) (sym (add-one l.row))

pub returns : goal.returns
returns g c pitch columns r first is eight holds place =
    let l = c.loop-row in
    let nine : l.row ≡ 9 = omega arith in
    l.invariant
    ∙ ap (wired lp2 g.row.N (wire_in g.row.N c.args.held) c.args.at c.args.page.now) nine
    ∙ three_struck g.row.N pitch c.args.held columns c.args.page.now r first c.args.at is eight holds place
