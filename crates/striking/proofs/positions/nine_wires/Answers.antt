-- `positions::nine_wires`: each call joins the two bytes of the next wire, a row below the one before; nine wires joined are the columns struck.
use Prim.Native.Nat.{ℕ, ◌+◌}
use mathlib.Core.Path.{◌≡◌, refl, ap, ap₂, ◌∙◌}
use mathlib.Core.List.{List}
use lib.ListN.{take, drop}
use Rattle.sheet.specs.declared.Pitch.{Pitch}
use Rattle.sheet.specs.Edition.{dg6215}
use Rattle.striking.specs.Groups.{swapped}
use Rattle.striking.specs.Turning.{made, topmost, fours}
use Rattle.striking.proofs.Turning.{wire_number, wires_strike}
use Rattle.striking.proofs.Wires.{row_at, wired, next_wired, eight_wired, nine_wired}
use Rattle.striking.proofs.positions.nine_wires.Goals as goal
use Rattle.striking.proofs.positions.nine_wires.Goals.{After-join_two-8, After-join_two-9, Start}

-- the bytes of each wire, the first highest
abbrev pairs : ℕ → ℕ → ℕ → ℕ → ℕ
pairs top upper lower k = swapped 2 (wire_number top upper lower k) 0

-- the page at entry with n wires joined
abbrev page-with : Start → ℕ → List ℕ
page-with start n =
    wired dg6215 2 (pairs start.args.top start.args.upper start.args.lower) start.args.at start.args.page.now n

eight-joined : (c : After-join_two-8)
    → c.join_two-8.new.page ≡ page-with
    (goal.at.After-join_two-8 c).Start 8
unfolding dg6215 wire_number
eight-joined c =
    eight_wired dg6215 2 _ _ _ c.join_two.ensures
    c.join_two-2.ensures
    c.join_two-3.ensures
    c.join_two-4.ensures
    c.join_two-5.ensures
    c.join_two-6.ensures
    c.join_two-7.ensures
    c.join_two-8.ensures

nine-joined : (c : After-join_two-9)
    → c.join_two-9.new.page ≡ page-with
    (goal.at.After-join_two-9 c).Start 9
unfolding row_at dg6215 wire_number
nine-joined c = next_wired dg6215 2 _ _ _ 8 (eight-joined (goal.at.After-join_two-9 c).After-join_two-8) c.join_two-9.ensures

-- neighbouring positions are one dot apart
apart : (pitch : Pitch) (k : ℕ) → (dg6215.grid pitch (k + 1)).0 ≡ (dg6215.grid pitch k).0 + 1
unfolding dg6215
apart pitch k = refl

pub returns : goal.returns
returns c line pitch r first inside small top-is upper_is lower-is place =
    let a = c.args in
    let ns = fours line first in
    nine-joined (goal.at.returns c).After-join_two-9
    ∙ ap (λ (t : ℕ). wired dg6215 2 (pairs t a.upper a.lower) a.at a.page.now 9) top-is
    ∙ ap₂ (λ (u l : ℕ). wired dg6215 2 (pairs (made ns topmost) u l) a.at a.page.now 9) upper_is lower-is
    ∙ nine_wired dg6215 2 _ _ _ (take 16 (drop first line)) 1 (wires_strike line first inside small) pitch r first (apart pitch) place
