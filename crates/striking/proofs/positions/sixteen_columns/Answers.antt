-- `positions::sixteen_columns`: the numbers are made by the definition's own steps, and what strikes the wires is told so.
use Prim.Native.Nat.{ℕ, ◌*◌}
use mathlib.Core.Path.{◌≡◌, ap, ap₂, ◌∙◌}
use mathlib.Core.List.{List, [], ◌∷◌}
use lib.Bits.{bit_xor}
use Rattle.striking.specs.Turning.{number, made, turn, turned, paired, differing, left, right, two_to_five, six_to_nine, topmost}
use Rattle.striking.proofs.positions.sixteen_columns.Goals as goal
use Rattle.striking.proofs.positions.sixteen_columns.Goals.{After-turned-lower, After-turned-upper, Start}

-- the four numbers in which the columns stand
abbrev fours-of : Start → List ℕ
fours-of s = s.args.first ∷ s.args.second ∷ s.args.third ∷ s.args.fourth ∷ []

-- where the halves differ
abbrev apart : ℕ → ℕ → ℕ
apart x y = made (x ∷ y ∷ []) (differing (number 0) (number 1))

upper_is : (c : After-turned-upper) → c.turned-upper.result ≡ made (fours-of (goal.at.After-turned-upper c).Start) two_to_five
unfolding made turn turned paired differing left right two_to_five
upper_is c =
    c.turned-upper.ensures
    ∙ ap₂ (λ (x y : ℕ). made (bit_xor x (apart x y) ∷ []) (turned (number 0))) c.paired-left.ensures
    c.paired-right.ensures

lower-is : (c : After-turned-lower) → c.turned-lower.result ≡ made (fours-of (goal.at.After-turned-lower c).Start) six_to_nine
unfolding made turn turned paired differing left right six_to_nine
lower-is c =
    c.turned-lower.ensures
    ∙ ap₂ (λ (x y : ℕ). made (bit_xor y (apart x y * 16) ∷ []) (turned (number 0))) c.paired-left.ensures
    c.paired-right.ensures

pub returns : goal.returns
returns c line pitch r first inside small same place =
    c.nine_wires.ensures line pitch r first inside small
    (c.topmost-top.ensures ∙ ap (λ (ns : List ℕ). made ns topmost) same)
    (upper_is (goal.at.returns c).After-turned-upper ∙ ap (λ (ns : List ℕ). made ns two_to_five) same)
    (lower-is (goal.at.returns c).After-turned-lower ∙ ap (λ (ns : List ℕ). made ns six_to_nine) same) place
