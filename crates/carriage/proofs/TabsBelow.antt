-- The tabs of a state down to a last line, looked through from a line on: found there, passed by, or at their end.
use Prim.Native.Nat.{ℕ, ◌+◌, ◌≤◌, ◌<◌}
use mathlib.Core.Bool.{Bool, false, true}
use mathlib.Core.Path.{◌≡◌, sym, ◌∙◌}
use native.Mathlib.Omega.{arith}
use lib.ListN.{drop, get_or, length, take}
use lib.Seq.{get_or-take, length-take-le}
use Rattle.sheet.specs.declared.Line.{Line}
use Rattle.sheet.specs.Form.{line}
use Rattle.std.specs.Prelude.{None, Option, Some}
use Rattle.printer.specs.declared.TabSet.{TabSet}
use Rattle.printer.specs.Room.{Kept}
use Rattle.printer.specs.Tabs.{line_tabs}
use Rattle.printer.specs.Terminators.{first_tab}
use Rattle.printer.proofs.TabBits.{length_tabs}
use Rattle.printer.proofs.TabTurns.{first_tab_end, first_tab_turn}

-- the first tab below the first i lines, down to a last one
abbrev pub tab_below : TabSet → ℕ → ℕ → Option Line
tab_below tabs last i = first_tab (line (i + 1)) (drop i (take last (line_tabs tabs)))

module _ (tabs : TabSet) (last : ℕ) (most : last ≤ 128) where
  -- as many tabs as lines down to the last
  as_many : length (take last (line_tabs tabs)) ≡ last
  as_many = length-take-le last (line_tabs tabs) (simp (length_tabs tabs) most)

  module _ (i : ℕ) where
    module _ {t : Bool} (told : t ≡ get_or (line_tabs tabs) i false) (inside : i < last) where
      here : get_or (take last (line_tabs tabs)) i false ≡ t
      here = get_or-take last (line_tabs tabs) i false inside ∙ sym told

      turn : i < length (take last (line_tabs tabs))
      turn = omega (arith, as_many)

      -- found at line i + 1, which the state has a place for
      pub found : {n : Line} {first : Option Line} → n ≡ line (i + 1) → first ≡ tab_below tabs last i → t ≡ true
          → (Some n ≡ first) × Kept (Some n)
      found at all h = rw (at, all) (sym (first_tab_turn i (take last (line_tabs tabs)) turn ∙ simp (here, h)), (omega arith, omega arith))

      pub passed_by : t ≡ false → tab_below tabs last i ≡ tab_below tabs last (i + 1)
      passed_by h = first_tab_turn i (take last (line_tabs tabs)) turn ∙ simp (here, h)

    pub none_below : last ≤ i → tab_below tabs last i ≡ None
    none_below h = first_tab_end i (take last (line_tabs tabs)) (omega (arith, as_many))
