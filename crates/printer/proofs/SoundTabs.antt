-- Tabs set, cleared and looked for stay on lines of the form.
use Prim.Native.Nat.{ℕ, ◌+◌, ◌<◌, ◌≤◌, suc, zero}
use mathlib.Core.Bool.{Bool, true, false}
use mathlib.Core.List.{List, [], ◌∷◌}
use mathlib.Core.Path.{◌≡◌, refl, sym, subst}
use native.Mathlib.Omega.{arith}
use borrow.Author.Tests.{eqb-false, eqb-true, ltb-false, ltb-true}
use lib.Dec.{T, eqb, ltb}
use lib.ListN.{get_or, replicate, set, take}
use lib.Seq.{get_or-set_other}
use Rattle.sheet.specs.declared.Line.{Line}
use Rattle.sheet.specs.Form.{next_line}
use Rattle.std.specs.Prelude.{None, Option, Some}
use Rattle.printer.specs.declared.TabSet.{TabSet}
use Rattle.printer.specs.Tabs.{line_tabs, no_tabs, tabs_through, with_tab, word_tabs}
use Rattle.printer.specs.Terminators.{first_tab}
use Rattle.printer.specs.Facts.{SoundTabs}
use Rattle.printer.proofs.TabBits.{past_through, put_tab}

get_or_clear : (n i : ℕ) → get_or (replicate n false) i false ≡ false
get_or_clear zero i = refl
get_or_clear (suc n) zero = refl
get_or_clear (suc n) (suc i) = get_or_clear n i

pub tabs_cleared : (lines : ℕ) → SoundTabs lines (line_tabs no_tabs)
unfolding line_tabs word_tabs no_tabs
tabs_cleared lines = record { inside = λ i t. absurd (subst T (get_or_clear 128 i) t) }

module _ {lines : ℕ} {tabs : List Bool} (h : SoundTabs lines tabs) where
  set_inside : (on : Bool) (k : ℕ) → k < lines → (i : ℕ) (s : Bool) → eqb i k ≡ s → T (get_or (set tabs k on) i false) → i < lines
  set_inside on k l i true q t = omega (arith, eqb-true i k q)
  set_inside on k l i false q t = h.inside i (subst T (get_or-set_other tabs k i on false (eqb-false i k q)) t)

  tab_set : (on : Bool) (k : ℕ) → k < lines → SoundTabs lines (set tabs k on)
  tab_set on k l = record { inside = λ i t. set_inside on k l i (eqb i k) refl t }

pub tab_put : {lines : ℕ} (t : TabSet) → SoundTabs lines (line_tabs t) → (on : Bool) (k : ℕ) → k < lines
    → SoundTabs lines (line_tabs (with_tab on k t))
tab_put {lines} t h on k l = subst (λ (tabs : List Bool). SoundTabs lines tabs) (sym (put_tab on k t)) (tab_set h on k l)

pub tabs_kept : (lines : ℕ) (t : TabSet) → SoundTabs lines (line_tabs (tabs_through lines t))
tabs_kept lines t = record { inside = λ i k. go i k (ltb i lines) refl }
  where
    go : (i : ℕ) → T (get_or (line_tabs (tabs_through lines t)) i false) → (b : Bool) → ltb i lines ≡ b → i < lines
    go i k true q = ltb-true _ _ q
    go i k false q = absurd (subst T (past_through lines t i (ltb-false _ _ q)) k)

-- tabs down to a line stand down to it
pub taken-inside : (n : ℕ) (tabs : List Bool) (i : ℕ) → T (get_or (take n tabs) i false) → i < n
taken-inside zero tabs i t = absurd t
taken-inside (suc n) [] i t = absurd t
taken-inside (suc n) (x ∷ xs) zero t = omega arith
taken-inside (suc n) (x ∷ xs) (suc i) t = omega (arith, taken-inside n xs i t)

-- a stop is a line within the margins
abbrev pub Inside : ℕ → ℕ → Option Line → Type 0
Inside top bottom (Some n) = (top ≤ n.0) × (n.0 ≤ bottom)
Inside top bottom None = Unit {0}

pub first_tab-inside : (top bottom : ℕ) (n : Line) (tabs : List Bool) → top ≤ n.0 → ((i : ℕ) → T (get_or tabs i false) → n.0 + i ≤ bottom)
    → Inside top bottom (first_tab n tabs)
unfolding first_tab
first_tab-inside top bottom n [] l h = tt
first_tab-inside top bottom n (true ∷ ts) l h = (l, omega (arith, h 0 tt))
first_tab-inside top bottom n (false ∷ ts) l h = first_tab-inside top bottom (next_line n) ts (omega arith) (λ i t. omega (arith, h (suc i) t))
