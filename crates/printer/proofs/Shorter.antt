-- The bytes after the first command are no more than those after its first byte.
use Prim.Native.Nat.{ℕ, ◌+◌, ◌*◌, ◌≤◌}
use mathlib.Core.Bool.{Bool, ◌&&◌, cond, false, true}
use mathlib.Core.List.{List, [], ◌∷◌}
use native.Mathlib.Omega.{arith}
use lib.Dec.{eqb}
use lib.ListN.{drop, length, length-drop}
use Rattle.sheet.specs.Edition.{Edition}
use Rattle.printer.specs.Commands.{Cut, Items, cut, cut_checksum, cut_download, cut_escape, cut_reset, cut_select, cut_tabs, unended, items}
use Rattle.printer.specs.Commands.{Text, cut_bracket, ending, endless, listed, text, unfinished, whole}
use Rattle.printer.proofs.BracketTexts.{Spanned, text_spanned}
use Rattle.printer.proofs.TabLists.{Counted, items_counted}

-- what follows the first command is at most n bytes
abbrev pub Short : ℕ → Cut → Type 0
Short n (whole c rest) = length rest ≤ n
Short n unfinished = Unit {0}

short_cond : (n : ℕ) (t : Bool) (c d : Cut) → Short n c → Short n d → Short n (cond t c d)
short_cond n true c d h k = h
short_cond n false c d h k = k

module _ (n : ℕ) where
  short_tabs : (bs : List ℕ) (i : Items) → Counted bs i → length bs ≤ n → Short n (cut_tabs i)
  unfolding cut_tabs
  short_tabs bs (listed ns rest) h l = omega arith
  short_tabs bs unended h l = tt

  short_reset : (bs : List ℕ) → length bs ≤ n → Short n (cut_reset bs)
  unfolding cut_reset
  short_reset [] h = tt
  short_reset (b ∷ bs) h = omega arith

  short_select : (bs : List ℕ) → length bs ≤ n → Short n (cut_select bs)
  unfolding cut_select
  short_select [] h = tt
  short_select (b ∷ []) h = tt
  short_select (b ∷ c ∷ bs) h = omega arith

  short_checksum : (count address : ℕ) (payload rest : List ℕ) → length rest ≤ n → Short n (cut_checksum count address payload rest)
  unfolding cut_checksum
  short_checksum count address payload [] h = tt
  short_checksum count address payload (c ∷ rest) h = omega arith

  short_download : (bs : List ℕ) → length bs ≤ n → Short n (cut_download bs)
  unfolding cut_download
  short_download [] h = tt
  short_download (a ∷ []) h = tt
  short_download (a ∷ b ∷ []) h = tt
  short_download (a ∷ b ∷ c ∷ []) h = tt
  short_download (a ∷ b ∷ c ∷ d ∷ bs) h = short_checksum (a * 256 + b) (c * 256 + d) _ (drop (a * 256 + b) bs) (simp length-drop (omega arith))

  short_bracket : (bs : List ℕ) (t : Text) → Spanned bs t → length bs ≤ n → Short n (cut_bracket t)
  unfolding cut_bracket
  short_bracket bs (ending ts last rest) h l = omega arith
  short_bracket bs endless h l = tt

  short_escape : (e : Edition) (plotting : Bool) (bs : List ℕ) → length bs ≤ n → Short n (cut_escape e plotting bs)
  unfolding cut_escape
  short_escape e plotting [] h = tt
  short_escape e true (b ∷ bs) h = omega arith
  short_escape e false (b ∷ bs) h =
      let l : length bs ≤ n = omega arith in
      short_cond n (eqb b 0x46) _ _ (short_tabs bs (items bs) (items_counted bs) l)
      (short_cond n (eqb b 0x63) _ _ (short_reset bs l)
      (short_cond n (eqb b 0x59) _ _ (short_download bs l)
      (short_cond n (eqb b 0x4e) _ _ (short_select bs l)
      (short_cond n (eqb b 0x5b && e.brackets) _ _ (short_bracket bs (text bs) (text_spanned bs) l) l))))

pub short_cut : (e : Edition) (plotting : Bool) (b : ℕ) (bs : List ℕ) → Short (length bs) (cut e plotting b bs)
unfolding cut
short_cut e plotting b bs = short_cond (length bs) (eqb b 0x1b) _ _ (short_escape (length bs) e plotting bs (omega arith)) (omega arith)
