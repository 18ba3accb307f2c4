-- Words written.
use Prim.Native.Nat.{ℕ, ◌+◌, ◌≤◌}
use mathlib.Core.Bool.{Bool, true, false}
use mathlib.Core.List.{List, [], ◌∷◌, ◌++◌, append-nil}
use mathlib.Core.Path.{◌≡◌, refl, ap, sym, ◌∙◌}
use Rattle.std.proofs.Math.Nat.{zero-mul}
use native.Mathlib.Omega.{arith}
use lib.ListN.{drop, drop_of_length-le, get_or, length, set, take}
use Rattle.std.proofs.Common.{replicate}
use lib.Seq.{sets, sets-eq}
use Rattle.sheet.specs.declared.Model.{Model}
use Rattle.sheet.specs.Form.{first_row, new_form, top_row}
use Rattle.printer.specs.declared.Pending.{Pending}
use Rattle.printer.specs.Machine.{new_printer}
use Rattle.printer.specs.Tabs.{no_tabs}
use Rattle.words.specs.Words.{model_word, pending_words, pitch_word, state_size, state_words, truth}
use Rattle.words.proofs.Kept.{six_words}
use Rattle.words.proofs.Reading.{read, spelled}
use Rattle.std.specs.Int.{from_bool}

-- to the last word: those before stay
pub written_behind : (ys l : List ℕ) (n : ℕ) → length l ≡ n + length ys → sets l n ys ≡ take n l ++ ys
written_behind ys l n h =
    let all : length l ≤ n + length ys = omega arith in
    let past : drop (n + length ys) l ≡ [] = drop_of_length-le l all in
    sets-eq ys l n (omega arith) ∙ ap (λ (r : List ℕ). take n l ++ ys ++ r) past ∙ append-nil (take n l ++ ys)

-- a truth as code makes it a number
pub truth_byte : (b : Bool) → from_bool b ≡ truth b
unfolding truth
truth_byte true = refl
truth_byte false = refl

-- the words of what is pending, one by one
pub pending_spelled : (q : Pending)
    → get_or (pending_words q) 0 0
    ∷ get_or (pending_words q) 1 0
    ∷ get_or (pending_words q) 2 0
    ∷ get_or (pending_words q) 3 0
    ∷ get_or (pending_words q) 4 0
    ∷ get_or (pending_words q) 5 0
    ∷ []
    ≡ pending_words q
unfolding read
pending_spelled q = sym (spelled 6 0 (pending_words q) (six_words q))

-- the words of a job just opened, written where they are not 0
pub new_words : (w : Model) (lines spacing : ℕ)
    → set (set (set (set (set (set (replicate state_size 0) 0 (model_word w)) 1 lines) 2 spacing) 3 1) 4 lines) 8 1
    ≡ state_words (new_printer w (new_form lines spacing))
unfolding state_words truth pitch_word pending_words top_row first_row no_tabs
new_words w lines spacing = simp zero-mul
