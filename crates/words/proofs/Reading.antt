-- Words read.
use Prim.Native.Nat.{ℕ, zero, suc, ◌+◌, ◌≤◌}
use mathlib.Core.List.{List, [], ◌∷◌}
use mathlib.Core.Path.{◌≡◌, ap, ◌∙◌}
use native.Mathlib.Omega.{arith}
use lib.ListN.{drop, drop_of_length-le, get_or, length}
use lib.Seq.{drop-cons}
use Rattle.printer.specs.declared.Pending.{Pending}
use Rattle.printer.specs.declared.Printer.{Printer}
use Rattle.words.specs.Words.{pending_read, state_of, state_with}

-- n words from word k on, read one by one
unfoldable pub read : ℕ → ℕ → List ℕ → List ℕ
read zero k ws = []
read (suc n) k ws = get_or ws k 0 ∷ read n (suc k) ws

pub spelled : (n k : ℕ) (ws : List ℕ) → length ws ≡ k + n → drop k ws ≡ read n k ws
unfolding read
spelled zero k ws l = let all : length ws ≤ k = omega arith in drop_of_length-le ws all
spelled (suc n) k ws l = drop-cons ws k 0 (omega arith) ∙ ap (λ (rest : List ℕ). get_or ws k 0 ∷ rest) (spelled n (suc k) ws (omega arith))

-- what is pending and the rest with it are the whole
pub read_whole : (ws : List ℕ) {pending : Pending} {p : Printer} → pending ≡ pending_read ws → p ≡ state_with ws pending → p ≡ state_of ws
unfolding state_of
read_whole ws q e = e ∙ ap (state_with ws) q
