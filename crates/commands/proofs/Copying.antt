-- Bytes copied into a list: a turn of the loop that copies to its front, and the front of a part of it.
use Rattle.std.proofs.Common.{◌≡◌, ℕ, suc, ◌+◌, ◌-◌, ◌<◌, ◌≤◌, List, ◌++◌, length, get_or, take, drop}
use Rattle.std.proofs.Common.{set, sym, ap, ◌∙◌, append-nil, add-one, arith}
use Rattle.std.proofs.Common.{length-drop, drop_of_length-le, length-take-le, take_all, drop-cons, take-suc, drop-drop}
use lib.Seq.{append_snoc, set_at}
use Rattle.printer.specs.Downloads.{replaced}

-- one byte more is copied to the front
pub copy_more : (to from : List ℕ) (i : ℕ) → i < length to → i < length from
    → set (take i from ++ drop i to) i (get_or from i 0) ≡ take (i + 1) from ++ drop (i + 1) to
copy_more to from i ht hf =
    let le : i ≤ length from = omega arith in
    ap (λ (r : List ℕ). set (take i from ++ r) i (get_or from i 0)) (drop-cons to i 0 ht)
    ∙ set_at (take i from) (get_or to i 0) (drop (suc i) to) (get_or from i 0) i (length-take-le i from le)
    ∙ sym (append_snoc (take i from) (get_or from i 0) (drop (suc i) to))
    ∙ ap (λ (r : List ℕ). r ++ drop (suc i) to) (sym (take-suc from i 0 hf))
    ∙ simp add-one

-- what was copied to the front of the part of a store from `at` on, said of the whole store
pub part_copied : (at n : ℕ) (to from last : List ℕ) → last ≡ take n from ++ drop n (take (length to - at) (drop at to))
    → take at to ++ (last ++ drop (length to - at) (drop at to)) ≡ replaced at n from to
unfolding replaced
part_copied at n to from last e =
    let whole : length (drop at to) ≤ length to - at = simp length-drop (omega arith) in
    simp (e, take_all (length to - at) (drop at to) whole, drop_of_length-le (drop at to) whole, append-nil, drop-drop)
