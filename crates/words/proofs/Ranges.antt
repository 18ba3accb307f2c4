-- The ranges of a state's words.
use Rattle.std.proofs.lemmas.Bool.Decides.{leb_tells}
use Rattle.std.proofs.lemmas.Grind.{common_steps}
use Rattle.std.proofs.lemmas.List.Elements.{All-cons, All-get_or, All-head, All-tail}
use Rattle.std.proofs.lemmas.List.{get_or-take, get_or-drop}
use Rattle.std.specs.Bool.{IsTrue}
use Rattle.std.specs.Cmp.{both_ways}
use Rattle.std.specs.List.{All}
use Rattle.std.specs.Prelude.{◌↔◌, ◌≢◌}
use Prim.Native.Nat.{ℕ, ◌+◌, ◌≤◌, ◌<◌}
use mathlib.Core.Bool.{Bool, true, false, ◌&&◌, cond, and-eq-true_iff, and-true}
use mathlib.Core.List.{List, [], ◌∷◌}
use mathlib.Core.Path.{◌≡◌, refl, subst, ◌∙◌}
use native.Mathlib.Omega.{arith}
use borrow.Author.Tests.{eqb-true, le-leb, leb-true, ne_eqb}
use lib.Dec.{eqb, leb}
use lib.ListN.{drop, get_or, length}
use lib.Seq.{drop-cons}
use Rattle.words.specs.Words.{at_most, in_range, in_range_before, is_state, number_limit, part, state_size}

-- a part of one word
one_word : (m k : ℕ) (ws : List ℕ) → k < length ws → at_most m (part k 1 ws) ≡ leb (get_or ws k 0) m
unfolding at_most
one_word m k ws h = simp (drop-cons ws k 0 h, and-true)

-- what the code tests: a part of one word by itself
pub before_tests : (ws : List ℕ) → length ws ≡ state_size
    → in_range_before ws ≡ (leb (get_or ws 0 0) 1 && leb (get_or ws 5 0) 4294967295 && at_most 1 (part 8 7 ws))
unfolding in_range_before
before_tests ws l = simp (one_word 1 0 ws (omega arith), one_word 4294967295 5 ws (omega arith))

pub range_tests : (ws : List ℕ) → length ws ≡ state_size
    → in_range ws
    ≡ (in_range_before ws && leb (get_or ws 17 0) 11 && leb (get_or ws 18 0) 4294967295 && leb (get_or ws 19 0) 255
    && at_most (number_limit (get_or ws 17 0)) (part 20 3 ws))
unfolding in_range
range_tests ws l = simp (one_word 11 17 ws (omega arith), one_word 4294967295 18 ws (omega arith), one_word 255 19 ws (omega arith))

-- none is above m where each is at most m
each_at_most : (m : ℕ) (ws : List ℕ) → at_most m ws ≡ true → All (λ w. w ≤ m) ws
unfolding at_most
each_at_most m [] q = grind (arith, common_steps)
each_at_most m (w ∷ ws) q =
    let both = (and-eq-true_iff (leb w m) (at_most m ws)).0 q in
    All-cons (λ w. w ≤ m) w ws (leb-true _ _ both.0) (each_at_most m ws both.1)

at_most_each : (m : ℕ) (ws : List ℕ) → All (λ w. w ≤ m) ws → at_most m ws ≡ true
unfolding at_most
at_most_each m [] q = refl
at_most_each m (w ∷ ws) q =
    simp (le-leb w m (All-head (λ w. w ≤ m) w ws q), at_most_each m ws (All-tail (λ w. w ≤ m) w ws q))

pub told_at_most : (m : ℕ) (ws : List ℕ) (b : Bool) → (IsTrue b ↔ All (λ w. w ≤ m) ws) → b ≡ at_most m ws
told_at_most m ws b h = both_ways b (at_most m ws) (λ q. at_most_each m ws (h.0 q)) (λ q. h.1 (each_at_most m ws q))

-- each word of a part that is in range
pub within : (m k n : ℕ) (ws : List ℕ) → k + n ≤ length ws → at_most m (part k n ws) ≡ true → (i : ℕ) → i < n → get_or ws (k + i) 0 ≤ m
within m k n ws l q i h =
    let inside : i < length (part k n ws) = grind (arith, common_steps) in
    let word : get_or (part k n ws) i 0 ≡ get_or ws (k + i) 0 = get_or-take n (drop k ws) i 0 h ∙ get_or-drop k ws i 0 in
    subst (λ (w : ℕ). w ≤ m) word (All-get_or (λ w. w ≤ m) (part k n ws) i 0 inside (each_at_most m (part k n ws) q))

-- what a state's words are known to be
pub record InRange (ws : List ℕ) : Type 0 where
  pub job : get_or ws 5 0 ≤ 4294967295
  pub place : get_or ws 18 0 ≤ 4294967295
  pub byte : get_or ws 19 0 ≤ 255
  pub count : get_or ws 20 0 ≤ number_limit (get_or ws 17 0)
  pub address : get_or ws 21 0 ≤ number_limit (get_or ws 17 0)
  pub taken : get_or ws 22 0 ≤ number_limit (get_or ws 17 0)

-- the two halves of a state: it has as many words as a state has, and they are in range
pub state_halves : (ws : List ℕ) → is_state ws ≡ true → (length ws ≡ state_size) × (in_range ws ≡ true)
unfolding is_state
state_halves ws q =
    let h = (and-eq-true_iff (eqb (length ws) state_size) (in_range ws)).0 q in
    (eqb-true _ _ h.0, h.1)

-- the numbers of ESC [ are the widest
pub limit_any : (kind : ℕ) → number_limit kind ≤ 65536
unfolding number_limit
limit_any kind = either (eqb kind 11) where
  either : (b : Bool) → cond b 65536 65535 ≤ 65536
  either true = omega arith
  either false = omega arith

pub limit_narrow : (kind : ℕ) → kind ≢ 11 → number_limit kind ≡ 65535
unfolding number_limit
limit_narrow kind h = simp (ne_eqb kind 11 h)

pub ranges : (ws : List ℕ) → length ws ≡ state_size → in_range ws ≡ true → InRange ws
ranges ws l r =
    let tests = range_tests ws l in
    let before = before_tests ws l in
    let numbers = within (number_limit (get_or ws 17 0)) 20 3 ws (omega arith) (grind (arith, tests)) in
    record {
      job = grind (arith, tests, before, leb_tells);
      place = grind (arith, tests, leb_tells);
      byte = grind (arith, tests, leb_tells);
      count = numbers 0 (omega arith);
      address = numbers 1 (omega arith);
      taken = numbers 2 (omega arith);
    }
