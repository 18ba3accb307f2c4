-- Tests tried from the first to the last: all of them pass exactly where each passes.
use Prim.Native.Nat.{ℕ, zero, suc, ◌+◌, ◌≤◌, ◌<◌}
use mathlib.Core.Bool.{Bool, true, false, and-eq-true_iff, true≢false}
use mathlib.Core.Logic.{⊎_elim, ◌↔◌}
use mathlib.Core.Path.{◌≡◌, refl, sym, ap, ◌∙◌}
use native.Mathlib.Nat.{eq-or-lt_of_le}
use native.Mathlib.Omega.{arith}
use Rattle.glyph.specs.Words.{each}

module _ (test : ℕ → Bool) where
  -- the test passes for every number below k
  abbrev pub Passed : ℕ → Type 0
  Passed k = (j : ℕ) → j < k → test j ≡ true

  -- where tests pass together, each passes
  each_passes : (k m : ℕ) → each k m test ≡ true → (j : ℕ) → k ≤ j → j < k + m → test j ≡ true
  unfolding each
  each_passes k zero h j from below = absurd (omega arith)
  each_passes k (suc m) h j from below =
      let parts = (and-eq-true_iff (test k) (each (suc k) m test)).0 h in
      ⊎_elim (λ e. ap test (sym e) ∙ parts.0) (λ past. each_passes (suc k) m parts.1 j past (omega arith)) (eq-or-lt_of_le from)

  -- where each passes, they pass together
  passes_each : (k m : ℕ) → ((j : ℕ) → k ≤ j → j < k + m → test j ≡ true) → each k m test ≡ true
  unfolding each
  passes_each k zero h = refl
  passes_each k (suc m) h =
      simp (h k (omega arith) (omega arith), passes_each (suc k) m (λ j from below. h j (omega arith) (omega arith)))

  -- the first n pass together exactly where each of them passes
  pub all_passed : (n : ℕ) → (each 0 n test ≡ true) ↔ Passed n
  all_passed n =
      (λ h j below. each_passes 0 n h j (omega arith) (omega arith), λ passed. passes_each 0 n (λ j from below. passed j (omega arith)))

  -- where the first k pass, and n is at most k, the first n pass together
  pub none_fails : {n k : ℕ} → n ≤ k → Passed k → true ≡ each 0 n test
  none_fails {n} end passed = sym ((all_passed n).1 (λ j below. passed j (omega arith)))

  -- where one of the first n fails, they fail together
  pub one_fails : {n k : ℕ} → k < n → test k ≡ false → false ≡ each 0 n test
  one_fails {n} {k} below fails = go (each 0 n test) refl
    where
      go : (all : Bool) → all ≡ each 0 n test → false ≡ each 0 n test
      go true e = absurd (true≢false (sym ((all_passed n).0 (sym e) k below) ∙ fails))
      go false e = e
