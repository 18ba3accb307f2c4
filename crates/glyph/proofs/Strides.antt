-- Where the columns of a cell stand: one after another, a stride apart.
use Prim.Native.Nat.{ℕ, suc, ◌+◌, ◌*◌, ◌≤◌, ◌<◌}
use mathlib.Core.Logic.{◌≢◌}
use native.Mathlib.Decide.{dec_lt}
use native.Mathlib.Nat.{mul-le-mul_left}
use native.Mathlib.Omega.{arith}

-- a later column stands a stride or more further on
pub later : (stride : ℕ) {j k : ℕ} → j < k → stride * j + stride ≤ stride * k
later stride {j} {k} h =
    let next : stride * suc j ≤ stride * k = mul-le-mul_left stride h in
    omega arith

-- two columns stand at two positions
pub distinct : (stride : ℕ) → 1 ≤ stride → (at j k : ℕ) → j ≢ k → at + stride * j ≢ at + stride * k
distinct stride some at j k ne same = go (dec_lt j k) (dec_lt k j)
  where
    go : Dec (j < k) → Dec (k < j) → ⊥
    go (yes h) h' = omega (arith, later stride h)
    go (no h) (yes h') = omega (arith, later stride h')
    go (no h) (no h') = ne (omega arith)
