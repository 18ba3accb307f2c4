-- `groups::ones`: each turn puts a 1 below those before it; each field takes five bits at most.
use Prim.Native.Nat.{ℕ, ◌+◌, ◌*◌, ◌%◌, ◌^◌, ◌<◌, ◌≤◌}
use mathlib.Core.Path.{◌≡◌, refl, sym, ap, ◌∙◌}
use native.Mathlib.Omega.{arith}
use native.Mathlib.Numerals.{add-one}
use lib.Dec.{lit<}
use lib.Pow.{pow_mono}
use Rattle.striking.specs.Groups.{ones}
use Rattle.striking.proofs.Grouping.{field_below, fields-small, five_bits, one_moved}
use Rattle.striking.proofs.groups.ones.Goals as goal
use Rattle.striking.proofs.groups.ones.Goals.{In-loop}
use Rattle.striking.proofs.groups.ones.Given.{Over}

pub loop-init : goal.loop-init
unfolding ones
loop-init g c = (refl, lit< tt)

-- a field holds two numbers at least
some : (n : ℕ) → 1 ≤ n → 1 < 2 ^ n
some n least = omega (arith, pow_mono {i = 1} {j = n} least)

-- with one more they take forty bits at most
small : (g : Over) (c : In-loop g) → c.loop.all * 2 ^ g.row.N + 1 < 2 ^ 40
small g c =
    fields-small c.loop.all (2 ^ g.row.N) 1 c.loop.counter (five_bits g.row.N c.requires.1) (some g.row.N c.requires.0) c.loop.invariant.1
    (omega (arith, c.loop-test))

next : (g : Over) (c : In-loop g) → c.loop.all * (1 * 2 ^ g.row.N % 2 ^ 64) ≡ c.loop.all * 2 ^ g.row.N
next g c = ap (λ (n : ℕ). c.loop.all * n) (one_moved g.row.N c.requires.1)

pub overflow_mul-all : goal.overflow_mul-all
overflow_mul-all g c = omega (arith, next g c, small g c)

pub overflow_add-all : goal.overflow_add-all
overflow_add-all g c = omega (arith, next g c, small g c)

pub loop-preserved : goal.loop-preserved
unfolding ones
loop-preserved g c =
    let l = c.loop in
    rw (one_moved g.row.N c.requires.1) (
      ap (λ (n : ℕ). n * 2 ^ g.row.N + 1) l.invariant.0 ∙ ap (ones (2 ^ g.row.N)) (sym (add-one l.counter)),
      field_below l.all (2 ^ g.row.N) 1 l.counter (five_bits g.row.N c.requires.1) (some g.row.N c.requires.0) l.invariant.1,
    )
