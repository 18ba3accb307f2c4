-- `groups::fields`: each turn puts the next column below the fields; with those of the columns left below them they are the fields of all eight, and
-- each takes five bits at most.
use Prim.Native.Nat.{ℕ, ◌+◌, ◌*◌, ◌%◌, ◌^◌, ◌<◌, ◌≤◌}
use mathlib.Core.Path.{◌≡◌, ap}
use native.Mathlib.Omega.{arith}
use native.Mathlib.Nat.{mod-lt}
use lib.Pow.{pow_pos}
use lib.ListN.{length}
use Rattle.striking.proofs.Grouping.{field_more, field_last, field_below, fields-small, five_bits, one_moved}
use Rattle.striking.proofs.groups.fields.Goals as goal
use Rattle.striking.proofs.groups.fields.Goals.{After-from}
use Rattle.striking.proofs.groups.fields.Given.{Over}

pub loop-column-preserved : goal.loop-column-preserved
loop-column-preserved g c =
    let l = c.loop-column in
    let base : ℕ = 2 ^ g.row.N in
    let inside : l.column-index < length c.args.columns.now = c.loop-column-test.true in
    rw (one_moved g.row.N c.requires.1) (
      rw c.from.ensures (field_more c.args.columns.now base c.args.skip l.column-index l.f _ inside l.invariant.0),
      field_below l.f base _ l.column-index (five_bits g.row.N c.requires.1) (mod-lt _ (pow_pos g.row.N)) l.invariant.1,
    )

pub returns : goal.returns
returns g c =
    let l = c.loop-column in
    let end : length c.args.columns.now ≤ l.column-index = c.loop-column-test.false in
    field_last c.args.columns.now (2 ^ g.row.N) c.args.skip l.column-index l.f _ end l.invariant.0

-- with one more put below them the fields take forty bits at most
small : (g : Over) (c : After-from g) → let l = c.loop-column in let base : ℕ = 1 * 2 ^ g.row.N % 2 ^ 64 in
    l.f * base + c.from.result % base < 2 ^ 40
small g c =
    let l = c.loop-column in
    rw (one_moved g.row.N c.requires.1)
    (fields-small l.f (2 ^ g.row.N) _ l.column-index (five_bits g.row.N c.requires.1) (mod-lt _ (pow_pos g.row.N)) l.invariant.1
    (omega (arith, c.requires.0, c.loop-column-test)))

pub overflow_mul-f : goal.overflow_mul-f
overflow_mul-f g c =
    let l = c.loop-column in
    let base : ℕ = 2 ^ g.row.N in
    let same : l.f * (1 * base % 2 ^ 64) ≡ l.f * base = ap (λ (n : ℕ). l.f * n) (one_moved g.row.N c.requires.1) in
    let below : l.f * base + 0 < 2 ^ 40 = fields-small l.f base 0 l.column-index (five_bits g.row.N c.requires.1) (pow_pos g.row.N) l.invariant.1
    (omega (arith, c.requires.0, c.loop-column-test)) in
    omega (arith, same, below)

pub overflow_add-f : goal.overflow_add-f
overflow_add-f g c = omega (arith, small g c)
