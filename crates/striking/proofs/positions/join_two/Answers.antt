-- `positions::join_two`: two bytes are a number of sixteen bits, and `or` goes byte by byte.
use Prim.Native.Nat.{ℕ, ◌<◌}
use native.Mathlib.Omega.{arith}
use mathlib.Core.List.{List}
use mir.Val.{Fits}
use mir.Syntax.{w8}
use lib.ListN.{get_or}
use borrow.Author.Rules.{rules}
use Rattle.striking.proofs.Swapping.{two_low}
use Rattle.striking.proofs.positions.join_two.Goals as goal
use Rattle.striking.proofs.positions.join_two.Goals.{Start}

-- each number of the page is a byte
small : (page : List ℕ) → ((i : ℕ) → Fits w8 (get_or page i 0)) → (k : ℕ) → get_or page k 0 < 256
small page bytes k = omega (arith, bytes k)

pub returns : goal.returns
returns c = let a = c.args in two_low a.page.now a.i a.dots (small c.args.page.now (search rules) a.i)
