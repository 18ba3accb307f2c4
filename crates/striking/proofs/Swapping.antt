-- Two bytes of a number, lowest first, joined to two of a page that are read and stored as one number.
use Prim.Native.Nat.{ℕ, ◌+◌, ◌*◌, ◌/◌, ◌%◌, ◌<◌}
use mathlib.Core.Path.{◌≡◌, sym, ap, ap₂, ◌∙◌}
use mathlib.Core.List.{List}
use native.Mathlib.Omega.{arith}
use native.Mathlib.Nat.{add-zero, mod-lt}
use lib.Pow.{field, low, mod-mod-pow}
use lib.Bits.{bit_or, or_mod, or_shr}
use lib.ListN.{get_or, set}
use lib.Seq.{get_or-set_other}
use Rattle.striking.specs.Groups.{join_byte, join, swapped}

-- two bytes of a page, read as one number, to which two of another are joined, and stored: these two are joined, the lowest first
pub two_low : (page : List ℕ) (i dots : ℕ) → get_or page i 0 < 256 → let new = bit_or (get_or page i 0 + get_or page (i + 1) 0 * 256) (dots % 65536) in
    set (set page i (new % 256)) (i + 1) (new / 256) ≡ join page i 2 (swapped 2 dots 0)
unfolding join join_byte swapped
two_low page i dots small =
    let x : ℕ = get_or page i 0 in
    let y : ℕ = get_or page (i + 1) 0 in
    let both : ℕ = (0 * 256 + dots % 256) * 256 + dots / 256 % 256 in
    let new : ℕ = bit_or (x + y * 256) (dots % 65536) in
    let once : List ℕ = set page i (bit_or x (both / 256 % 256)) in
    let old_low : (x + y * 256) % 256 ≡ x = omega arith in
    let old_high : (x + y * 256) / 256 ≡ y = omega arith in
    let first : dots % 256 ≡ both / 256 % 256 = omega arith in
    let dots_low : dots % 65536 % 256 ≡ both / 256 % 256 = mod-mod-pow dots 8 8 ∙ first in
    let dots_high : dots % 65536 / 256 ≡ both % 256 = field dots 8 8 ∙ sym (low (0 * 256 + dots % 256) 8 (mod-lt (dots / 256) (omega arith))) in
    let new_low : new % 256 ≡ bit_or x (both / 256 % 256) = or_mod (x + y * 256) (dots % 65536) 8 ∙ ap₂ bit_or old_low dots_low in
    let new_high : new / 256 ≡ bit_or y (both % 256) = or_shr (x + y * 256) (dots % 65536) 8 ∙ ap₂ bit_or old_high dots_high in
    let other : y ≡ get_or once (i + 1) 0 = sym (get_or-set_other page i (i + 1) (bit_or x (both / 256 % 256)) 0 (λ e. omega arith)) in
    ap₂ (λ (v w : ℕ). set (set page i v) (i + 1) w) new_low (new_high ∙ ap (λ (v : ℕ). bit_or v (both % 256)) other)
    ∙ ap (λ (k : ℕ). join_byte (join_byte page k (both / 256)) (i + 1) both) (sym (add-zero i))
