-- Eight columns struck at a time: the fields of their wires, the dots of one wire of all of them, and their nine wires row by row.
use Prim.Native.Nat.{ℕ, zero, suc, ◌+◌, ◌-◌, ◌*◌, ◌/◌, ◌%◌, ◌^◌, ◌≤◌, ◌<◌}
use mathlib.Core.Path.{◌≡◌, refl, sym, ap, ap₂, ◌∙◌}
use mathlib.Core.List.{List, [], ◌∷◌, ◌++◌}
use native.Mathlib.Omega.{arith}
use native.Mathlib.Nat.{mul_comm, pow-suc, add-zero, zero-add, add_comm, zero-mul, suc-mul, mul-le-mul_left, mul-le-mul_right, mod-lt, mod-eq_of_lt, one-mul}
use native.Mathlib.Numerals.{add-one}
use lib.Pow.{pow-add, pow_mono, pow_pos, pow-lt, shr-shr, split, high, low, field, mod-mod-pow}
use lib.Bits.{bit_and, bit_or, or_zero_r, or_add_and, and_le_l, and_le_r, and_zero_r, and_block, and_mask}
use lib.ListN.{length, get_or, take, drop, drop_of_length-le, length-drop}
use lib.Seq.{drop-cons, get_or-take, get_or-drop, length-take-le}
use mir.Syntax.{w64}
use mir.Val.{Fits}
use Rattle.sheet.specs.declared.Grid.{Grid}
use Rattle.sheet.specs.declared.Pitch.{Pitch}
use Rattle.sheet.specs.declared.Row.{Row}
use Rattle.sheet.specs.Edition.{Edition}
use Rattle.sheet.specs.Form.{lower}
use Rattle.sheet.specs.Dots.{bit, blacken_all, mark_if, dot_at, wire_marks, column_marks, line_marks}
use Rattle.striking.specs.Groups.{any_wires, fields, ones, wire_dots, join}
use Rattle.sheet.proofs.AnyOrder.{blacken_all_swap}
use Rattle.sheet.proofs.Bits.{bit_lt, or_assoc}
use Rattle.sheet.proofs.Blackening.{blacken_all-append, mark_first}
use Rattle.sheet.proofs.Marks.{no_wires}
use Rattle.striking.proofs.Joining.{bit_marks, bit-marks-moved, bit-marks-last, joined}

-- a bit below bit s does not depend on the bits from s on
pub low_bit : (n k j : ℕ) → bit n k ≡ bit (n % 2 ^ (suc j + k)) k
unfolding bit
low_bit n k j =
    sym (mod-mod-pow (n / 2 ^ k) j 1)
    ∙ ap (λ (m : ℕ). n / 2 ^ k % 2 ^ m % 2) (add-one j)
    ∙ ap (λ (m : ℕ). m % 2) (sym (field n (suc j) k))

-- a bit of a number moved right
pub moved-bit : (n i k : ℕ) → bit (n / 2 ^ i) k ≡ bit n (i + k)
unfolding bit
moved-bit n i k = ap (λ (m : ℕ). m % 2) (shr-shr n i k)

-- a bit of the lowest field is that bit of the column
field_bit : (f x skip s k : ℕ) → k < s → bit (f * 2 ^ s + x / 2 ^ skip % 2 ^ s) k ≡ bit x (skip + k)
field_bit f x skip s k h =
    let j : ℕ = s - suc k in
    let e : s ≡ suc j + k = omega arith in
    let y : ℕ = x / 2 ^ skip in
    low_bit (f * 2 ^ s + y % 2 ^ s) k j
    ∙ ap (λ (m : ℕ). bit ((f * 2 ^ s + y % 2 ^ s) % 2 ^ m) k) (sym e)
    ∙ ap (λ (m : ℕ). bit m k) (low f s (mod-lt y (pow_pos s)))
    ∙ ap (λ (m : ℕ). bit (y % 2 ^ m) k) e
    ∙ sym (low_bit y k j)
    ∙ moved-bit x skip k

-- of a number masked with a 1 in a lowest field of s bits, that field is its lowest bit
mask_field : (n m s : ℕ) → 0 < s → bit_and n (m * 2 ^ s + 1) ≡ bit_and (n / 2 ^ s) m * 2 ^ s + n % 2
mask_field n m s h =
    let one : 1 < 2 ^ s = pow-lt {i = 0} h in
    let e : s ≡ s - 1 + 1 = omega arith in
    ap (λ (k : ℕ). bit_and k (m * 2 ^ s + 1)) (sym (split n s))
    ∙ and_block s (n / 2 ^ s) m (n % 2 ^ s) 1 (mod-lt n (pow_pos s)) one
    ∙ ap (λ (k : ℕ). bit_and (n / 2 ^ s) m * 2 ^ s + k) (and_mask (n % 2 ^ s) 1 ∙ ap (λ (k : ℕ). n % 2 ^ k % 2) e ∙ mod-mod-pow n (s - 1) 1)

-- a bit, read
pub bit_is : (n k : ℕ) → n / 2 ^ k % 2 ≡ bit n k
unfolding bit
bit_is n k = refl

-- the number f with a field below it for each of some columns, in which bit j of the column stands alone
unfoldable lone : ℕ → ℕ → List ℕ → ℕ → ℕ
lone base j [] f = f
lone base j (x ∷ xs) f = lone base j xs (f * base + bit x j)

-- the wires at bit k of the fields, masked, stand alone
fields_lone : (s skip k : ℕ) → k < s → (xs : List ℕ) (n f g : ℕ) → bit_and (f / 2 ^ k) (ones (2 ^ s) n) ≡ g
    → bit_and (fields (2 ^ s) skip xs f / 2 ^ k) (ones (2 ^ s) (n + length xs)) ≡ lone (2 ^ s) (skip + k) xs g
unfolding fields lone ones
fields_lone s skip k h [] n f g e = ap (λ (m : ℕ). bit_and (f / 2 ^ k) (ones (2 ^ s) m)) (add-zero n) ∙ e
fields_lone s skip k h (x ∷ xs) n f g e =
    let next : ℕ = f * 2 ^ s + x / 2 ^ skip % 2 ^ s in
    let over : next / 2 ^ k / 2 ^ s ≡ f / 2 ^ k =
    shr-shr next k s
    ∙ ap (λ (m : ℕ). next / 2 ^ m) (add_comm k s)
    ∙ sym (shr-shr next s k)
    ∙ ap (λ (m : ℕ). m / 2 ^ k) (high f s (mod-lt (x / 2 ^ skip) (pow_pos s))) in
    let here : next / 2 ^ k % 2 ≡ bit x (skip + k) = bit_is next k ∙ field_bit f x skip s k h in
    let one : bit_and (next / 2 ^ k) (ones (2 ^ s) (suc n)) ≡ g * 2 ^ s + bit x (skip + k) =
    mask_field (next / 2 ^ k) (ones (2 ^ s) n) s (omega arith)
    ∙ ap₂ (λ (a b : ℕ). bit_and a (ones (2 ^ s) n) * 2 ^ s + b) over here
    ∙ ap (λ (a : ℕ). a * 2 ^ s + bit x (skip + k)) e in
    let count : n + suc (length xs) ≡ suc n + length xs = omega arith in
    ap (λ (m : ℕ). bit_and (fields (2 ^ s) skip xs next / 2 ^ k) (ones (2 ^ s) m)) count
    ∙ fields_lone s skip k h xs (suc n) next (g * 2 ^ s + bit x (skip + k)) one

-- the dots of the wire at bit j of some columns, the first of which is dot d and each next one s further on
unfoldable pub wire_row : ℕ → List ℕ → ℕ → ℕ → List ℕ
wire_row j [] d s = []
wire_row j (x ∷ xs) d s = mark_if (bit x j) d (wire_row j xs (d + s) s)

-- fields of s bits in which a bit stands alone, moved to the field's highest bit, are the dots of a wire
lone_marks : (z j d : ℕ) (xs : List ℕ) (n f : ℕ)
    → bit_marks d (length xs * suc z + n) (lone (2 ^ suc z) j xs f * 2 ^ z) [] ≡ bit_marks d n (f * 2 ^ z) (wire_row j xs (d + n) (suc z))
unfolding lone wire_row
lone_marks z j d [] n f = ap (λ (m : ℕ). bit_marks d m (f * 2 ^ z) []) (ap (λ (m : ℕ). m + n) (zero-mul (suc z)) ∙ zero-add n)
lone_marks z j d (x ∷ xs) n f =
    let b : ℕ = bit x j in
    let rest : List ℕ = wire_row j xs (d + n + suc z) (suc z) in
    let count : suc (length xs) * suc z + n ≡ length xs * suc z + (n + suc z) = ap (λ (m : ℕ). m + n) (suc-mul (length xs) (suc z)) ∙ omega arith in
    let place : d + (n + suc z) ≡ d + n + suc z = omega arith in
    let dots : n + suc z ≡ z + suc n = omega arith in
    ap (λ (m : ℕ). bit_marks d m (lone (2 ^ suc z) j xs (f * 2 ^ suc z + b) * 2 ^ z) []) count
    ∙ lone_marks z j d xs (n + suc z) (f * 2 ^ suc z + b)
    ∙ ap₂ (λ (m k : ℕ). bit_marks d m ((f * 2 ^ suc z + b) * 2 ^ z) (wire_row j xs k (suc z))) dots place
    ∙ bit-marks-moved d z (suc n) (f * 2 ^ suc z + b) rest
    ∙ bit-marks-last d n f z b rest (bit_lt x j)

-- joining the bytes of a wire's dots strikes that wire of eight columns
pub wire-joined : (page columns : List ℕ) (at z skip k w : ℕ) → length columns ≡ 8 → k < suc z
    → w ≡ fields (2 ^ suc z) skip columns 0
    → join page at (suc z) (wire_dots (2 ^ suc z) w k) ≡ blacken_all page (wire_row (skip + k) columns (at * 8) (suc z))
unfolding wire_dots bit_marks ones
wire-joined page columns at z skip k w eight h e =
    let base : ℕ = 2 ^ suc z in
    let top : base / 2 ≡ 2 ^ z = omega (arith, pow-suc 2 z) in
    let start : bit_and (0 / 2 ^ k) (ones base 0) ≡ 0 = and_zero_r (0 / 2 ^ k) in
    let alone : bit_and (w / 2 ^ k) (ones base 8) ≡ lone base (skip + k) columns 0 =
    ap₂ (λ (v m : ℕ). bit_and (v / 2 ^ k) (ones base m)) e (sym eight ∙ sym (zero-add (length columns)))
    ∙ fields_lone (suc z) skip k h columns 0 0 0 start in
    let count : suc z * 8 ≡ length columns * suc z + 0 =
    mul_comm (suc z) 8 ∙ ap (λ (m : ℕ). m * suc z) (sym eight) ∙ sym (add-zero (length columns * suc z)) in
    ap₂ (λ (v m : ℕ). join page at (suc z) (v * m)) alone top
    ∙ joined page at (suc z) (lone base (skip + k) columns 0 * 2 ^ z)
    ∙ ap (λ (m : ℕ). blacken_all page (bit_marks (at * 8) m (lone base (skip + k) columns 0 * 2 ^ z) [])) count
    ∙ ap (blacken_all page) (lone_marks z (skip + k) (at * 8) columns 0 0)
    ∙ ap (λ (m : ℕ). blacken_all page (wire_row (skip + k) columns m (suc z))) (add-zero (at * 8))

-- the dots of the n lowest wires of some columns, row by row
unfoldable pub rows : Edition → ℕ → List ℕ → ℕ → ℕ → List ℕ
rows e zero columns d s = []
rows e (suc n) columns d s = wire_row n columns d s ++ rows e n columns (d + e.bytes * 8) s

module _ (e : Edition) where
  -- no columns have no dots
  rows_none : (n d s : ℕ) → rows e n [] d s ≡ []
  unfolding rows wire_row
  rows_none zero d s = refl
  rows_none (suc n) d s = rows_none n (d + e.bytes * 8) s

  -- the dot a row lower
  dot_lower : (r : Row) (g : Grid) → dot_at e (lower 1 r) g ≡ dot_at e r g + e.bytes * 8
  unfolding dot_at
  dot_lower r g = omega arith

  -- of some columns row by row, the first may be struck before the others
  rows_first : (page : List ℕ) (n x : ℕ) (xs : List ℕ) (s : ℕ) (r : Row) (g : Grid) (d : ℕ) → d ≡ dot_at e r g
      → blacken_all page (rows e n (x ∷ xs) d s) ≡ blacken_all (blacken_all page (wire_marks e n x r g)) (rows e n xs (d + s) s)
  unfolding rows wire_row wire_marks blacken_all
  rows_first page zero x xs s r g d q = refl
  rows_first page (suc n) x xs s r g d q =
      let down : ℕ = e.bytes * 8 in
      let b : ℕ = bit x n in
      let row : List ℕ = wire_row n xs (d + s) s in
      let under : List ℕ = wire_marks e n x (lower 1 r) g in
      let marked : List ℕ = blacken_all page (mark_if b d []) in
      let place : d + down + s ≡ d + s + down = omega arith in
      blacken_all-append page (mark_if b d row) (rows e n (x ∷ xs) (d + down) s)
      ∙ rows_first (blacken_all page (mark_if b d row)) n x xs s (lower 1 r) g (d + down) (ap (λ (m : ℕ). m + down) q ∙ sym (dot_lower r g))
      ∙ ap (λ (p : List ℕ). blacken_all (blacken_all p under) (rows e n xs (d + down + s) s)) (mark_first page b d row)
      ∙ ap (λ (p : List ℕ). blacken_all p (rows e n xs (d + down + s) s)) (blacken_all_swap marked row under)
      ∙ ap (λ (m : ℕ). blacken_all (blacken_all (blacken_all marked under) row) (rows e n xs m s)) place
      ∙ sym (blacken_all-append (blacken_all marked under) row (rows e n xs (d + s + down) s))
      ∙ ap (λ (p : List ℕ). blacken_all p (row ++ rows e n xs (d + s + down) s)) (sym (mark_first page b d under))
      ∙ ap (λ (m : ℕ). blacken_all (blacken_all page (mark_if b m under)) (row ++ rows e n xs (d + s + down) s)) q

  -- the dot further on in a row
  dot_after : (r : Row) (g h : Grid) (s : ℕ) → h.0 ≡ g.0 + s → dot_at e r h ≡ dot_at e r g + s
  unfolding dot_at
  dot_after r g h s q = omega arith

  -- columns struck row by row are struck column by column
  pub rows_line : (pitch : Pitch) (s : ℕ) → ((c : ℕ) → (e.grid pitch (c + 1)).0 ≡ (e.grid pitch c).0 + s)
      → (page columns : List ℕ) (r : Row) (c d : ℕ)
      → d ≡ dot_at e r (e.grid pitch c) → blacken_all page (rows e 9 columns d s) ≡ blacken_all page (line_marks e columns pitch r c)
  unfolding line_marks column_marks
  rows_line pitch s apart page [] r c d q = ap (blacken_all page) (rows_none 9 d s)
  rows_line pitch s apart page (x ∷ xs) r c d q =
      let g : Grid = e.grid pitch c in
      rows_first page 9 x xs s r g d q
      ∙ rows_line pitch s apart (blacken_all page (wire_marks e 9 x r g)) xs r (c + 1) (d + s)
      (ap (λ (m : ℕ). m + s) q ∙ sym (dot_after r g (e.grid pitch (c + 1)) s (apart c)))
      ∙ sym (blacken_all-append page (wire_marks e 9 x r g) (line_marks e xs pitch r (c + 1)))

-- a masked number moved left stays within 64 bits where the mask does
pub masked_fits : (x mask up : ℕ) → mask * up < 2 ^ 64 → Fits w64 (bit_and x mask * up)
masked_fits x mask up h = omega (arith, mul-le-mul_right up (and_le_r x mask))

-- an `or` that is 0 is of two numbers that are
pub or_none : (a b : ℕ) → bit_or a b ≡ 0 → (a ≡ 0) × (b ≡ 0)
or_none a b e =
    let sum : bit_or a b + bit_and a b ≡ a + b = or_add_and a b in
    (omega (arith, and_le_r a b), omega (arith, and_le_l a b))

-- a column with no wire set has no dots
no_dots : (e : Edition) (column : ℕ) (r : Row) (g : Grid) → column ≡ 0 → [] ≡ column_marks e column r g
no_dots e column r g none = sym (ap (λ (x : ℕ). column_marks e x r g) none ∙ no_wires e r g)

-- so columns of which none has one may be passed over
pub none_set : (e : Edition) (columns page : List ℕ) (pitch : Pitch) (r : Row) (c : ℕ) → any_wires columns ≡ 0
    → page ≡ blacken_all page (line_marks e columns pitch r c)
unfolding any_wires line_marks blacken_all
none_set e [] page pitch r c q = refl
none_set e (column ∷ columns) page pitch r c q =
    let parts = or_none column (any_wires columns) q in
    let g : Grid = e.grid pitch c in
    let more : List ℕ = line_marks e columns pitch r (c + 1) in
    none_set e columns page pitch r (c + 1) parts.1
    ∙ ap (λ (dots : List ℕ). blacken_all page (dots ++ more)) (no_dots e column r g parts.0)

-- n columns of a line are n
pub part_long : (line : List ℕ) (c n : ℕ) → c + n ≤ length line → length (take n (drop c line)) ≡ n
part_long line c n inside = length-take-le n (drop c line) (omega (arith, length-drop c line))

-- column k of them is column c + k of the line
pub part_at : (line : List ℕ) (c n k : ℕ) → k < n → get_or (take n (drop c line)) k 0 ≡ get_or line (c + k) 0
part_at line c n k h = get_or-take n (drop c line) k 0 h ∙ get_or-drop c line k 0

module _ (columns : List ℕ) where
  -- column k is put below the fields
  pub field_more : (base skip k f all : ℕ) → k < length columns → fields base skip (drop k columns) f ≡ all
      → fields base skip (drop (k + 1) columns) (f * base + get_or columns k 0 / 2 ^ skip % base) ≡ all
  unfolding fields
  field_more base skip k f all h so_far =
      let first : drop k columns ≡ get_or columns k 0 ∷ drop (k + 1) columns = rw (add-one, drop-cons columns k 0) in
      ap (λ (l : List ℕ). fields base skip l f) (sym first) ∙ so_far

  -- after the last column the fields are whole
  pub field_last : (base skip k f all : ℕ) → length columns ≤ k → fields base skip (drop k columns) f ≡ all → f ≡ all
  unfolding fields
  field_last base skip k f all end so_far = ap (λ (l : List ℕ). fields base skip l f) (sym (drop_of_length-le columns end)) ∙ so_far

  -- column k is joined to the wires of those before it
  pub any_more : (k any all : ℕ) → k < length columns → bit_or any (any_wires (drop k columns)) ≡ all
      → bit_or (bit_or any (get_or columns k 0)) (any_wires (drop (k + 1) columns)) ≡ all
  unfolding any_wires
  any_more k any all h so_far =
      let first : drop k columns ≡ get_or columns k 0 ∷ drop (k + 1) columns = rw (add-one, drop-cons columns k 0) in
      or_assoc any (get_or columns k 0) (any_wires (drop (k + 1) columns)) ∙ ap (λ (l : List ℕ). bit_or any (any_wires l)) (sym first) ∙ so_far

  -- after the last column there are all
  pub any_last : (k any all : ℕ) → length columns ≤ k → bit_or any (any_wires (drop k columns)) ≡ all → any ≡ all
  unfolding any_wires
  any_last k any all end so_far =
      sym (or_zero_r any) ∙ ap (λ (l : List ℕ). bit_or any (any_wires l)) (sym (drop_of_length-le columns end)) ∙ so_far

-- five bits hold 32 numbers
pub five_bits : (n : ℕ) → n ≤ 5 → 2 ^ n ≤ 32
five_bits n most = pow_mono {i = n} {j = 5} most

-- a 1 moved left by five bits at most
pub one_moved : (n : ℕ) → n ≤ 5 → 1 * 2 ^ n % 2 ^ 64 ≡ 2 ^ n
one_moved n h = let low : 1 * 2 ^ n < 2 ^ 64 = omega (arith, pow_mono {i = n} {j = 5} h) in mod-eq_of_lt low ∙ one-mul (2 ^ n)

-- a field more takes five bits more at most
pub field_below : (f base y k : ℕ) → base ≤ 32 → y < base → f < 2 ^ (5 * k) → f * base + y < 2 ^ (5 * (k + 1))
field_below f base y k h l below =
    let more : 5 * (k + 1) ≡ 5 * k + 5 = omega arith in
    let power : 2 ^ (5 * (k + 1)) ≡ 2 ^ (5 * k) * 32 = ap (λ (n : ℕ). 2 ^ n) more ∙ pow-add 2 (5 * k) 5 in
    omega (arith, mul-le-mul_left f h)

-- and eight fields take forty at most
pub fields-small : (f base y k : ℕ) → base ≤ 32 → y < base → f < 2 ^ (5 * k) → k < 8 → f * base + y < 2 ^ 40
fields-small f base y k h l below more =
    let most : 2 ^ (5 * (k + 1)) ≤ 2 ^ 40 = pow_mono {j = 40} (omega arith) in
    omega (arith, field_below f base y k h l below)

-- a masked number of forty bits moved left by four at most, to the top of its field
pub field_top : (x mask n : ℕ) → 1 ≤ n → n ≤ 5 → mask < 2 ^ 40 → bit_and x mask * 2 ^ (n - 1) % 2 ^ 64 ≡ bit_and x mask * (2 ^ n / 2)
field_top x mask zero some most small = absurd (omega arith)
field_top x mask (suc z) some most small =
    let top : 2 ^ suc z / 2 ≡ 2 ^ z = omega (arith, pow-suc 2 z) in
    let few : 2 ^ z ≤ 16 = pow_mono {i = z} {j = 4} (omega arith) in
    let fits : bit_and x mask * 2 ^ z < 2 ^ 64 = omega (arith, and_le_r x mask, mul-le-mul_left (bit_and x mask) few) in
    let last : suc z - 1 ≡ z = omega arith in
    ap (λ (k : ℕ). bit_and x mask * 2 ^ k % 2 ^ 64) last ∙ mod-eq_of_lt fits ∙ ap (λ (k : ℕ). bit_and x mask * k) (sym top)
