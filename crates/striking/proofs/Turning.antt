-- Sixteen columns turned into nine wires: a number made of others by masks, exclusive `or` and shifts has bits that are bits of those, and which they are
-- is computed.
use Prim.Native.Nat.{ℕ, zero, suc, ◌+◌, ◌-◌, ◌*◌, ◌/◌, ◌%◌, ◌^◌, ◌≤◌, ◌<◌}
use mathlib.Core.Bool.{Bool, true, false, cond, not, ◌&&◌}
use mathlib.Core.Path.{◌≡◌, refl, sym, ap, ap₂, ◌∙◌, subst}
use mathlib.Core.List.{List, [], ◌∷◌, ◌++◌, map}
use native.Mathlib.Omega.{arith}
use native.Mathlib.Nat.{add-zero, zero-add, div-eq_of_lt, mod-eq_of_lt, mod-lt}
use native.Mathlib.Decide.{dec_lt}
use lib.Dec.{T, lit<, eqb, eqb→eq, leb, leb→le, nleb→lt, ltb, ltb→lt, nltb→le}
use lib.Pow.{pow-add, pow_mono, pow_pos, shl-shr, shr-shr, high, low}
use lib.Bits.{bit_and, bit_or, and_mask, and_mod, and_shr, and_zero_r, bit_xor}
use lib.Bits.{xor_add_and, xor_comm, xor_lt, xor_mod, xor_self, xor_shr, xor_zero_l, xor_zero_r}
use lib.ListN.{length, get_or, take, drop, length-take, get_or-eq_default, get_or-map}
use lib.Seq.{drop-cons, drop-drop, take-add}
use Rattle.sheet.specs.Dots.{bit, blacken_all, mark_if}
use Rattle.sheet.proofs.Bits.{bit_lt}
use Rattle.striking.specs.Groups.{any_wires, join, side_by_side, swapped}
use Rattle.striking.specs.Turning.{Made, number, masked, crossed, higher, lower, made}
use Rattle.striking.specs.Turning.{turn, turned, paired, differing, left, right, two_to_five, six_to_nine, topmost, fours}
use Rattle.striking.proofs.Joining.{bit_marks, bit-marks-add, joined}
use Rattle.striking.proofs.Grouping.{part_at, part_long, or_none, bit_is, low_bit, moved-bit, wire_row}

-- a list where a bit is 1, none where it is 0
unfoldable where_set : ℕ → List ℕ → List ℕ
where_set zero l = []
where_set (suc _) l = l

-- a source added to some, or taken away where it is among them, since twice it is nothing
unfoldable toggled : ℕ → List ℕ → List ℕ
toggled i [] = i ∷ []
toggled i (j ∷ js) = cond (eqb i j) js (j ∷ toggled i js)

unfoldable merged : List ℕ → List ℕ → List ℕ
merged [] js = js
merged (i ∷ is) js = toggled i (merged is js)

-- the bits of which bit j of the number is made: bit k of number i is 64 * i + k
unfoldable sources : Made → ℕ → List ℕ
sources (number i) j = cond (ltb j 64) ((64 * i + j) ∷ []) []
sources (masked m x) j = where_set (bit m j) (sources x j)
sources (crossed x y) j = merged (sources x j) (sources y j)
sources (higher s x) j = cond (leb s j) (sources x (j - s)) []
sources (lower s x) j = sources x (s + j)

-- the number whose two lowest bytes have the wire at bit n
unfoldable wires_made : List Made
wires_made =
    lower 48 six_to_nine ∷ lower 32 six_to_nine ∷ lower 16 six_to_nine ∷ six_to_nine ∷ lower 48 two_to_five ∷ lower 32 two_to_five
    ∷ lower 16 two_to_five ∷ two_to_five ∷ topmost ∷ []

unfoldable wire_made : ℕ → Made
wire_made n = get_or wires_made n (number 0)

-- that number, as it is taken of wire 1, of wires 2 to 5 and of wires 6 to 9
unfoldable pub wire_number : ℕ → ℕ → ℕ → ℕ → ℕ
wire_number top upper below n =
    get_or
    (below / 0x1000000000000 ∷ below / 0x100000000 ∷ below / 0x10000 ∷ below ∷ upper / 0x1000000000000 ∷ upper / 0x100000000
    ∷ upper / 0x10000 ∷ upper ∷ top ∷ []) n 0

-- within a list it does not matter what is read behind it
inside : (l : List ℕ) (d e n : ℕ) → n < length l → get_or l n d ≡ get_or l n e
inside [] d e n h = absurd (omega arith)
inside (x ∷ l) d e zero h = refl
inside (x ∷ l) d e (suc n) h = inside l d e n (omega arith)

so_made : (ns : List ℕ) (n : ℕ) → n < 9 → wire_number (made ns topmost) (made ns two_to_five) (made ns six_to_nine) n ≡ made ns (wire_made n)
unfolding wire_number wire_made wires_made made
so_made ns n h = inside (map (made ns) wires_made) 0 (get_or ns 0 0) n h ∙ get_or-map (made ns) wires_made n (number 0)

-- the bit of that number that column k has: in byte k / 8, the first of eight columns highest
abbrev bit_of : ℕ → ℕ
bit_of k = k / 8 * 8 + (7 - k % 8)

-- Whether that bit is bit n of column k alone, for each of nine wires and sixteen columns.
unfoldable lone : ℕ → List ℕ → Bool
lone i [] = false
lone i (j ∷ []) = eqb j i
lone i (j ∷ k ∷ js) = false

unfoldable all_below : ℕ → (ℕ → Bool) → Bool
all_below zero p = true
all_below (suc n) p = p n && all_below n p

both : (s t : Bool) → T (s && t) → T s × T t
both true t h = (tt, h)
both false t h = absurd h

all_true : (n : ℕ) (p : ℕ → Bool) → T (all_below n p) → (k : ℕ) → k < n → T (p k)
unfolding all_below
all_true zero p h k l = absurd (omega arith)
all_true (suc n) p h k l = go (dec_lt k n) (all_true n p (both (p n) (all_below n p) h).1 k)
  where
    go : Dec (k < n) → (k < n → T (p k)) → T (p k)
    go (yes m) others = others m
    go (no m) others = subst (λ (i : ℕ). T (p i)) (omega arith) (both (p n) (all_below n p) h).0

each_lone : T (all_below 9 (λ n. all_below 16 (λ k. lone (16 * k + n) (sources (wire_made n) (bit_of k)))))
unfolding sources merged toggled where_set bit all_below lone wire_made wires_made topmost two_to_five six_to_nine left right differing paired turned turn
each_lone = tt

-- the bits of 0
no_bit : (k : ℕ) → bit 0 k ≡ 0
unfolding bit
no_bit k = ap (λ (n : ℕ). n % 2) (div-eq_of_lt (pow_pos k))

-- a number below 2 ^ n has no bit from n on
above : (n m k : ℕ) → m < 2 ^ n → n ≤ k → bit m k ≡ 0
unfolding bit
above n m k l h = ap (λ (x : ℕ). x % 2) (div-eq_of_lt (omega (arith, pow_mono {i = n} {j = k} h)))

-- the bits of a number's lowest byte
byte-bit : (n k : ℕ) → k < 8 → bit (n % 256) k ≡ bit n k
byte-bit n k h =
    let j : ℕ = 7 - k in
    let whole : suc j + k ≡ 8 = omega arith in
    sym (low_bit n k j ∙ ap (λ (m : ℕ). bit (n % 2 ^ m) k) whole)

-- the bits of a number with a field of s bits below it: those of the field, and then its own
bit_below : (n x s k : ℕ) → x < 2 ^ s → k < s → bit (n * 2 ^ s + x) k ≡ bit x k
bit_below n x s k small l =
    let j : ℕ = s - suc k in
    let whole : s ≡ suc j + k = omega arith in
    low_bit (n * 2 ^ s + x) k j ∙ ap (λ (m : ℕ). bit ((n * 2 ^ s + x) % 2 ^ m) k) (sym whole) ∙ ap (λ (m : ℕ). bit m k) (low n s small)

bit_past : (n x s k : ℕ) → x < 2 ^ s → bit (n * 2 ^ s + x) (s + k) ≡ bit n k
bit_past n x s k small = sym (moved-bit (n * 2 ^ s + x) s k) ∙ ap (λ (m : ℕ). bit m k) (high n s small)

-- Columns that are numbers of sixteen bits.
abbrev pub Small : List ℕ → Type 0
Small columns = (k : ℕ) → get_or columns k 0 < 2 ^ 16

-- bit j of some columns side by side is a bit of one of them
side_bit : (columns : List ℕ) → Small columns → (j : ℕ) → bit (side_by_side columns) j ≡ bit (get_or columns (j / 16) 0) (j % 16)
unfolding side_by_side
side_bit [] small j = no_bit j ∙ sym (no_bit (j % 16))
side_bit (x ∷ columns) small j = go (dec_lt j 16) (side_bit columns (λ k. small (suc k)))
  where
    n : ℕ
    n = side_by_side columns

    go : Dec (j < 16) → ((i : ℕ) → bit n i ≡ bit (get_or columns (i / 16) 0) (i % 16))
        → bit (n * 65536 + x) j ≡ bit (get_or (x ∷ columns) (j / 16) 0) (j % 16)
    go (yes h) others =
        let column : 0 ≡ j / 16 = omega arith in
        let same : j ≡ j % 16 = omega arith in
        bit_below n x 16 j (small 0) h ∙ ap₂ (λ (k i : ℕ). bit (get_or (x ∷ columns) k 0) i) column same
    go (no h) others =
        let past : j ≡ 16 + (j - 16) = omega arith in
        let column : suc ((j - 16) / 16) ≡ j / 16 = omega arith in
        let same : (j - 16) % 16 ≡ j % 16 = omega arith in
        ap (bit (n * 65536 + x)) past
        ∙ bit_past n x 16 (j - 16) (small 0)
        ∙ others (j - 16)
        ∙ ap₂ (λ (k i : ℕ). bit (get_or (x ∷ columns) k 0) i) column same

-- the bits of a number moved up
bit_higher : (n s j : ℕ) → s ≤ j → bit (n * 2 ^ s) j ≡ bit n (j - s)
unfolding bit
bit_higher n s j h =
    let past : j ≡ s + (j - s) = omega arith in
    ap (λ (k : ℕ). n * 2 ^ s / 2 ^ k % 2) past
    ∙ ap (λ (m : ℕ). m % 2) (sym (shr-shr (n * 2 ^ s) s (j - s)) ∙ ap (λ (m : ℕ). m / 2 ^ (j - s)) (shl-shr n s))

bit_under : (n s j : ℕ) → j < s → bit (n * 2 ^ s) j ≡ 0
bit_under n s j h = ap (λ (m : ℕ). bit m j) (omega arith) ∙ bit_below n 0 s j (pow_pos s) h ∙ no_bit j

-- a bit of a masked number
bit_masked : (n m j : ℕ) → bit (bit_and n m) j ≡ bit_and (bit n j) (bit m j)
unfolding bit
bit_masked n m j = ap (λ (x : ℕ). x % 2) (and_shr n m j) ∙ and_mod (n / 2 ^ j) (m / 2 ^ j) 1

-- a bit of two numbers crossed
bit-crossed : (a b k : ℕ) → bit (bit_xor a b) k ≡ bit_xor (bit a k) (bit b k)
unfolding bit
bit-crossed a b k = ap (λ (x : ℕ). x % 2) (xor_shr a b k) ∙ xor_mod (a / 2 ^ k) (b / 2 ^ k) 1

-- two digits crossed are their sum without what it carries, so three may be crossed from either side
cross_two : (x y : ℕ) → x < 2 → y < 2 → bit_xor x y ≡ (x + y) % 2
cross_two x y h k = omega (arith, xor_add_and x y, xor_lt 1 x y h k)

sum_three : (x y z : ℕ) → ((x + y) % 2 + z) % 2 ≡ (x + (y + z) % 2) % 2
sum_three x y z = omega arith

cross_three : (x y z : ℕ) → x < 2 → y < 2 → z < 2 → bit_xor (bit_xor x y) z ≡ bit_xor x (bit_xor y z)
cross_three x y z h k l =
    cross_two (bit_xor x y) z (xor_lt 1 x y h k) l
    ∙ ap (λ (v : ℕ). (v + z) % 2) (cross_two x y h k)
    ∙ sum_three x y z
    ∙ ap (λ (v : ℕ). (x + v) % 2) (sym (cross_two y z k l))
    ∙ sym (cross_two x (bit_xor y z) h (xor_lt 1 y z k l))

module _ (ns : List ℕ) (fit : (i : ℕ) → get_or ns i 0 < 2 ^ 64) (source : ℕ → ℕ) (digit : (i : ℕ) → source i < 2)
    (is : (i j : ℕ) → j < 64 → bit (get_or ns i 0) j ≡ source (64 * i + j)) where
  -- some sources, crossed
  unfoldable all_of : List ℕ → ℕ
  all_of [] = 0
  all_of (i ∷ is) = bit_xor (source i) (all_of is)

  all_digit : (is : List ℕ) → all_of is < 2
  unfolding all_of
  all_digit [] = lit< tt
  all_digit (i ∷ is) = xor_lt 1 (source i) (all_of is) (digit i) (all_digit is)

  -- the same source twice is nothing
  twice : (i : ℕ) (js : List ℕ) → all_of js ≡ bit_xor (source i) (bit_xor (source i) (all_of js))
  twice i js =
      let s : ℕ = source i in
      sym (xor_zero_l (all_of js))
      ∙ ap (λ (n : ℕ). bit_xor n (all_of js)) (sym (xor_self s))
      ∙ cross_three s s (all_of js) (digit i) (digit i) (all_digit js)

  -- of two sources either may be first
  either : (i j : ℕ) (js : List ℕ) → bit_xor (source j) (bit_xor (source i) (all_of js)) ≡ bit_xor (source i) (bit_xor (source j) (all_of js))
  either i j js =
      sym (cross_three (source j) (source i) (all_of js) (digit j) (digit i) (all_digit js))
      ∙ ap (λ (n : ℕ). bit_xor n (all_of js)) (xor_comm (source j) (source i))
      ∙ cross_three (source i) (source j) (all_of js) (digit i) (digit j) (all_digit js)

  all_toggled : (i : ℕ) (js : List ℕ) → all_of (toggled i js) ≡ bit_xor (source i) (all_of js)
  unfolding toggled all_of
  all_toggled i [] = refl
  all_toggled i (j ∷ js) = go (eqb i j) refl (all_toggled i js)
    where
      go : (t : Bool) → eqb i j ≡ t → all_of (toggled i js) ≡ bit_xor (source i) (all_of js)
          → all_of (cond t js (j ∷ toggled i js)) ≡ bit_xor (source i) (bit_xor (source j) (all_of js))
      go true e others =
          let same : i ≡ j = eqb→eq i j (subst T (sym e) tt) in
          twice i js ∙ ap (λ (k : ℕ). bit_xor (source i) (bit_xor (source k) (all_of js))) same
      go false e others = ap (bit_xor (source j)) others ∙ either i j js

  all_merged : (is js : List ℕ) → bit_xor (all_of is) (all_of js) ≡ all_of (merged is js)
  unfolding merged all_of
  all_merged [] js = xor_zero_l (all_of js)
  all_merged (i ∷ is) js =
      cross_three (source i) (all_of is) (all_of js) (digit i) (all_digit is) (all_digit js)
      ∙ ap (bit_xor (source i)) (all_merged is js)
      ∙ sym (all_toggled i (merged is js))

  -- a bit that has a source or is 0, as a condition tells
  chosen : (t : Bool) (v : ℕ) (l : List ℕ) → (T t → v ≡ all_of l) → (T (not t) → v ≡ 0) → v ≡ all_of (cond t l [])
  unfolding all_of
  chosen true v l some none = some tt
  chosen false v l some none = none tt

  -- bit j of one of the numbers
  whole : (i j : ℕ) → bit (get_or ns i 0) j ≡ all_of (cond (ltb j 64) ((64 * i + j) ∷ []) [])
  unfolding all_of
  whole i j =
      chosen (ltb j 64) (bit (get_or ns i 0) j) ((64 * i + j) ∷ []) (λ h. is i j (ltb→lt j 64 h) ∙ sym (xor_zero_r (source (64 * i + j))))
      (λ h. above 64 (get_or ns i 0) j (fit i) (nltb→le j 64 h))

  -- a bit under a bit of a mask
  under_mask : (v m : ℕ) (l : List ℕ) → v < 2 → m < 2 → v ≡ all_of l → bit_and v m ≡ all_of (where_set m l)
  unfolding all_of where_set
  under_mask v zero l h k e = and_zero_r v
  under_mask v (suc zero) l h k e = and_mask v 1 ∙ mod-eq_of_lt h ∙ e
  under_mask v (suc (suc m)) l h k e = absurd (omega arith)

  -- each bit of a made number is its sources, crossed
  made_bit : (x : Made) (j : ℕ) → bit (made ns x) j ≡ all_of (sources x j)
  unfolding made sources
  made_bit (number i) j = whole i j
  made_bit (masked m x) j = bit_masked (made ns x) m j ∙ under_mask (bit (made ns x) j) (bit m j) (sources x j) (bit_lt _ j) (bit_lt m j) (made_bit x j)
  made_bit (crossed x y) j =
      bit-crossed (made ns x) (made ns y) j ∙ ap₂ bit_xor (made_bit x j) (made_bit y j) ∙ all_merged (sources x j) (sources y j)
  made_bit (higher s x) j =
      chosen (leb s j) (bit (made ns x * 2 ^ s) j) (sources x (j - s)) (λ h. bit_higher (made ns x) s j (leb→le s j h) ∙ made_bit x (j - s))
      (λ h. bit_under (made ns x) s j (nleb→lt s j h))
  made_bit (lower s x) j = moved-bit (made ns x) s j ∙ made_bit x (s + j)

  lone_source : (i : ℕ) (l : List ℕ) → T (lone i l) → all_of l ≡ source i
  unfolding lone all_of
  lone_source i [] h = absurd h
  lone_source i (j ∷ []) h = xor_zero_r (source j) ∙ ap source (eqb→eq j i h)
  lone_source i (j ∷ k ∷ js) h = absurd h

  -- the bit that column k has of the number for wire n is bit n of the column, the sources being the columns' bits, sixteen each
  wire_bit : (n k : ℕ) → n < 9 → k < 16 → bit (made ns (wire_made n)) (bit_of k) ≡ source (16 * k + n)
  wire_bit n k h l =
      let row = all_true 9 (λ (n : ℕ). all_below 16 (λ k. lone (16 * k + n) (sources (wire_made n) (bit_of k)))) each_lone n h in
      made_bit (wire_made n) (bit_of k)
      ∙ lone_source (16 * k + n) (sources (wire_made n) (bit_of k)) (all_true 16 (λ (k : ℕ). lone (16 * k + n) (sources (wire_made n) (bit_of k))) row k l)

-- some columns side by side take sixteen bits each
side_fits : (columns : List ℕ) → Small columns → side_by_side columns < 2 ^ (16 * length columns)
unfolding side_by_side
side_fits [] small = lit< tt
side_fits (x ∷ columns) small =
    let more : 16 * length (x ∷ columns) ≡ 16 * length columns + 16 = omega arith in
    let power : 2 ^ (16 * length (x ∷ columns)) ≡ 2 ^ (16 * length columns) * 65536 =
    ap (λ (n : ℕ). 2 ^ n) more ∙ pow-add 2 (16 * length columns) 16 in
    omega (arith, power, small 0, side_fits columns (λ k. small (suc k)))

-- the four columns of a line from column c on, and side by side
four_of : (line : List ℕ) (c : ℕ) → c + 4 ≤ length line
    → take 4 (drop c line) ≡ get_or line c 0 ∷ get_or line (c + 1) 0 ∷ get_or line (c + 2) 0 ∷ get_or line (c + 3) 0 ∷ []
four_of line c inside =
    let one : suc c ≡ c + 1 = omega arith in
    let two : suc (c + 1) ≡ c + 2 = omega arith in
    let three : suc (c + 2) ≡ c + 3 = omega arith in
    let last : drop (c + 3) line ≡ get_or line (c + 3) 0 ∷ drop (suc (c + 3)) line = drop-cons line (c + 3) 0 (omega arith) in
    let third : drop (c + 2) line ≡ get_or line (c + 2) 0 ∷ drop (c + 3) line =
    drop-cons line (c + 2) 0 (omega arith) ∙ ap (λ (k : ℕ). get_or line (c + 2) 0 ∷ drop k line) three in
    let second : drop (c + 1) line ≡ get_or line (c + 1) 0 ∷ drop (c + 2) line =
    drop-cons line (c + 1) 0 (omega arith) ∙ ap (λ (k : ℕ). get_or line (c + 1) 0 ∷ drop k line) two in
    ap (take 4) (drop-cons line c 0 (omega arith) ∙ ap (λ (k : ℕ). get_or line c 0 ∷ drop k line) one)
    ∙ ap (λ (l : List ℕ). get_or line c 0 ∷ take 3 l) second
    ∙ ap (λ (l : List ℕ). get_or line c 0 ∷ get_or line (c + 1) 0 ∷ take 2 l) third
    ∙ ap (λ (l : List ℕ). get_or line c 0 ∷ get_or line (c + 1) 0 ∷ get_or line (c + 2) 0 ∷ take 1 l) last

pub four_beside : (line : List ℕ) (c : ℕ) → c + 4 ≤ length line
    → get_or line c 0 + get_or line (c + 1) 0 * 65536 + (get_or line (c + 2) 0 + get_or line (c + 3) 0 * 65536) * 4294967296
    ≡ side_by_side (take 4 (drop c line))
unfolding side_by_side
four_beside line c inside = omega arith ∙ ap side_by_side (sym (four_of line c inside))

-- the dots of a number's lowest bits, if these from the highest on are bit n of some columns, are the dots of that wire
marks-wire : (w n d : ℕ) (columns : List ℕ) → ((k : ℕ) → k < length columns → bit w (length columns - suc k) ≡ bit (get_or columns k 0) n)
    → bit_marks d (length columns) w [] ≡ wire_row n columns d 1
unfolding bit_marks wire_row
marks-wire w n d [] is = refl
marks-wire w n d (x ∷ columns) is =
    let m : ℕ = length columns in
    let more : length (x ∷ columns) ≡ m + 1 = omega arith in
    let last : m ≡ length (x ∷ columns) - 1 = omega arith in
    let top : w / 2 ^ m % 2 ≡ bit x n = bit_is w m ∙ ap (bit w) last ∙ is 0 (omega arith) in
    ap (λ (k : ℕ). bit_marks d k w []) more
    ∙ bit-marks-add d m 1 w []
    ∙ ap₂ (λ (b k : ℕ). mark_if b k (bit_marks (d + 1) m w [])) top (add-zero d)
    ∙ ap (mark_if (bit x n) d) (marks-wire w n (d + 1) columns (λ k h. ap (bit w) (omega arith) ∙ is (suc k) (omega arith)))

-- a number's two lowest bytes in the other order: its bits from the highest on
swapped-bit : (w k : ℕ) → k < 16 → bit (swapped 2 w 0) (15 - k) ≡ bit w (bit_of k)
unfolding swapped
swapped-bit w k h = go (dec_lt k 8)
  where
    first : ℕ
    first = 0 * 256 + w % 256

    second : ℕ
    second = w / 256 % 256

    go : Dec (k < 8) → bit (first * 256 + second) (15 - k) ≡ bit w (bit_of k)
    go (yes l) =
        ap (bit (first * 256 + second)) (omega arith)
        ∙ bit_past first second 8 (7 - k) (mod-lt (w / 256) (omega arith))
        ∙ ap (λ (v : ℕ). bit v (7 - k)) (zero-add (w % 256))
        ∙ byte-bit w (7 - k) (omega arith)
        ∙ ap (bit w) (omega arith)
    go (no l) =
        bit_below first second 8 (15 - k) (mod-lt (w / 256) (omega arith)) (omega arith)
        ∙ byte-bit (w / 256) (15 - k) (omega arith)
        ∙ moved-bit w 8 (15 - k)
        ∙ ap (bit w) (omega arith)

-- two bytes with bit n of sixteen columns, joined to a page, strike that wire
pair_strikes : (before columns : List ℕ) (i n w : ℕ) → length columns ≡ 16 → ((k : ℕ) → k < 16 → bit w (bit_of k) ≡ bit (get_or columns k 0) n)
    → join before i 2 (swapped 2 w 0) ≡ blacken_all before (wire_row n columns (i * 8) 1)
pair_strikes before columns i n w sixteen is =
    joined before i 2 (swapped 2 w 0)
    ∙ ap (λ (m : ℕ). blacken_all before (bit_marks (i * 8) m (swapped 2 w 0) [])) (sym sixteen)
    ∙ ap (blacken_all before)
    (marks-wire (swapped 2 w 0) n (i * 8) columns
    (λ k h. ap (bit (swapped 2 w 0)) (omega arith) ∙ swapped-bit w k (omega arith) ∙ is k (omega arith)))

-- the part of a line of small numbers that begins at column c
small-part : (line : List ℕ) (c n : ℕ) → Small line → Small (take n (drop c line))
small-part line c n small k = go (dec_lt k n)
  where
    go : Dec (k < n) → get_or (take n (drop c line)) k 0 < 2 ^ 16
    go (yes h) = omega (arith, small (c + k), part_at line c n k h)
    go (no h) = omega (arith, get_or-eq_default (take n (drop c line)) 0 {n = k} (omega (arith, length-take n (drop c line))))

-- The sixteen columns of a line from column c on.
module _ (line : List ℕ) (c : ℕ) (inside_line : c + 16 ≤ length line) (small : Small line) where
  -- bit i % 16 of column i / 16 of them
  unfoldable source_of : ℕ → ℕ
  source_of i = bit (get_or (take 16 (drop c line)) (i / 16) 0) (i % 16)

  -- four columns from column k on, side by side, are a number of 64 bits, which are bits of theirs
  four_fit : (k : ℕ) → side_by_side (take 4 (drop k line)) < 2 ^ 64
  four_fit k =
      let some : List ℕ = take 4 (drop k line) in
      let most : 2 ^ (16 * length some) ≤ 2 ^ 64 = pow_mono {j = 64} (omega (arith, length-take 4 (drop k line))) in
      omega (arith, side_fits some (small-part line k 4 small), most)

  four_bit : (i k j : ℕ) → i < 4 → k ≡ c + 4 * i → j < 64 → bit (side_by_side (take 4 (drop k line))) j ≡ source_of (64 * i + j)
  unfolding source_of
  four_bit i k j few place h =
      let column : k + j / 16 ≡ c + (64 * i + j) / 16 = omega arith in
      let same : j % 16 ≡ (64 * i + j) % 16 = omega arith in
      side_bit (take 4 (drop k line)) (small-part line k 4 small) j
      ∙ ap (λ (x : ℕ). bit x (j % 16)) (part_at line k 4 (j / 16) (omega arith))
      ∙ ap₂ (λ (m b : ℕ). bit (get_or line m 0) b) column same
      ∙ ap (λ (x : ℕ). bit x ((64 * i + j) % 16)) (sym (part_at line c 16 ((64 * i + j) / 16) (omega arith)))

  -- so is each of the four numbers, and past them there are no bits
  fours_fit : (i : ℕ) → get_or (fours line c) i 0 < 2 ^ 64
  unfolding fours
  fours_fit zero = four_fit c
  fours_fit (suc zero) = four_fit (c + 4)
  fours_fit (suc (suc zero)) = four_fit (c + 8)
  fours_fit (suc (suc (suc zero))) = four_fit (c + 12)
  fours_fit (suc (suc (suc (suc i)))) = lit< tt

  fours_bit : (i j : ℕ) → j < 64 → bit (get_or (fours line c) i 0) j ≡ source_of (64 * i + j)
  unfolding fours source_of
  fours_bit zero j h = four_bit 0 c j (lit< tt) (omega arith) h
  fours_bit (suc zero) j h = four_bit 1 (c + 4) j (lit< tt) (omega arith) h
  fours_bit (suc (suc zero)) j h = four_bit 2 (c + 8) j (lit< tt) (omega arith) h
  fours_bit (suc (suc (suc zero))) j h = four_bit 3 (c + 12) j (lit< tt) (omega arith) h
  fours_bit (suc (suc (suc (suc i)))) j h =
      let n : ℕ = 64 * suc (suc (suc (suc i))) + j in
      no_bit j
      ∙ sym (no_bit (n % 16))
      ∙ ap (λ (x : ℕ). bit x (n % 16))
      (sym (get_or-eq_default (take 16 (drop c line)) 0 {n = n / 16} (omega (arith, length-take 16 (drop c line)))))

  -- the two lowest bytes of the number for each wire strike it
  pub wires_strike : let ns = fours line c in
      (before : List ℕ) (i n : ℕ) → n < 9
      → join before i 2 (swapped 2 (wire_number (made ns topmost) (made ns two_to_five) (made ns six_to_nine) n) 0)
      ≡ blacken_all before (wire_row n (take 16 (drop c line)) (i * 8) 1)
  unfolding source_of
  wires_strike before i n h =
      let ns : List ℕ = fours line c in
      let w : ℕ = made ns (wire_made n) in
      ap (λ (v : ℕ). join before i 2 (swapped 2 v 0)) (so_made ns n h)
      ∙ pair_strikes before (take 16 (drop c line)) i n w (part_long line c 16 inside_line)
      (λ k l. wire_bit ns fours_fit source_of (λ m. bit_lt _ _) fours_bit n k h l
      ∙ ap₂ (λ (m j : ℕ). bit (get_or (take 16 (drop c line)) m 0) j) (omega arith) (omega arith))

-- eight columns of a line are four and the four after them
eight_parts : (line : List ℕ) (c : ℕ) → take 8 (drop c line) ≡ take 4 (drop c line) ++ take 4 (drop (c + 4) line)
eight_parts line c = take-add 4 4 (drop c line) ∙ ap (λ (l : List ℕ). take 4 (drop c line) ++ take 4 l) (drop-drop 4 c line)

-- columns side by side in a number that is 0 have no wire
side_none : (columns : List ℕ) → side_by_side columns ≡ 0 → any_wires columns ≡ 0
unfolding side_by_side any_wires
side_none [] none = refl
side_none (x ∷ columns) none =
    let this : x ≡ 0 = omega arith in
    let others : side_by_side columns ≡ 0 = omega arith in
    ap₂ bit_or this (side_none columns others)

-- nor have columns and others after them of which none has one
any_parts : (xs ys : List ℕ) → any_wires xs ≡ 0 → any_wires ys ≡ 0 → any_wires (xs ++ ys) ≡ 0
unfolding any_wires
any_parts [] ys none others = others
any_parts (x ∷ xs) ys none others =
    let parts = or_none x (any_wires xs) none in
    ap₂ bit_or parts.0 (any_parts xs ys parts.1 others)

-- so have eight columns of a line, if two numbers in which four of them each stand side by side are 0
pub eight_none : (line : List ℕ) (c : ℕ) → bit_or (side_by_side (take 4 (drop c line))) (side_by_side (take 4 (drop (c + 4) line))) ≡ 0
    → any_wires (take 8 (drop c line)) ≡ 0
eight_none line c none =
    let xs : List ℕ = take 4 (drop c line) in
    let ys : List ℕ = take 4 (drop (c + 4) line) in
    let parts = or_none (side_by_side xs) (side_by_side ys) none in
    ap any_wires (eight_parts line c) ∙ any_parts xs ys (side_none xs parts.0) (side_none ys parts.1)
