-- The two words of the tabs, bit by bit, are the list of the lines' tabs.
use Prim.Native.Nat.{ℕ, zero, suc, ◌+◌, ◌-◌, ◌*◌, ◌/◌, ◌%◌, ◌^◌, ◌≤◌, ◌<◌}
use mathlib.Core.Bool.{Bool, true, false, not, ◌&&◌}
use mathlib.Core.List.{List, [], ◌∷◌, ◌++◌}
use mathlib.Core.Path.{◌≡◌, refl, sym, ap, ap₂, ◌∙◌}
use native.Mathlib.Decide.{dec_lt}
use native.Mathlib.Nat.{div-eq_of_lt, mod-lt, suc-add, zero-add}
use native.Mathlib.Numerals.{one-add}
use native.Mathlib.Omega.{arith}
use borrow.Author.Tests.{eq-eqb, eqb-false, eqb-true, ltb-false, ltb-true, ne_eqb}
use lib.Bits.{bit_or, or_step, or_zero_r}
use lib.Dec.{eqb, ltb}
use lib.ListN.{drop, drop_of_length-le, get_or, length, length-append, get_or-append, get_or-eq_default, set}
use lib.Pow.{pow-lt, pow_pos, shr-shr}
use lib.Seq.{drop-append-add, drop-append-le, get_or-append-add, set-append_left, set_out}
use Rattle.printer.specs.declared.TabSet.{TabSet}
use Rattle.printer.specs.Sound.{untabbed}
use Rattle.printer.specs.Tabs.{line_tabs, put_bit, tabs_through, with_tab, word_tabs}

-- a word's bits from bit k + 1 on are those of its half from bit k on
halved : (w k : ℕ) → w / 2 / 2 ^ k ≡ w / 2 ^ suc k
halved w k = shr-shr w 1 k ∙ ap (λ (n : ℕ). w / 2 ^ n) (one-add k)

whole : (w : ℕ) → w ≡ w / 2 ^ 0
whole w = omega arith

-- The bits of one word.
length-word : (n w : ℕ) → length (word_tabs n w) ≡ n
unfolding word_tabs
length-word zero w = refl
length-word (suc n) w = ap suc (length-word n (w / 2))

word_at : (n w k : ℕ) → k < n → get_or (word_tabs n w) k false ≡ eqb (w / 2 ^ k % 2) 1
unfolding word_tabs
word_at zero w k h = absurd (omega arith)
word_at (suc n) w zero h = ap (λ (x : ℕ). eqb (x % 2) 1) (whole w)
word_at (suc n) w (suc k) h = word_at n (w / 2) k (omega arith) ∙ ap (λ (x : ℕ). eqb (x % 2) 1) (halved w k)

-- a number is 0 where its lowest bit is off and its half is 0
half_zero : (w : ℕ) (odd none : Bool) → eqb (w % 2) 1 ≡ odd → eqb (w / 2) 0 ≡ none → (not odd && none) ≡ eqb w 0
half_zero w true none p q = sym (ne_eqb w 0 (λ z. omega (arith, eqb-true (w % 2) 1 p)))
half_zero w false true p q = sym (eq-eqb w 0 (omega (arith, eqb-true (w / 2) 0 q, eqb-false (w % 2) 1 p)))
half_zero w false false p q = sym (ne_eqb w 0 (λ z. eqb-false (w / 2) 0 q (omega arith)))

untabbed-word : (n w : ℕ) → w < 2 ^ n → untabbed (word_tabs n w) ≡ eqb w 0
unfolding untabbed word_tabs
untabbed-word zero w h = sym (eq-eqb w 0 (omega arith))
untabbed-word (suc n) w h = ap (λ (b : Bool). not (eqb (w % 2) 1) && b) (untabbed-word n (w / 2) (omega arith)) ∙ half_zero w _ _ refl refl

untabbed_from : (n w k : ℕ) → k ≤ n → w < 2 ^ n → untabbed (drop k (word_tabs n w)) ≡ eqb (w / 2 ^ k) 0
unfolding word_tabs
untabbed_from n w zero l h = untabbed-word n w h ∙ ap (λ (x : ℕ). eqb x 0) (whole w)
untabbed_from zero w (suc k) l h = absurd (omega arith)
untabbed_from (suc n) w (suc k) l h = untabbed_from n (w / 2) k (omega arith) (omega arith) ∙ ap (λ (x : ℕ). eqb x 0) (halved w k)

put_word : (on : Bool) (k n w : ℕ) → word_tabs n (put_bit on k w) ≡ set (word_tabs n w) k on
unfolding word_tabs put_bit
put_word on k zero w = refl
put_word true zero (suc n) w = ap₂ (λ (b : Bool) (x : ℕ). b ∷ word_tabs n x) (eq-eqb ((w / 2 * 2 + 1) % 2) 1 (omega arith)) (omega arith)
put_word false zero (suc n) w =
    ap₂ (λ (b : Bool) (x : ℕ). b ∷ word_tabs n x) (ne_eqb ((w / 2 * 2 + 0) % 2) 1 (λ (z : (w / 2 * 2 + 0) % 2 ≡ 1). omega arith)) (omega arith)
put_word on (suc k) (suc n) w =
    let v : ℕ = put_bit on k (w / 2) in
    let lowest : (v * 2 + w % 2) % 2 ≡ w % 2 = omega arith in
    let others : (v * 2 + w % 2) / 2 ≡ v = omega arith in
    ap₂ (λ (x y : ℕ). eqb x 1 ∷ word_tabs n y) lowest others ∙ ap (λ (bs : List Bool). eqb (w % 2) 1 ∷ bs) (put_word on k n (w / 2))

-- a bit that is on weighs 2 ^ k more than one that is off
pub put_weight : (k w : ℕ) → put_bit true k w ≡ put_bit false k w + 2 ^ k
unfolding put_bit
put_weight zero w = omega arith
put_weight (suc k) w = omega (arith, put_weight k (w / 2))

pub put_or : (k w : ℕ) → bit_or w (2 ^ k) ≡ put_bit true k w
unfolding put_bit
put_or zero w = or_step w 1 ∙ simp or_zero_r (omega arith)
put_or (suc k) w =
    let half : 2 ^ suc k / 2 ≡ 2 ^ k = omega arith in
    let even : 2 ^ suc k % 2 ≡ 0 = omega arith in
    or_step w (2 ^ suc k) ∙ rw (half, even, put_or k (w / 2)) (omega arith)

set-append-add : (xs ys : List Bool) (n : ℕ) (on : Bool) → set (xs ++ ys) (length xs + n) on ≡ xs ++ set ys n on
set-append-add [] ys n on = ap (λ (k : ℕ). set ys k on) (zero-add n)
set-append-add (x ∷ xs) ys n on =
    ap (λ (k : ℕ). set (x ∷ (xs ++ ys)) k on) (suc-add (length xs) n) ∙ ap (λ (r : List Bool). x ∷ r) (set-append-add xs ys n on)

untabbed-append : (xs ys : List Bool) → untabbed (xs ++ ys) ≡ (untabbed xs && untabbed ys)
unfolding untabbed
untabbed-append [] ys = refl
untabbed-append (true ∷ xs) ys = refl
untabbed-append (false ∷ xs) ys = untabbed-append xs ys

-- The tabs of both words.
module _ (t : TabSet) where
  abbrev low : List Bool
  low = word_tabs 64 t.low

  abbrev high : List Bool
  high = word_tabs 64 t.high

  pub length_tabs : length (line_tabs t) ≡ 128
  unfolding line_tabs
  length_tabs = simp (length-append, length-word)

  low_long : (k : ℕ) → k < 64 → k < length low
  low_long k h = simp length-word h

  -- a place in the high word, as one in both
  past_low : (k : ℕ) → 64 ≤ k → k ≡ length low + (k - 64)
  past_low k h = simp length-word (omega arith)

  pub low_tab : (k : ℕ) → k < 64 → get_or (line_tabs t) k false ≡ eqb (t.low / 2 ^ k % 2) 1
  unfolding line_tabs
  low_tab k h = get_or-append low high false k (low_long k h) ∙ word_at 64 t.low k h

  pub high_tab : (k : ℕ) → 64 ≤ k → k < 128 → get_or (line_tabs t) k false ≡ eqb (t.high / 2 ^ (k - 64) % 2) 1
  unfolding line_tabs
  high_tab k h l =
      ap (λ (n : ℕ). get_or (low ++ high) n false) (past_low k h) ∙ get_or-append-add low high (k - 64) false ∙ word_at 64 t.high (k - 64) (omega arith)

  pub past_tab : (k : ℕ) → 128 ≤ k → get_or (line_tabs t) k false ≡ false
  past_tab k h = get_or-eq_default (line_tabs t) false (simp length_tabs h)

  module _ (below : (t.low < 2 ^ 64) × (t.high < 2 ^ 64)) (k : ℕ) where
    pub untabbed_low : k < 64 → untabbed (drop k (line_tabs t)) ≡ (eqb (t.low / 2 ^ k) 0 && eqb t.high 0)
    unfolding line_tabs
    untabbed_low h =
        ap untabbed (drop-append-le k low high (omega (arith, low_long k h)))
        ∙ untabbed-append (drop k low) high
        ∙ ap₂ ◌&&◌ (untabbed_from 64 t.low k (omega arith) below.0) (untabbed-word 64 t.high below.1)

    pub untabbed_high : 64 ≤ k → k < 128 → untabbed (drop k (line_tabs t)) ≡ eqb (t.high / 2 ^ (k - 64)) 0
    unfolding line_tabs
    untabbed_high h l =
        ap (λ (n : ℕ). untabbed (drop n (low ++ high))) (past_low k h)
        ∙ ap untabbed (drop-append-add low high (k - 64))
        ∙ untabbed_from 64 t.high (k - 64) (omega arith) below.1

  pub untabbed_past : (k : ℕ) → 128 ≤ k → untabbed (drop k (line_tabs t)) ≡ true
  unfolding untabbed
  untabbed_past k h = ap untabbed (drop_of_length-le (line_tabs t) {i = k} (simp length_tabs h))

  put_tested : (on : Bool) (k : ℕ) (a b : Bool) → ltb k 64 ≡ a → ltb k 128 ≡ b → line_tabs (with_tab on k t) ≡ set (line_tabs t) k on
  unfolding with_tab line_tabs
  put_tested on k true b p q =
      simp p (ap (λ (xs : List Bool). xs ++ high) (put_word on k 64 t.low) ∙ sym (set-append_left low high k on (low_long k (ltb-true _ _ p))))
  put_tested on k false true p q =
      simp (p, q)
      (ap (λ (xs : List Bool). low ++ xs) (put_word on (k - 64) 64 t.high)
      ∙ sym (set-append-add low high (k - 64) on)
      ∙ sym (ap (λ (n : ℕ). set (low ++ high) n on) (past_low k (ltb-false _ _ p))))
  put_tested on k false false p q = simp (p, q) (sym (set_out (line_tabs t) k on (simp length_tabs (ltb-false _ _ q))))

-- THE LAW: a tab set or cleared in the words is one set or cleared in the list
pub put_tab : (on : Bool) (k : ℕ) (t : TabSet) → line_tabs (with_tab on k t) ≡ set (line_tabs t) k on
put_tab on k t = put_tested t on k (ltb k 64) (ltb k 128) refl refl

-- the bits of a word from bit n on go with its rest by 2 ^ n
below-pow : (n i : ℕ) → n ≤ i → 2 ^ n ≤ 2 ^ i
below-pow n i h = go (dec_lt n i)
  where
    go : Dec (n < i) → 2 ^ n ≤ 2 ^ i
    go (yes l) = omega (arith, pow-lt l)
    go (no l) = let q : n ≡ i = omega arith in omega (arith, ap (λ (k : ℕ). 2 ^ k) q)

rest_bit : (w n i : ℕ) → n ≤ i → eqb (w % 2 ^ n / 2 ^ i % 2) 1 ≡ false
rest_bit w n i h =
    let less : w % 2 ^ n < 2 ^ i = omega (arith, mod-lt w (pow_pos n), below-pow n i h) in
    ap (λ (x : ℕ). eqb (x % 2) 1) (div-eq_of_lt less)

none_bit : (i : ℕ) → eqb (0 / 2 ^ i % 2) 1 ≡ false
none_bit i = ap (λ (x : ℕ). eqb (x % 2) 1) (div-eq_of_lt (pow_pos i))

-- the tabs of the first n lines have none from line n + 1 on
module _ (n : ℕ) (t : TabSet) (i : ℕ) (past : n ≤ i) where
  cut_off : (a b c : Bool) → ltb n 64 ≡ a → ltb i 64 ≡ b → ltb i 128 ≡ c → get_or (line_tabs (tabs_through n t)) i false ≡ false
  unfolding tabs_through
  cut_off a b false p q r = past_tab (tabs_through n t) i (ltb-false _ _ r)
  cut_off true true true p q r = rw p (low_tab _ i (ltb-true _ _ q) ∙ rest_bit t.low n i past)
  cut_off true false true p q r = rw p (high_tab _ i (ltb-false _ _ q) (ltb-true _ _ r) ∙ none_bit (i - 64))
  cut_off false true true p q r = absurd (omega (arith, ltb-false n 64 p, ltb-true i 64 q))
  cut_off false false true p q r = rw p (high_tab _ i (ltb-false _ _ q) (ltb-true _ _ r) ∙ rest_bit t.high (n - 64) (i - 64) (omega arith))

  pub past_through : get_or (line_tabs (tabs_through n t)) i false ≡ false
  past_through = cut_off _ _ _ refl refl refl
