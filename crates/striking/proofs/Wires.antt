-- The nine wires of some columns, joined to a page one after the other, each a row below the one before.
use Prim.Native.Nat.{ℕ, zero, suc, ◌+◌, ◌-◌, ◌*◌, ◌/◌, ◌%◌, ◌^◌, ◌<◌}
use mathlib.Core.Path.{◌≡◌, refl, sym, subst, ap, ap₂, ◌∙◌}
use mathlib.Core.List.{List, [], ◌∷◌}
use native.Mathlib.Omega.{arith}
use native.Mathlib.Nat.{zero-add, mod-lt, div-add-mod', div-lt_iff_lt-mul}
use lib.ListN.{length, get_or}
use Rattle.sheet.specs.declared.Pitch.{Pitch}
use Rattle.sheet.specs.declared.Pitch.TheVariants.{Normal, Compressed}
use Rattle.sheet.specs.declared.Row.{Row}
use Rattle.sheet.specs.Edition.{Edition, apart_by, lp2}
use Rattle.sheet.specs.Dots.{blacken_all, dot_at, line_marks}
use Rattle.striking.specs.Groups.{fields, wire_dots, join}
use Rattle.sheet.proofs.Blackening.{blacken_all-append}
use Rattle.striking.proofs.Grouping.{wire_row, wire-joined, rows, rows_line}

-- byte `at`, n rows lower: by clauses, so that with numbers for n it is what the code writes
unfoldable pub row_at : Edition → ℕ → ℕ → ℕ
row_at e at zero = at
row_at e at (suc n) = at + suc n * e.bytes

-- a row is so many bytes
pub row_is : (e : Edition) (at n : ℕ) → row_at e at n ≡ at + n * e.bytes
unfolding row_at
row_is e at zero = omega arith
row_is e at (suc n) = refl

-- a page with the n topmost of nine wires joined, from byte `at` on: the wire at bit k as the m lowest bytes of the number `dots k`
unfoldable pub wired : Edition → ℕ → (ℕ → ℕ) → ℕ → List ℕ → ℕ → List ℕ
wired e m dots at page zero = page
wired e m dots at page (suc n) = join (wired e m dots at page n) (row_at e at n) m (dots (8 - n))

module _ (e : Edition) (m : ℕ) (dots : ℕ → ℕ) (at : ℕ) (page : List ℕ) where
  -- one wire more
  pub next_wired : {before next : List ℕ} (n : ℕ) → before ≡ wired e m dots at page n
      → next ≡ join before (row_at e at n) m (dots (8 - n)) → next ≡ wired e m dots at page (suc n)
  unfolding wired
  next_wired n so_far q = q ∙ ap (λ (p : List ℕ). join p (row_at e at n) m (dots (8 - n))) so_far

  -- eight wires, one after the other
  pub eight_wired : {a b c d f g h i : List ℕ} → a ≡ join page at m (dots 8)
      → b ≡ join a (at + 1 * e.bytes) m (dots 7) → c ≡ join b (at + 2 * e.bytes) m (dots 6)
      → d ≡ join c (at + 3 * e.bytes) m (dots 5) → f ≡ join d (at + 4 * e.bytes) m (dots 4)
      → g ≡ join f (at + 5 * e.bytes) m (dots 3) → h ≡ join g (at + 6 * e.bytes) m (dots 2)
      → i ≡ join h (at + 7 * e.bytes) m (dots 1) → i ≡ wired e m dots at page 8
  unfolding wired row_at
  eight_wired p q r s t u v w = cc

  -- Each number joined strikes its wire of some columns, whose dots are s apart.
  abbrev pub Strikes : List ℕ → ℕ → Type 0
  Strikes columns s = (before : List ℕ) (i k : ℕ) → k < 9 → join before i m (dots k) ≡ blacken_all before (wire_row k columns (i * 8) s)

  module _ (columns : List ℕ) (s : ℕ) (strikes : Strikes columns s) where
    -- once n wires are struck, the others make of the page what all nine make of it at entry
    wires_left : (n k : ℕ) → n + k ≡ 9
        → blacken_all (wired e m dots at page n) (rows e k columns ((at + n * e.bytes) * 8) s) ≡ blacken_all page (rows e 9 columns (at * 8) s)
    unfolding wired rows
    wires_left zero k q =
        let nine : k ≡ 9 = omega arith in
        let top : (at + 0 * e.bytes) * 8 ≡ at * 8 = omega arith in
        ap₂ (λ (j d : ℕ). blacken_all page (rows e j columns d s)) nine top
    wires_left (suc n) k q =
        let before : List ℕ = wired e m dots at page n in
        let this : 8 - n ≡ k = omega arith in
        let lower : (at + suc n * e.bytes) * 8 ≡ (at + n * e.bytes) * 8 + e.bytes * 8 = omega arith in
        let struck : wired e m dots at page (suc n) ≡ blacken_all before (wire_row k columns ((at + n * e.bytes) * 8) s) =
        ap₂ (λ (i j : ℕ). join before i m (dots j)) (row_is e at n) this ∙ strikes before (at + n * e.bytes) k (omega arith) in
        ap₂ (λ (p : List ℕ) (d : ℕ). blacken_all p (rows e k columns d s)) struck lower
        ∙ sym (blacken_all-append before (wire_row k columns ((at + n * e.bytes) * 8) s) (rows e k columns ((at + n * e.bytes) * 8 + e.bytes * 8) s))
        ∙ wires_left n (suc k) (omega arith)

    -- all nine wires joined are the columns struck
    pub nine_wired : (pitch : Pitch) (r : Row) (c : ℕ) → ((k : ℕ) → (e.grid pitch (k + 1)).0 ≡ (e.grid pitch k).0 + s)
        → at * 8 ≡ dot_at e r (e.grid pitch c) → wired e m dots at page 9 ≡ blacken_all page (line_marks e columns pitch r c)
    unfolding rows blacken_all
    nine_wired pitch r c apart place = wires_left 9 0 (omega arith) ∙ rows_line e pitch s apart page columns r c (at * 8) place

-- the dots of the wire at bit n: each of the numbers `held` holds s wires, the first the lowest
abbrev pub wire_in : ℕ → List ℕ → ℕ → ℕ
wire_in s held n = wire_dots (2 ^ s) (get_or held (n / s) 0) (n % s)

-- number k of them has, in fields of s bits, some columns' bits from bit k * s on
abbrev Holds : ℕ → List ℕ → List ℕ → ℕ → Type 0
Holds s columns held k = get_or held k 0 ≡ fields (2 ^ s) (k * s) columns 0

-- numbers that hold nine bits of eight columns strike each wire of them
held_strikes : (z : ℕ) (held columns : List ℕ) → length columns ≡ 8 → ((n : ℕ) → n < 9 → Holds (suc z) columns held (n / suc z))
    → (before : List ℕ) (i n : ℕ) → n < 9 → join before i (suc z) (wire_in (suc z) held n) ≡ blacken_all before (wire_row n columns (i * 8) (suc z))
held_strikes z held columns eight holds before i n l =
    let which : ℕ = n / suc z in
    wire-joined before columns i z (which * suc z) (n % suc z) (get_or held which 0) eight (mod-lt n (omega arith)) (holds n l)
    ∙ ap (λ (j : ℕ). blacken_all before (wire_row j columns (i * 8) (suc z))) (div-add-mod' n (suc z))

-- all nine wires of eight columns of an LP2 joined are the columns struck
struck_in : (pitch : Pitch) (held columns page : List ℕ) (r : Row) (c at : ℕ) → length columns ≡ 8
    → ((n : ℕ) → n < 9 → Holds (apart_by pitch) columns held (n / apart_by pitch)) → at * 8 ≡ dot_at lp2 r (lp2.grid pitch c)
    → wired lp2 (apart_by pitch) (wire_in (apart_by pitch) held) at page 9 ≡ blacken_all page (line_marks lp2 columns pitch r c)
unfolding lp2
struck_in Normal held columns page r c at eight holds place =
    nine_wired lp2 5 _ at page columns 5 (held_strikes 4 held columns eight holds) Normal r c (λ k. omega arith) place
struck_in Compressed held columns page r c at eight holds place =
    nine_wired lp2 3 _ at page columns 3 (held_strikes 2 held columns eight holds) Compressed r c (λ k. omega arith) place

-- the same where each number holds suc z wires
abbrev pub wire_of : ℕ → List ℕ → ℕ → ℕ
wire_of z held n = wire_dots (2 ^ suc z) (get_or held (n / suc z) 0) (n % suc z)

-- some numbers are the fields of some columns, from field i on
abbrev pub Held : ℕ → List ℕ → ℕ → List ℕ → Type 0
Held z columns i [] = Unit {0}
Held z columns i (f ∷ fs) = (f ≡ fields (2 ^ suc z) (i * suc z) columns 0) × Held z columns (i + 1) fs

-- so number k of them is field i + k
held_at : (z : ℕ) (columns : List ℕ) (i : ℕ) (held : List ℕ) (k : ℕ) → Held z columns i held → k < length held
    → get_or held k 0 ≡ fields (2 ^ suc z) ((i + k) * suc z) columns 0
held_at z columns i [] k h l = absurd (omega arith)
held_at z columns i (f ∷ fs) zero h l = h.0 ∙ ap (λ (n : ℕ). fields (2 ^ suc z) (n * suc z) columns 0) (omega arith)
held_at z columns i (f ∷ fs) (suc k) h l =
    let count : i + 1 + k ≡ i + suc k = omega arith in
    held_at z columns (i + 1) fs k h.1 (omega arith) ∙ ap (λ (n : ℕ). fields (2 ^ suc z) (n * suc z) columns 0) count

-- how far apart columns stand, less one
unfoldable pub between : Pitch → ℕ
between pitch = apart_by pitch - 1

-- as many numbers as have more than eight wires in all hold every one of nine
held_all : (z : ℕ) (held columns : List ℕ) → 8 < length held * suc z → Held z columns 0 held → (n : ℕ) → n < 9
    → Holds (suc z) columns held (n / suc z)
held_all z held columns many holds n l =
    let which : ℕ = n / suc z in
    let inside : which < length held = (div-lt_iff_lt-mul {k = suc z} (omega arith)).1 (omega arith) in
    held_at z columns 0 held which holds inside ∙ ap (λ (k : ℕ). fields (2 ^ suc z) (k * suc z) columns 0) (zero-add which)

-- all nine wires of eight columns of an LP2 joined are the columns struck, with no number more than the wires want
pub wires_struck : (pitch : Pitch) (held columns page : List ℕ) (r : Row) (c at : ℕ) → length columns ≡ 8
    → 8 < length held * suc (between pitch) → Held (between pitch) columns 0 held → at * 8 ≡ dot_at lp2 r (lp2.grid pitch c)
    → wired lp2 (suc (between pitch)) (wire_of (between pitch) held) at page 9 ≡ blacken_all page (line_marks lp2 columns pitch r c)
unfolding between
wires_struck Normal held columns page r c at eight many holds place =
    struck_in Normal held columns page r c at eight (held_all 4 held columns many holds) place
wires_struck Compressed held columns page r c at eight many holds place =
    struck_in Compressed held columns page r c at eight (held_all 2 held columns many holds) place

-- three numbers hold some columns: number k has, in fields of s bits, those from bit k * s on
abbrev pub ThreeHeld : ℕ → List ℕ → List ℕ → Type 0
ThreeHeld s columns held = (k : ℕ) → k < 3 → Holds s columns held k

pub three_held : (s : ℕ) {low middle high : ℕ} (columns : List ℕ) → low ≡ fields (2 ^ s) 0 columns 0 → middle ≡ fields (2 ^ s) s columns 0
    → high ≡ fields (2 ^ s) (2 * s) columns 0 → ThreeHeld s columns (low ∷ middle ∷ high ∷ [])
three_held s columns l m h zero below = l ∙ ap (λ (n : ℕ). fields (2 ^ s) n columns 0) (omega arith)
three_held s columns l m h (suc zero) below = m ∙ ap (λ (n : ℕ). fields (2 ^ s) n columns 0) (omega arith)
three_held s columns l m h (suc (suc zero)) below = h
three_held s columns l m h (suc (suc (suc k))) below = absurd (omega arith)

-- the same of three numbers, of which the last may have no wire
pub three_struck : (s : ℕ) (pitch : Pitch) (held columns page : List ℕ) (r : Row) (c at : ℕ) → s ≡ apart_by pitch → length columns ≡ 8
    → ThreeHeld s columns held → at * 8 ≡ dot_at lp2 r (lp2.grid pitch c)
    → wired lp2 s (wire_in s held) at page 9 ≡ blacken_all page (line_marks lp2 columns pitch r c)
three_struck s pitch held columns page r c at is eight holds place =
    let by : ThreeHeld (apart_by pitch) columns held = subst (λ (n : ℕ). ThreeHeld n columns held) is holds in
    ap (λ (n : ℕ). wired lp2 n (wire_in n held) at page 9) is
    ∙ struck_in pitch held columns page r c at eight (λ (n : ℕ) (l : n < 9). by (n / apart_by pitch) (third pitch n l)) place
  where
    third : (pitch : Pitch) (n : ℕ) → n < 9 → n / apart_by pitch < 3
    third Normal n l = (div-lt_iff_lt-mul {k = 5} (omega arith)).1 (omega arith)
    third Compressed n l = (div-lt_iff_lt-mul {k = 3} (omega arith)).1 (omega arith)
