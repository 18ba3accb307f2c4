-- The columns of a line struck some at a time, and where those struck at once stand on the page.
use Prim.Native.Nat.{ℕ, ◌+◌, ◌*◌, ◌/◌, ◌%◌, ◌≤◌, ◌<◌}
use mathlib.Core.Path.{◌≡◌, sym, ap, ap₂, ◌∙◌}
use mathlib.Core.List.{List, [], ◌∷◌, ◌++◌, append_assoc}
use native.Mathlib.Omega.{arith}
use native.Mathlib.Nat.{add-zero, zero-add, mul_assoc}
use lib.ListN.{length, take, drop, length-drop, take-append-drop}
use lib.Seq.{length-take-le, take-append-le, drop-append-le, drop-drop, drop-length}
use Rattle.sheet.specs.declared.Grid.{Grid}
use Rattle.sheet.specs.declared.Model.{Model}
use Rattle.sheet.specs.declared.Model.TheVariants.{Lp2, Dg6215}
use Rattle.sheet.specs.declared.Pitch.{Pitch}
use Rattle.sheet.specs.declared.Pitch.TheVariants.{Normal, Compressed}
use Rattle.sheet.specs.declared.Row.{Row}
use Rattle.sheet.specs.Edition.{Edition, apart_by, described, dg6215, lp2}
use Rattle.sheet.specs.Dots.{blacken_all, page_byte, dot_at, column_marks, line_marks, marks, struck}
use Rattle.sheet.proofs.Editions.{described_proper}
use Rattle.sheet.proofs.Blackening.{blacken_all-append, length-blacken_all}
use Rattle.striking.specs.Room.{Room}

-- How many positions fill whole bytes of a row and are struck at once.
abbrev pub at_once : Model → ℕ
at_once Lp2 = 8
at_once Dg6215 = 16

-- W is a multiple of so many, so from a multiple below W on, so many positions are below W
once_below : (w : Model) (pitch : Pitch) (c : ℕ) → c % at_once w ≡ 0 → c < (described w).width pitch → c + at_once w ≤ (described w).width pitch
unfolding lp2 dg6215
once_below Lp2 Normal c h l = omega arith
once_below Lp2 Compressed c h l = omega arith
once_below Dg6215 pitch c h l = omega arith

-- and so they are on the line
pub on_line : (w : Model) (line : List ℕ) (pitch : Pitch) (c : ℕ) → c % at_once w ≡ 0 → c < (described w).width pitch
    → length line ≡ (described w).columns → c + at_once w ≤ length line
on_line w line pitch c h l full = omega (arith, once_below w pitch c h l, (described_proper w).wide pitch)

-- a multiple of a multiple of eight is eight times that multiple of its eighth
by_eighths : (n c : ℕ) → c % 8 ≡ 0 → n * c ≡ n * (c / 8) * 8
by_eighths n c h =
    let whole : c ≡ c / 8 * 8 = omega arith in
    ap (λ (k : ℕ). n * k) whole ∙ sym (mul_assoc n (c / 8) 8)

-- how many bytes of a row they take
abbrev pub taken : Model → Pitch → ℕ
taken Lp2 pitch = apart_by pitch
taken Dg6215 pitch = 2

-- a position whose number is a multiple of so many stands at the top of a byte
at_top : (w : Model) (pitch : Pitch) (c : ℕ) → c % at_once w ≡ 0 → ((described w).grid pitch c).0 ≡ taken w pitch * (c / at_once w) * 8
unfolding lp2 dg6215
at_top Lp2 pitch c h = by_eighths (apart_by pitch) c h
at_top Dg6215 pitch c h = omega arith

-- from there on so many positions below W are within the row
filled : (w : Model) (pitch : Pitch) (c : ℕ) → c % at_once w ≡ 0 → c < (described w).width pitch
    → taken w pitch * (c / at_once w) + taken w pitch ≤ (described w).bytes
unfolding lp2 dg6215
filled Lp2 Normal c h l = omega arith
filled Lp2 Compressed c h l = omega arith
filled Dg6215 pitch c h l = omega arith

-- The positions struck at once from c on begin at the top of byte `at`, in the row of their wire 1, and their nine rows are on the page.
pub record Placed (w : Model) (page : List ℕ) (row : Row) (pitch : Pitch) (c at : ℕ) : Type 0 where
  pub top : at * 8 ≡ dot_at (described w) row ((described w).grid pitch c)
  pub fits : at + 8 * (described w).bytes + taken w pitch ≤ length page

-- so they do in a row from which on there is room, at the byte that the position's place on the grid gives
pub placed : (w : Model) (page line : List ℕ) (row : Row) (p q : Pitch) (c : ℕ) (g : Grid) (at : ℕ) → Room (described w) page line row
    → c % at_once w ≡ 0 → c < (described w).width p → p ≡ q → g ≡ (described w).grid p c → at ≡ page_byte (described w) row g
    → Placed w page row q c at
unfolding dot_at page_byte
placed w page line row p q c g at room h l same e byte =
    let here : g.0 ≡ taken w p * (c / at_once w) * 8 = ap (λ (k : Grid). k.0) e ∙ at_top w p c h in
    let spot : g.0 ≡ ((described w).grid q c).0 = ap (λ (k : Grid). k.0) e ∙ ap (λ (k : Pitch). ((described w).grid k c).0) same in
    record {
      top = omega arith;
      fits = omega (arith, filled w p c h l, room.rows, ap (taken w) same);
    }

-- the dots of some columns and of others after them
line-append : (e : Edition) (xs ys : List ℕ) (pitch : Pitch) (r : Row) (c : ℕ)
    → line_marks e (xs ++ ys) pitch r c ≡ line_marks e xs pitch r c ++ line_marks e ys pitch r (c + length xs)
unfolding line_marks
line-append e [] ys pitch r c = ap (line_marks e ys pitch r) (sym (add-zero c))
line-append e (x ∷ xs) ys pitch r c =
    let count : c + 1 + length xs ≡ c + length (x ∷ xs) = omega arith in
    ap (λ (l : List ℕ). column_marks e x r (e.grid pitch c) ++ l)
    (line-append e xs ys pitch r (c + 1) ∙ ap (λ (k : ℕ). line_marks e xs pitch r (c + 1) ++ line_marks e ys pitch r k) count)
    ∙ sym (append_assoc (column_marks e x r (e.grid pitch c)) (line_marks e xs pitch r (c + 1)) (line_marks e ys pitch r (c + length (x ∷ xs))))

-- Of some columns, the first of which is column c, the first n are struck: those left make of the page what all make of it at entry, and it keeps
-- its length.
pub record Left (e : Edition) (columns : List ℕ) (pitch : Pitch) (r : Row) (c : ℕ) (entry : List ℕ) (n : ℕ) (page : List ℕ) : Type 0 where
  pub same : blacken_all page (line_marks e (drop n columns) pitch r (c + n)) ≡ blacken_all entry (line_marks e columns pitch r c)
  pub within : n ≤ length columns
  pub kept : length page ≡ length entry

module _ (e : Edition) (columns : List ℕ) (pitch : Pitch) (r : Row) (c : ℕ) (entry : List ℕ) where
  -- once the m columns that are next are struck, those after them are left
  pub some_struck : (page next : List ℕ) (n m : ℕ) → n + m ≤ length columns → Left e columns pitch r c entry n page
      → next ≡ blacken_all page (line_marks e (take m (drop n columns)) pitch r (c + n)) → Left e columns pitch r c entry (n + m) next
  some_struck page next n m inside left is =
      let some : List ℕ = take m (drop n columns) in
      let rest : List ℕ = drop (n + m) columns in
      let long : length some ≡ m = length-take-le m (drop n columns) (omega (arith, length-drop n columns)) in
      let place : c + (n + m) ≡ c + n + length some = omega arith in
      let parts : some ++ rest ≡ drop n columns = ap (λ (l : List ℕ). some ++ l) (sym (drop-drop m n columns)) ∙ take-append-drop m (drop n columns) in
      record {
        same =
            ap₂ (λ (p : List ℕ) (k : ℕ). blacken_all p (line_marks e rest pitch r k)) is place
            ∙ sym (blacken_all-append page (line_marks e some pitch r (c + n)) (line_marks e rest pitch r (c + n + length some)))
            ∙ ap (blacken_all page) (sym (line-append e some rest pitch r (c + n)))
            ∙ ap (λ (l : List ℕ). blacken_all page (line_marks e l pitch r (c + n))) parts
            ∙ left.same;
        within = inside;
        kept = ap length is ∙ length-blacken_all page _ ∙ left.kept;
      }

  -- at the end none is left
  pub none_left : (page : List ℕ) (n : ℕ) → Left e columns pitch r c entry n page → length columns ≤ n
      → page ≡ blacken_all entry (line_marks e columns pitch r c)
  unfolding blacken_all line_marks
  none_left page n left end =
      let last : n ≡ length columns = omega (arith, left.within) in
      let none : drop n columns ≡ [] = ap (λ (k : ℕ). drop k columns) last ∙ drop-length columns in
      sym (ap (λ (l : List ℕ). blacken_all page (line_marks e l pitch r (c + n))) none) ∙ left.same

-- of the columns below w, n from c on are n of the line
part_of : (line : List ℕ) (w c n : ℕ) → w ≤ length line → c + n ≤ w → take n (drop c line) ≡ take n (drop c (take w line))
part_of line w c n within inside =
    let low : List ℕ = take w line in
    let size : length low ≡ w = length-take-le w line within in
    ap (λ (l : List ℕ). take n (drop c l)) (sym (take-append-drop w line))
    ∙ ap (take n) (drop-append-le c low (drop w line) (omega arith))
    ∙ take-append-le n (drop c low) (drop w line) (omega (arith, length-drop c low))

-- How many positions are struck together: as many of an LP2 as are struck at once, and of a 6215 eighty, sixteens of which are struck at once.
abbrev pub together : Model → ℕ
together Lp2 = 8
together Dg6215 = 80

-- W is a multiple of so many
together_below : (w : Model) (pitch : Pitch) (c : ℕ) → c % together w ≡ 0 → c < (described w).width pitch → c + together w ≤ (described w).width pitch
unfolding dg6215
together_below Lp2 pitch c h l = once_below Lp2 pitch c h l
together_below Dg6215 pitch c h l = omega arith

together_next : (w : Model) (c : ℕ) → c % together w ≡ 0 → (c + together w) % together w ≡ 0
together_next Lp2 c h = omega arith
together_next Dg6215 c h = omega arith

-- The positions before c of a line are struck, so many at a time.
pub record Walked (w : Model) (line : List ℕ) (pitch : Pitch) (r : Row) (entry : List ℕ) (c : ℕ) (page : List ℕ) : Type 0 where
  pub left : Left (described w) (take ((described w).width pitch) line) pitch r 0 entry c page
  pub whole : c % together w ≡ 0

module _ (w : Model) (line : List ℕ) (pitch : Pitch) (r : Row) (entry : List ℕ) where
  -- so many positions more
  pub walked_more : (page next : List ℕ) (c : ℕ) → length line ≡ (described w).columns → Walked w line pitch r entry c page
      → c < (described w).width pitch → next ≡ blacken_all page (line_marks (described w) (take (together w) (drop c line)) pitch r c)
      → Walked w line pitch r entry (c + together w) next
  walked_more page next c full walked below is =
      let e : Edition = described w in
      let width : ℕ = e.width pitch in
      let within : width ≤ length line = omega (arith, (described_proper w).wide pitch) in
      let inside : c + together w ≤ width = together_below w pitch c walked.whole below in
      let long : length (take width line) ≡ width = length-take-le width line within in
      let same =
      ap₂ (λ (l : List ℕ) (k : ℕ). blacken_all page (line_marks e l pitch r k)) (part_of line width c (together w) within inside) (sym (zero-add c)) in
      record {
        left = some_struck e (take width line) pitch r 0 entry page next c (together w) (omega arith) walked.left (is ∙ same);
        whole = together_next w c walked.whole;
      }

  -- at W the line is struck
  pub all_walked : (page : List ℕ) (c : ℕ) → length line ≡ (described w).columns → Walked w line pitch r entry c page
      → (described w).width pitch ≤ c → page ≡ struck (described w) entry line r pitch
  unfolding struck marks
  all_walked page c full walked end =
      let width : ℕ = (described w).width pitch in
      let long : length (take width line) ≡ width = length-take-le width line (omega (arith, (described_proper w).wide pitch)) in
      none_left (described w) (take width line) pitch r 0 entry page c walked.left (omega arith)

-- eighty positions of a 6215 from a multiple of eighty on are on the line
pub eighty_on_line : (line : List ℕ) (pitch : Pitch) (c : ℕ) → c % 80 ≡ 0 → c < dg6215.width pitch → length line ≡ dg6215.columns
    → c + 80 ≤ length line
eighty_on_line line pitch c h l full = omega (arith, together_below Dg6215 pitch c h l, (described_proper Dg6215).wide pitch)

-- Of the eighty positions from c on of a line of a 6215, the first k are struck, sixteens of them.
pub record EightyLeft (line : List ℕ) (pitch : Pitch) (r : Row) (c : ℕ) (entry : List ℕ) (k : ℕ) (page : List ℕ) : Type 0 where
  pub left : Left dg6215 (take 80 (drop c line)) pitch r c entry k page
  pub whole : k % 16 ≡ 0

module _ (line : List ℕ) (pitch : Pitch) (r : Row) (c : ℕ) (entry : List ℕ) (inside : c + 80 ≤ length line) where
  -- sixteen positions more
  pub sixteen_more : (page next : List ℕ) (k : ℕ) → EightyLeft line pitch r c entry k page → k < 80
      → next ≡ blacken_all page (line_marks dg6215 (take 16 (drop (c + k) line)) pitch r (c + k)) → EightyLeft line pitch r c entry (k + 16) next
  sixteen_more page next k eighty more is =
      let long : length (take 80 (drop c line)) ≡ 80 = length-take-le 80 (drop c line) (omega (arith, length-drop c line)) in
      let fit : k + 16 ≤ 80 = omega (arith, eighty.whole) in
      let same : take 16 (drop (c + k) line) ≡ take 16 (drop k (take 80 (drop c line))) =
      ap (take 16) (sym (drop-drop k c line)) ∙ part_of (drop c line) 80 k 16 (omega (arith, length-drop c line)) fit in
      record {
        left =
            some_struck dg6215 (take 80 (drop c line)) pitch r c entry page next k 16 (omega arith) eighty.left
            (is ∙ ap (λ (l : List ℕ). blacken_all page (line_marks dg6215 l pitch r (c + k))) same);
        whole = omega (arith, eighty.whole);
      }

  -- after the eightieth none is left
  pub eighty_struck : (page : List ℕ) (k : ℕ) → EightyLeft line pitch r c entry k page → 80 ≤ k
      → page ≡ blacken_all entry (line_marks dg6215 (take 80 (drop c line)) pitch r c)
  eighty_struck page k eighty end =
      let long : length (take 80 (drop c line)) ≡ 80 = length-take-le 80 (drop c line) (omega (arith, length-drop c line)) in
      none_left dg6215 (take 80 (drop c line)) pitch r c entry page k eighty.left (omega arith)
