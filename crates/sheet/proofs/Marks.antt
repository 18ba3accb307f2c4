-- Which dots are the marks of a line, in any edition.
use Prim.Native.Nat.{ℕ, zero, suc, ◌+◌, ◌-◌, ◌*◌, ◌/◌, ◌≤◌, ◌<◌}
use mathlib.Core.Path.{◌≡◌, refl, sym, ap, ◌∙◌, subst}
use mathlib.Core.Logic.{inl, inr, ⊎_elim, ◌↔◌}
use mathlib.Core.List.{List, [], ◌∷◌}
use native.Mathlib.Omega.{arith}
use native.Mathlib.Nat.{mul-le-mul_right, zero-add}
use native.Mathlib.Decide.{dec_lt}
use lib.ListN.{length, get_or, take}
use Rattle.sheet.specs.declared.Form.{Form}
use Rattle.sheet.specs.declared.Grid.{Grid}
use Rattle.sheet.specs.declared.Pitch.{Pitch}
use Rattle.sheet.specs.declared.Row.{Row}
use Rattle.sheet.specs.Edition.{Edition}
use Rattle.sheet.specs.Form.{form_rows, lower, page_bytes}
use Rattle.sheet.specs.Dots.{bit, mark_if, dot_at, wire_marks, column_marks, line_marks, marks, In, OnForm, Strikes}
use Rattle.sheet.specs.Pass.{marks_at}
use Rattle.sheet.proofs.Editions.{Proper}
use Rattle.sheet.proofs.Bits.{bit_lt}
use Rattle.sheet.proofs.Blackening.{in_left, in_right, in_append}

-- a dot of a form is within the bits of its page
pub on-page : {e : Edition} {f : Form} {d : ℕ} → OnForm e f d → d < 8 * page_bytes e f
unfolding dot_at page_bytes
on-page {e} {f} {d} h =
    let under : suc h.row.0 * e.bytes ≤ form_rows f * e.bytes = mul-le-mul_right e.bytes h.above in
    omega (arith, h.inside, h.is)

-- in rows of w dots, a dot's number tells its row and its position
same_place : (w r₁ r₂ g₁ g₂ : ℕ) → g₁ < w → g₂ < w → r₁ * w + g₁ ≡ r₂ * w + g₂ → (r₁ ≡ r₂) × (g₁ ≡ g₂)
same_place w r₁ r₂ g₁ g₂ l₁ l₂ q = go (dec_lt r₁ r₂) (dec_lt r₂ r₁)
  where
    go : Dec (r₁ < r₂) → Dec (r₂ < r₁) → (r₁ ≡ r₂) × (g₁ ≡ g₂)
    go (yes above) k = absurd (let m : suc r₁ * w ≤ r₂ * w = mul-le-mul_right w above in omega arith)
    go (no h) (yes under) = absurd (let m : suc r₂ * w ≤ r₁ * w = mul-le-mul_right w under in omega arith)
    go (no h) (no k) =
        let rows : r₁ ≡ r₂ = omega arith in
        let starts : r₁ * w ≡ r₂ * w = ap (λ (r : ℕ). r * w) rows in
        (rows, omega arith)

-- a mark of a list is one of the list with a mark before it
in_mark_if : (b x d : ℕ) (ds : List ℕ) → In d ds → In d (mark_if b x ds)
unfolding mark_if
in_mark_if zero x d ds p = p
in_mark_if (suc b) x d ds p = inr p

module _ (e : Edition) where
  -- d is the dot of a set wire, m rows below the topmost of n wires
  abbrev Wire : ℕ → ℕ → Row → Grid → ℕ → Type 0
  Wire n column r g d = (m : ℕ) × (m < n) × (bit column (n - (m + 1)) ≡ 1) × (d ≡ dot_at e (lower m r) g)

  -- a dot of the wires below the topmost is one of all of them
  wire_below : (n column : ℕ) (r : Row) (g : Grid) (d : ℕ) → Wire n column (lower 1 r) g d → Wire (suc n) column r g d
  wire_below n column r g d (m, lt, on, is) =
      let a : suc n - (m + 1 + 1) ≡ n - (m + 1) = omega arith in
      let b : r.0 + 1 + m ≡ r.0 + (m + 1) = omega arith in
      (m + 1, omega arith, ap (bit column) a ∙ on, is ∙ ap (λ (k : ℕ). dot_at e (record { 0 = k }) g) b)

  -- every mark of n wires is the dot of a set wire
  wires_to : (n column : ℕ) (r : Row) (g : Grid) (d : ℕ) → In d (wire_marks e n column r g) → Wire n column r g d
  unfolding wire_marks mark_if
  wires_to zero column r g d p = absurd p
  wires_to (suc n) column r g d p = go (wires_to n column (lower 1 r) g d) (bit column n) refl p
    where
      go : (In d (wire_marks e n column (lower 1 r) g) → Wire n column (lower 1 r) g d) → (b : ℕ) → bit column n ≡ b
          → In d (mark_if b (dot_at e r g) (wire_marks e n column (lower 1 r) g)) → Wire (suc n) column r g d
      go below zero q p = wire_below n column r g d (below p)
      go below (suc b) q (inr p) = wire_below n column r g d (below p)
      go below (suc b) q (inl p) =
          let a : suc n - (0 + 1) ≡ n = omega arith in
          let z : r.0 ≡ r.0 + 0 = omega arith in
          let on : bit column n ≡ 1 = omega (arith, bit_lt column n) in
          (0, omega arith, ap (bit column) a ∙ on, p ∙ ap (λ (k : ℕ). dot_at e (record { 0 = k }) g) z)

  -- the dot of every set wire is a mark of the n wires
  wires_from : (n column : ℕ) (r : Row) (g : Grid) (d : ℕ) → Wire n column r g d → In d (wire_marks e n column r g)
  unfolding wire_marks mark_if
  wires_from zero column r g d (m, lt, on, is) = absurd (omega arith)
  wires_from (suc n) column r g d (zero, lt, on, is) =
      let a : n ≡ suc n - (0 + 1) = omega arith in
      let z : r.0 + 0 ≡ r.0 = omega arith in
      rw (ap (bit column) a ∙ on) (inl (is ∙ ap (λ (k : ℕ). dot_at e (record { 0 = k }) g) z))
  wires_from (suc n) column r g d (suc m, lt, on, is) =
      let a : n - (m + 1) ≡ suc n - (suc m + 1) = omega arith in
      let z : r.0 + suc m ≡ r.0 + 1 + m = omega arith in
      in_mark_if (bit column n) (dot_at e r g) d (wire_marks e n column (lower 1 r) g)
      (wires_from n column (lower 1 r) g d (m, omega arith, ap (bit column) a ∙ on, is ∙ ap (λ (k : ℕ). dot_at e (record { 0 = k }) g) z))

  -- a column with no wire set has no marks
  pub no_wires : (r : Row) (g : Grid) → column_marks e 0 r g ≡ []
  unfolding column_marks wire_marks mark_if bit
  no_wires r g = refl

  -- d is a mark of the j-th of n columns of a line, the first of which is column c
  abbrev Column : ℕ → List ℕ → Pitch → Row → ℕ → ℕ → Type 0
  Column n line pitch r c d = (j : ℕ) × (j < n) × In d (column_marks e (get_or line j 0) r (e.grid pitch (c + j)))

  -- every mark of n columns of a line is a mark of one of them
  line_to : (n : ℕ) (line : List ℕ) (pitch : Pitch) (r : Row) (c d : ℕ) → In d (line_marks e (take n line) pitch r c) → Column n line pitch r c d
  unfolding line_marks
  line_to zero line pitch r c d p = absurd p
  line_to (suc n) [] pitch r c d p = absurd p
  line_to (suc n) (x ∷ xs) pitch r c d p =
      ⊎_elim here (λ q. later (line_to n xs pitch r (c + 1) d q))
      (in_append d (column_marks e x r (e.grid pitch c)) (line_marks e (take n xs) pitch r (c + 1)) p)
    where
      here : In d (column_marks e x r (e.grid pitch c)) → Column (suc n) (x ∷ xs) pitch r c d
      here q =
          let z : c ≡ c + 0 = omega arith in
          (0, omega arith, subst (λ (k : ℕ). In d (column_marks e x r (e.grid pitch k))) z q)

      later : Column n xs pitch r (c + 1) d → Column (suc n) (x ∷ xs) pitch r c d
      later (j, lt, q) =
          let z : c + 1 + j ≡ c + suc j = omega arith in
          (suc j, omega arith, subst (λ (k : ℕ). In d (column_marks e (get_or xs j 0) r (e.grid pitch k))) z q)

  -- every mark of one of n columns of a line is a mark of them; where the line is too short for the column, it has none
  line_from : (n : ℕ) (line : List ℕ) (pitch : Pitch) (r : Row) (c d : ℕ) → Column n line pitch r c d → In d (line_marks e (take n line) pitch r c)
  unfolding line_marks
  line_from zero line pitch r c d (j, lt, p) = absurd (omega arith)
  line_from (suc n) [] pitch r c d (j, lt, p) = subst (In d) (no_wires r (e.grid pitch (c + j))) p
  line_from (suc n) (x ∷ xs) pitch r c d (zero, lt, p) =
      let z : c + 0 ≡ c = omega arith in
      in_left d (column_marks e x r (e.grid pitch c)) (line_marks e (take n xs) pitch r (c + 1))
      (subst (λ (k : ℕ). In d (column_marks e x r (e.grid pitch k))) z p)
  line_from (suc n) (x ∷ xs) pitch r c d (suc j, lt, p) =
      let z : c + suc j ≡ c + 1 + j = omega arith in
      in_right d (column_marks e x r (e.grid pitch c)) (line_marks e (take n xs) pitch r (c + 1))
      (line_from n xs pitch r (c + 1) d (j, omega arith, subst (λ (k : ℕ). In d (column_marks e (get_or xs j 0) r (e.grid pitch k))) z p))

  -- d is a mark of a column below W of a line
  abbrev pub OfColumn : List ℕ → Row → Pitch → ℕ → Type 0
  OfColumn line r pitch d = (c : ℕ) × (c < e.width pitch) × In d (marks_at e line r pitch c)

  -- the marks of a line are the marks of its columns below W
  pub marks_columns : (line : List ℕ) (r : Row) (pitch : Pitch) (d : ℕ) → In d (marks e line r pitch) ↔ OfColumn line r pitch d
  unfolding marks
  marks_columns line r pitch d =
      (λ p. to (line_to (e.width pitch) line pitch r 0 d p), λ m. line_from (e.width pitch) line pitch r 0 d (from m))
    where
      to : Column (e.width pitch) line pitch r 0 d → OfColumn line r pitch d
      to (c, below, q) = (c, below, subst (λ (k : ℕ). In d (column_marks e (get_or line c 0) r (e.grid pitch k))) (zero-add c) q)

      from : OfColumn line r pitch d → Column (e.width pitch) line pitch r 0 d
      from (c, below, q) = (c, below, subst (λ (k : ℕ). In d (column_marks e (get_or line c 0) r (e.grid pitch k))) (sym (zero-add c)) q)

module _ {e : Edition} (proper : Proper e) (line : List ℕ) (at : Row) (pitch : Pitch) where
  -- d is the dot of a set wire, `down` rows below wire 1, of a column below W
  record Mark (d : ℕ) : Type 0 where
    column : ℕ
    below : column < e.width pitch
    down : ℕ
    nine : down < 9
    on : bit (get_or line column 0) (9 - (down + 1)) ≡ 1
    is : d ≡ dot_at e (lower down at) (e.grid pitch column)

  -- every mark of the line is the dot of a set wire
  mark_to : (d : ℕ) → In d (marks e line at pitch) → Mark d
  unfolding column_marks
  mark_to d p = go ((marks_columns e line at pitch d).0 p)
    where
      go : OfColumn e line at pitch d → Mark d
      go (c, below, q) =
          let w = wires_to e 9 (get_or line c 0) at (e.grid pitch c) d q in
          record { column = c; below = below; down = w.0; nine = w.1; on = w.2; is = w.3 }

  -- the dot of every set wire is a mark of the line
  mark_from : (d : ℕ) → Mark d → In d (marks e line at pitch)
  unfolding column_marks
  mark_from d m =
      (marks_columns e line at pitch d).1
      (m.column, m.below, wires_from e 9 (get_or line m.column 0) at (e.grid pitch m.column) d (m.down, m.nine, m.on, m.is))

  -- every mark of a line whose nine rows are on the page lies within the page
  pub marks_inside : (page : List ℕ) → (at.0 + 9) * e.bytes ≤ length page → (d : ℕ) → In d (marks e line at pitch) → d / 8 < length page
  unfolding dot_at
  marks_inside page room d p =
      let m : Mark d = mark_to d p in
      let under : suc (at.0 + m.down) * e.bytes ≤ (at.0 + 9) * e.bytes = mul-le-mul_right e.bytes (omega (arith, m.nine)) in
      let h = proper.on_row pitch m.column m.below in
      omega (arith, m.is)

  -- every mark of a line whose nine rows are rows of a form lies on the form
  pub marks_on_form : (f : Form) → at.0 + 9 ≤ form_rows f → (d : ℕ) → In d (marks e line at pitch) → OnForm e f d
  marks_on_form f rows d p =
      let m : Mark d = mark_to d p in
      record {
        row = lower m.down at;
        position = e.grid pitch m.column;
        above = omega (arith, m.nine);
        inside = proper.on_row pitch m.column m.below;
        is = m.is;
      }

  -- the marks of a line are the dots that it strikes
  pub marks_strike : (r : Row) (g : Grid) → g.0 < 8 * e.bytes → In (dot_at e r g) (marks e line at pitch) ↔ Strikes e line at pitch r g
  unfolding dot_at
  marks_strike r g lt = (to, from)
    where
      to : In (dot_at e r g) (marks e line at pitch) → Strikes e line at pitch r g
      to p =
          let m : Mark (dot_at e r g) = mark_to (dot_at e r g) p in
          let same =
          same_place (8 * e.bytes) r.0 (at.0 + m.down) g.0 (e.grid pitch m.column).0 lt
          (proper.on_row pitch m.column m.below) m.is in
          record {
            column = m.column;
            below = m.below;
            stands = ap (λ (k : ℕ). record { 0 = k }) (sym same.1);
            wire = m.down + 1;
            first = omega arith;
            last = omega (arith, m.nine);
            row = omega (arith, same.0);
            on = m.on;
          }

      from : Strikes e line at pitch r g → In (dot_at e r g) (marks e line at pitch)
      from s =
          let a : 9 - (s.wire - 1 + 1) ≡ 9 - s.wire = omega (arith, s.first) in
          let b : r.0 ≡ at.0 + (s.wire - 1) = omega (arith, s.first, s.row) in
          mark_from (dot_at e r g)
          record {
            column = s.column;
            below = s.below;
            down = s.wire - 1;
            nine = omega (arith, s.first, s.last);
            on = ap (bit (get_or line s.column 0)) a ∙ s.on;
            is = ap (λ (k : ℕ). dot_at e (record { 0 = k }) g) b ∙ ap (dot_at e (lower (s.wire - 1) at)) (sym s.stands);
          }
