-- The head may run either way over a line, and over it again. Document 02, #111.
use Prim.Native.Nat.{ℕ, zero, suc, ◌<◌}
use mathlib.Core.Path.{◌≡◌, refl, sym, subst, ◌∙◌}
use mathlib.Core.Logic.{◌⊎◌, inl, inr, ⊎_elim}
use mathlib.Core.List.{List, [], ◌∷◌, ◌++◌}
use native.Mathlib.Omega.{arith}
use native.Mathlib.Nat.{eq-or-lt_of_le}
use Rattle.sheet.specs.declared.Pitch.{Pitch}
use Rattle.sheet.specs.declared.Row.{Row}
use Rattle.sheet.specs.Edition.{Edition}
use Rattle.sheet.specs.Dots.{blacken_all, marks, struck, In}
use Rattle.sheet.specs.Pass.{column_struck, columns_struck, leftward, marks_at, rightward, Pass}
use Rattle.sheet.proofs.Blackening.{blacken_all-append, in_left, in_right, in_append}
use Rattle.sheet.proofs.AnyOrder.{blacken_all_again, same_dots}
use Rattle.sheet.proofs.Marks.{OfColumn, marks_columns}

-- the first n columns are those below n, from left to right
rightward_to : (n c : ℕ) → In c (rightward n) → c < n
unfolding rightward
rightward_to zero c p = absurd p
rightward_to (suc n) c p = go (rightward_to n c) (in_append c (rightward n) (n ∷ []) p)
  where
    go : (In c (rightward n) → c < n) → In c (rightward n) ⊎ In c (n ∷ []) → c < suc n
    go before (inl q) = omega (arith, before q)
    go before (inr (inl q)) = omega arith
    go before (inr (inr q)) = absurd q

rightward_from : (n c : ℕ) → c < n → In c (rightward n)
unfolding rightward
rightward_from zero c l = absurd (omega arith)
rightward_from (suc n) c l =
    ⊎_elim (λ q. in_right c (rightward n) (n ∷ []) (inl q)) (λ h. in_left c (rightward n) (n ∷ []) (rightward_from n c h))
    (eq-or-lt_of_le {n = c} {m = n} (omega arith))

-- and from right to left
leftward_to : (n c : ℕ) → In c (leftward n) → c < n
unfolding leftward
leftward_to zero c p = absurd p
leftward_to (suc n) c (inl q) = omega arith
leftward_to (suc n) c (inr q) = omega (arith, leftward_to n c q)

leftward_from : (n c : ℕ) → c < n → In c (leftward n)
unfolding leftward
leftward_from zero c l = absurd (omega arith)
leftward_from (suc n) c l = ⊎_elim (λ q. inl q) (λ h. inr (leftward_from n c h)) (eq-or-lt_of_le {n = c} {m = n} (omega arith))

module _ (e : Edition) (line : List ℕ) (r : Row) (pitch : Pitch) where
  -- THE LAW: a line struck again at the same row changes nothing
  pub struck_again : (page : List ℕ) → struck e (struck e page line r pitch) line r pitch ≡ struck e page line r pitch
  unfolding struck
  struck_again page = blacken_all_again page _ _ (λ d p. p)

  -- the marks of some columns, one column after the other
  unfoldable marks_of : List ℕ → List ℕ
  marks_of [] = []
  marks_of (c ∷ cs) = marks_at e line r pitch c ++ marks_of cs

  -- striking some columns blackens their marks
  columns_blacken : (page columns : List ℕ) → columns_struck e page line r pitch columns ≡ blacken_all page (marks_of columns)
  unfolding columns_struck column_struck marks_of blacken_all
  columns_blacken page [] = refl
  columns_blacken page (c ∷ cs) =
      columns_blacken (column_struck e page line r pitch c) cs ∙ sym (blacken_all-append page (marks_at e line r pitch c) (marks_of cs))

  -- d is a mark of one of some columns
  abbrev OneOf : List ℕ → ℕ → Type 0
  OneOf columns d = (c : ℕ) × In c columns × In d (marks_at e line r pitch c)

  -- the marks of some columns are those of each of them
  marks_of_to : (columns : List ℕ) (d : ℕ) → In d (marks_of columns) → OneOf columns d
  unfolding marks_of
  marks_of_to [] d p = absurd p
  marks_of_to (c ∷ cs) d p =
      ⊎_elim (λ q. (c, inl refl, q)) (λ q. later (marks_of_to cs d q)) (in_append d (marks_at e line r pitch c) (marks_of cs) p)
    where
      later : OneOf cs d → OneOf (c ∷ cs) d
      later (k, is, q) = (k, inr is, q)

  marks_of_from : (columns : List ℕ) (d : ℕ) → OneOf columns d → In d (marks_of columns)
  unfolding marks_of
  marks_of_from [] d (k, is, q) = absurd is
  marks_of_from (c ∷ cs) d (k, inl is, q) =
      in_left d (marks_at e line r pitch c) (marks_of cs) (subst (λ (x : ℕ). In d (marks_at e line r pitch x)) is q)
  marks_of_from (c ∷ cs) d (k, inr is, q) = in_right d (marks_at e line r pitch c) (marks_of cs) (marks_of_from cs d (k, is, q))

  -- THE LAW: the columns of a line, struck in any order and each once at least, make the page that striking the line makes
  pub any_order : (page columns : List ℕ) → Pass e pitch columns → columns_struck e page line r pitch columns ≡ struck e page line r pitch
  unfolding struck
  any_order page columns pass =
      columns_blacken page columns
      ∙ same_dots page (marks_of columns) (marks e line r pitch) (λ d. (
        λ p. (marks_columns e line r pitch d).1 (to d (marks_of_to columns d p)),
        λ p. marks_of_from columns d (from d ((marks_columns e line r pitch d).0 p)),
      ))
    where
      to : (d : ℕ) → OneOf columns d → OfColumn e line r pitch d
      to d (c, is, q) = (c, pass.no_other c is, q)

      from : (d : ℕ) → OfColumn e line r pitch d → OneOf columns d
      from d (c, below, q) = (c, pass.each c below, q)

  -- so they do from left to right
  pub left_to_right : (page : List ℕ) → columns_struck e page line r pitch (rightward (e.width pitch)) ≡ struck e page line r pitch
  left_to_right page = any_order page _ (record { each = rightward_from (e.width pitch); no_other = rightward_to (e.width pitch) })

  -- and from right to left
  pub right_to_left : (page : List ℕ) → columns_struck e page line r pitch (leftward (e.width pitch)) ≡ struck e page line r pitch
  right_to_left page = any_order page _ (record { each = leftward_from (e.width pitch); no_other = leftward_to (e.width pitch) })
