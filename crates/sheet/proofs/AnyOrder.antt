-- Dots may be blackened in any order and any number of times: the page depends only on which they are.
use Prim.Native.Nat.{ℕ, ◌-◌, ◌/◌, ◌%◌, ◌^◌, ◌≤◌, ◌<◌}
use mathlib.Core.Path.{◌≡◌, refl, sym, ap, ◌∙◌}
use mathlib.Core.Logic.{inl, inr, ◌↔◌, ◌≢◌}
use mathlib.Core.List.{List, [], ◌∷◌}
use native.Mathlib.Omega.{arith}
use native.Mathlib.Decide.{ℕ_discrete, dec_lt}
use lib.Bits.{bit_or, or_comm, or_self}
use lib.ListN.{length, get_or, set, length-set}
use lib.Seq.{get_or-set_same, get_or-set_other, set_out, set-set, set_comm}
use Rattle.sheet.specs.Dots.{blacken, blacken_all, In}
use Rattle.sheet.proofs.Bits.{or_assoc}

-- the page with ink joined to byte i
abbrev pub inked : List ℕ → ℕ → ℕ → List ℕ
inked page i ink = set page i (bit_or (get_or page i 0) ink)

-- ink joined twice to one byte is both joined at once
pub inked_twice : (page : List ℕ) (i a b : ℕ) → inked (inked page i a) i b ≡ inked page i (bit_or a b)
inked_twice page i a b = go (dec_lt i (length page))
  where
    none : (l : List ℕ) (v : ℕ) → length page ≤ i → length l ≡ length page → set l i v ≡ l
    none l v out e = set_out l i v (omega arith)

    go : Dec (i < length page) → inked (inked page i a) i b ≡ inked page i (bit_or a b)
    go (yes inside) =
        set-set page i _ _
        ∙ ap (λ (x : ℕ). set page i (bit_or x b)) (get_or-set_same page i (bit_or (get_or page i 0) a) 0 inside)
        ∙ ap (set page i) (or_assoc (get_or page i 0) a b)
    go (no out) = none (inked page i a) _ (omega arith) (length-set page i _) ∙ none page _ (omega arith) refl ∙ sym (none page _ (omega arith) refl)

-- ink is joined to two bytes in either order
inked_apart : (page : List ℕ) (i j a b : ℕ) → j ≢ i → inked (inked page i a) j b ≡ inked (inked page j b) i a
inked_apart page i j a b apart =
    ap (λ (x : ℕ). set (inked page i a) j (bit_or x b)) (get_or-set_other page i j (bit_or (get_or page i 0) a) 0 apart)
    ∙ set_comm page i j (bit_or (get_or page i 0) a) (bit_or (get_or page j 0) b) (λ e. apart (sym e))
    ∙ ap (λ (x : ℕ). set (inked page j b) i (bit_or x a)) (sym (get_or-set_other page j i (bit_or (get_or page j 0) b) 0 (λ e. apart (sym e))))

-- two dots are blackened in either order
pub blacken_swap : (page : List ℕ) (d e : ℕ) → blacken (blacken page d) e ≡ blacken (blacken page e) d
unfolding blacken
blacken_swap page d e = go (ℕ_discrete (e / 8) (d / 8))
  where
    i : ℕ
    i = d / 8

    a : ℕ
    a = 2 ^ (7 - d % 8)

    b : ℕ
    b = 2 ^ (7 - e % 8)

    go : Dec (e / 8 ≡ i) → inked (inked page i a) (e / 8) b ≡ inked (inked page (e / 8) b) i a
    go (no apart) = inked_apart page i (e / 8) a b apart
    go (yes same) =
        ap (λ (k : ℕ). inked (inked page i a) k b) same
        ∙ inked_twice page i a b
        ∙ ap (inked page i) (or_comm a b)
        ∙ sym (inked_twice page i b a)
        ∙ ap (λ (k : ℕ). inked (inked page k b) i a) (sym same)

-- a dot blackened twice is blackened once
pub blacken_again : (page : List ℕ) (d : ℕ) → blacken (blacken page d) d ≡ blacken page d
unfolding blacken
blacken_again page d = inked_twice page (d / 8) (2 ^ (7 - d % 8)) (2 ^ (7 - d % 8)) ∙ ap (inked page (d / 8)) (or_self (2 ^ (7 - d % 8)))

-- a dot is blackened before some others or after them
blacken-after : (page : List ℕ) (d : ℕ) (ds : List ℕ) → blacken_all (blacken page d) ds ≡ blacken (blacken_all page ds) d
unfolding blacken_all
blacken-after page d [] = refl
blacken-after page d (e ∷ ds) = ap (λ (p : List ℕ). blacken_all p ds) (blacken_swap page d e) ∙ blacken-after (blacken page e) d ds

-- two lists of dots are blackened in either order
pub blacken_all_swap : (page xs ys : List ℕ) → blacken_all (blacken_all page xs) ys ≡ blacken_all (blacken_all page ys) xs
unfolding blacken_all
blacken_all_swap page [] ys = refl
blacken_all_swap page (x ∷ xs) ys =
    blacken_all_swap (blacken page x) xs ys ∙ ap (λ (p : List ℕ). blacken_all p xs) (blacken-after page x ys)

-- once a list of dots is blackened, blackening one of them again changes nothing
blacken_one_again : (page ds : List ℕ) (d : ℕ) → In d ds → blacken (blacken_all page ds) d ≡ blacken_all page ds
unfolding blacken_all
blacken_one_again page [] d p = absurd p
blacken_one_again page (x ∷ xs) d (inl q) =
    sym (blacken-after (blacken page x) d xs)
    ∙ ap (λ (k : ℕ). blacken_all (blacken (blacken page x) k) xs) q
    ∙ ap (λ (p : List ℕ). blacken_all p xs) (blacken_again page x)
blacken_one_again page (x ∷ xs) d (inr p) = blacken_one_again (blacken page x) xs d p

-- nor does blackening any of them again
pub blacken_all_again : (page ds again : List ℕ) → ((d : ℕ) → In d again → In d ds)
    → blacken_all (blacken_all page ds) again ≡ blacken_all page ds
unfolding blacken_all
blacken_all_again page ds [] of = refl
blacken_all_again page ds (x ∷ xs) of =
    ap (λ (p : List ℕ). blacken_all p xs) (blacken_one_again page ds x (of x (inl refl))) ∙ blacken_all_again page ds xs (λ d p. of d (inr p))

-- THE LAW of blackening: lists of the same dots make the same page, in whatever order and however often each dot stands in them
pub same_dots : (page xs ys : List ℕ) → ((d : ℕ) → In d xs ↔ In d ys) → blacken_all page xs ≡ blacken_all page ys
same_dots page xs ys same =
    sym (blacken_all_again page xs ys (λ d p. (same d).1 p)) ∙ blacken_all_swap page xs ys ∙ blacken_all_again page ys xs (λ d p. (same d).0 p)
