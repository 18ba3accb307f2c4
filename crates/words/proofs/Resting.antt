-- Words at rest: they are a state in which nothing is pending, and the words of the state that they hold.
use Prim.Native.Nat.{ℕ, zero, suc, ◌+◌, ◌≤◌, ◌<◌}
use mathlib.Core.Bool.{true}
use mathlib.Core.List.{List}
use mathlib.Core.Path.{◌≡◌, refl, ap, ◌∙◌}
use Rattle.std.proofs.lemmas.Bool.Decides.{leb_tells}
use Rattle.std.proofs.lemmas.Grind.{common_steps}
use native.Mathlib.Omega.{arith}
use lib.Dec.{eqb}
use lib.ListN.{get_or, length}
use Rattle.printer.specs.declared.Pending.TheVariants.{Nothing}
use Rattle.printer.specs.Machine.{limit}
use Rattle.words.specs.Words.{at_most, at_rest, form_of, head_of, is_state, model_of, model_word, part, pending_of, pending_words}
use Rattle.words.specs.Words.{pitch_of, pitch_word, state_of, state_size, state_with, state_words, style_of, truth}
use Rattle.words.proofs.Kept.{put_is_state}
use Rattle.words.proofs.Reading.{read, spelled}
use Rattle.words.proofs.Ranges.{before_tests, within}

-- a word that is 0 or 1 is the one of what it says
word-truth : (w : ℕ) → w ≤ 1 → truth (eqb w 1) ≡ w
unfolding truth
word-truth zero h = refl
word-truth (suc zero) h = refl
word-truth (suc (suc w)) h = absurd (omega arith)

word-model : (w : ℕ) → w ≤ 1 → model_word (model_of w) ≡ w
unfolding model_word model_of
word-model zero h = refl
word-model (suc zero) h = refl
word-model (suc (suc w)) h = absurd (omega arith)

word-pitch : (w : ℕ) → w ≤ 1 → pitch_word (pitch_of w) ≡ w
unfolding pitch_word pitch_of
word-pitch zero h = refl
word-pitch (suc zero) h = refl
word-pitch (suc (suc w)) h = absurd (omega arith)

module _ (ws : List ℕ) (rests : at_rest ws ≡ true) where
  abbrev w : ℕ → ℕ
  w k = get_or ws k 0

  pub rest_length : length ws ≡ state_size
  unfolding at_rest
  rest_length = grind (arith, common_steps, rests)

  tests : (at_most 0 (part 17 6 ws) ≡ true) × (w 0 ≤ 1) × (w 5 ≤ limit) × (at_most 1 (part 8 7 ws) ≡ true)
  unfolding at_rest
  tests = let before = before_tests ws rest_length in grind (arith, rests, before, leb_tells)

  pub rest_job : w 5 ≤ limit
  rest_job = tests.2

  -- the words of what is pending are 0
  pub rest_nothing : (w 17 ≡ 0) × (w 18 ≡ 0) × (w 19 ≡ 0) × (w 20 ≡ 0) × (w 21 ≡ 0) × (w 22 ≡ 0)
  rest_nothing =
      let l = rest_length in
      let none : (i : ℕ) → i < 6 → w (17 + i) ≡ 0 = λ i h. omega (arith, within 0 17 6 ws (omega arith) tests.0 i h) in
      (none 0 (omega arith), none 1 (omega arith), none 2 (omega arith), none 3 (omega arith), none 4 (omega arith), none 5 (omega arith))

  pub rest_state : state_of ws ≡ state_with ws Nothing
  unfolding state_of pending_of
  rest_state = simp rest_nothing.0

  -- THE LAW
  pub rest_words : ws ≡ state_words (state_with ws Nothing)
  unfolding read state_words form_of head_of style_of pending_words
  rest_words =
      let l = rest_length in
      let flag : (i : ℕ) → i < 7 → w (8 + i) ≤ 1 = within 1 8 7 ws (omega arith) tests.3 in
      let n = rest_nothing in
      spelled 23 0 ws (omega arith)
      ∙ simp (
        n.0,
        n.1,
        n.2,
        n.3,
        n.4,
        n.5,
        word-model (w 0) tests.1,
        word-truth (w 8) (flag 0 (omega arith)),
        word-truth (w 9) (flag 1 (omega arith)),
        word-truth (w 10) (flag 2 (omega arith)),
        word-pitch (w 11) (flag 3 (omega arith)),
        word-truth (w 12) (flag 4 (omega arith)),
        word-truth (w 13) (flag 5 (omega arith)),
        word-truth (w 14) (flag 6 (omega arith)),
      )

  pub rest_is_state : is_state ws ≡ true
  rest_is_state = ap is_state rest_words ∙ put_is_state (state_with ws Nothing) rest_job tt
