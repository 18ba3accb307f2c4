-- `put`: the words written are those of the state, whose job and pending command are in range by their types.
use Prim.Native.Nat.{ℕ}
use mathlib.Core.List.{[], ◌∷◌}
use mathlib.Core.Path.{◌≡◌, ap, ◌∙◌}
use native.Mathlib.Omega.{arith}
use lib.ListN.{get_or}
use Rattle.words.specs.Words.{is_state, state_words}
use Rattle.words.proofs.Kept.{put_is_state}
use Rattle.words.proofs.Writing.{pending_spelled, truth_byte, written_behind}
use Rattle.words.proofs.put.Goals as goal

pub returns : goal.returns
unfolding state_words
returns c =
    let p = c.args.p in
    let six : ℕ → ℕ = λ k. get_or c.pending_words.result k 0 in
    let words =
    c.model_word.result ∷ p.form.lines ∷ p.form.spacing ∷ c.lines_through.result ∷ c.lines_through-2.result ∷ c.from.result
    ∷ c.rows_above.result ∷ p.head.column ∷ c.from-2.result ∷ c.from-3.result ∷ c.from-4.result ∷ c.pitch_word.result
    ∷ c.from-5.result ∷ c.from-6.result ∷ c.from-7.result ∷ p.tabs.low ∷ p.tabs.high
    ∷ six 0 ∷ six 1 ∷ six 2 ∷ six 3 ∷ six 4 ∷ six 5 ∷ [] in
    let same : words ≡ state_words p = grind (arith, truth_byte, pending_spelled) in
    let written = written_behind words c.args.state.now 0 c.requires ∙ same in record {
      written = written;
      sound = ap is_state written ∙ put_is_state p (omega (arith, c)) c.pending_words.ensures.ranged;
    }
