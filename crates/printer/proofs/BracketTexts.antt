-- A command that ESC [ begins, sent byte by byte, does what the whole one does.
use Prim.Native.Nat.{ℕ, suc, ◌+◌}
use mathlib.Core.Bool.{Bool, true, false, cond}
use mathlib.Core.List.{List, [], ◌∷◌}
use mathlib.Core.Path.{◌≡◌, refl}
use native.Mathlib.Nat.{add-zero}
use native.Mathlib.Omega.{arith}
use lib.ListN.{length}
use Rattle.sheet.specs.Edition.{Edition}
use Rattle.printer.specs.declared.Pending.TheVariants.{Nothing, Bracket}
use Rattle.printer.specs.declared.Settings.{Settings}
use Rattle.printer.specs.Brackets.{bracket, continues, setting_byte, settings}
use Rattle.printer.specs.Bytes.{act, bracket_byte, run, step, waiting}
use Rattle.printer.specs.Commands.{Text, ending, endless, text, text_before}
use Rattle.printer.specs.Machine.{Machine}
use Rattle.printer.specs.Steps.{Outcome, silent, tell, tell_step, then}
use Rattle.printer.proofs.Resuming.{at, shift}

module _ (e : Edition) (font : List ℕ) (p : ℕ) where
  -- what the rest of a command does whose next byte stands at place k, by its text
  unfoldable pub after_text : Text → List ℕ → Settings → ℕ → Machine → Outcome
  after_text (ending ts last rest) bs s k m = then (tell_step e (bracket e (settings ts s) last p (at (k + suc (length ts)) Nothing m))) (run e font rest)
  after_text endless bs s k m = silent (at (k + length bs) (Bracket p (settings bs s)) m)

  one_byte : (t : Text) (b : ℕ) (bs : List ℕ) (s : Settings) (k : ℕ) (m : Machine)
      → after_text t bs (setting_byte b s) (k + 1) m ≡ after_text (text_before b t) (b ∷ bs) s k m
  unfolding after_text text_before settings
  one_byte (ending ts last rest) b bs s k m = simp shift
  one_byte endless b bs s k m = simp shift

  by_byte : (t : Bool) (b : ℕ) (bs : List ℕ) (s : Settings) (k : ℕ) (m : Machine)
      → run e font bs (at (k + 1) (Bracket p (setting_byte b s)) m) ≡ after_text (text bs) bs (setting_byte b s) (k + 1) m
      → then
      (tell_step e (cond t (waiting (Bracket p (setting_byte b s)) (at (k + 1) (Bracket p s) m)) (bracket e s b p (at (k + 1) Nothing m))))
      (run e font bs)
      ≡ after_text (cond t (text_before b (text bs)) (ending [] b bs)) (b ∷ bs) s k m
  unfolding tell_step tell after_text settings
  by_byte true b bs s k m rest = rw rest (one_byte (text bs) b bs s k m)
  by_byte false b bs s k m rest = refl

  pub text_run : (bs : List ℕ) (s : Settings) (k : ℕ) (m : Machine) → run e font bs (at k (Bracket p s) m) ≡ after_text (text bs) bs s k m
  unfolding run step act bracket_byte text after_text settings
  text_run [] s k m = simp add-zero
  text_run (b ∷ bs) s k m = by_byte (continues b) b bs s k m (text_run bs (setting_byte b s) (k + 1) m)

-- a command that has its last byte is as long as its text, that byte and the bytes after it
abbrev pub Spanned : List ℕ → Text → Type 0
Spanned bs (ending ts last rest) = length bs ≡ suc (length ts + length rest)
Spanned bs endless = Unit {0}

byte_spanned : (t : Bool) (b : ℕ) (bs : List ℕ) (x : Text) → Spanned bs x → Spanned (b ∷ bs) (cond t (text_before b x) (ending [] b bs))
unfolding text_before
byte_spanned true b bs (ending ts last rest) h = omega arith
byte_spanned true b bs endless h = tt
byte_spanned false b bs x h = omega arith

pub text_spanned : (bs : List ℕ) → Spanned bs (text bs)
unfolding text
text_spanned [] = tt
text_spanned (b ∷ bs) = byte_spanned (continues b) b bs (text bs) (text_spanned bs)
