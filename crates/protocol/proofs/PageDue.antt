-- The page that is due: of a sound state a page of so many bytes is not answered with 11 and every other is; the blank page of the state's form is one.
use Prim.Native.Nat.{ℕ}
use mathlib.Core.Bool.{Bool, true, false, cond, true≢false}
use mathlib.Core.List.{List}
use mathlib.Core.Path.{◌≡◌, ap, sym, ◌∙◌}
use native.Mathlib.Omega.{arith}
use borrow.Author.Tests.{eq-eqb, ne_eqb}
use lib.Dec.{eqb}
use lib.ListN.{length, length-replicate}
use Rattle.sheet.specs.Edition.{Edition}
use Rattle.sheet.specs.Form.{blank_page, page_bytes}
use Rattle.printer.specs.declared.Printer.{Printer}
use Rattle.printer.specs.Machine.{Machine, store_size}
use Rattle.printer.specs.Sound.{sound}
use Rattle.protocol.specs.declared.Answer.{Answer}
use Rattle.protocol.specs.declared.Answer.TheVariants.{Misfit}
use Rattle.std.specs.Prelude.{Err, Ok}
use Rattle.protocol.specs.declared.Lent.TheVariants.{Page, LineStore, Staging, DownloadStore, Font}
use Rattle.protocol.specs.Answers.{lent_number, refusal, report}
use Rattle.protocol.specs.Calls.{feed_fitted, feeding, fit, page_due, stopped}
use Rattle.protocol.proofs.Answering.{taking_heeds}

-- what the tests behind the page's answer is never 11
behind_page : (e : Edition) (font piece : List ℕ) (m : Machine) (b c d g : Bool)
    → (feed_fitted e font piece (cond b (cond c (cond d (cond g (Ok tt) (Err Font)) (Err DownloadStore)) (Err Staging)) (Err LineStore)) m).answer
    ≡ Misfit Page → ⊥
unfolding feed_fitted refusal report lent_number
behind_page e font piece m true true true true q = true≢false (sym (ap refusal q) ∙ taking_heeds e font piece m)
behind_page e font piece m true true true false q = let n = ap (λ (a : Answer). (report a).number) q in omega arith
behind_page e font piece m true true false g q = let n = ap (λ (a : Answer). (report a).number) q in omega arith
behind_page e font piece m true false d g q = let n = ap (λ (a : Answer). (report a).number) q in omega arith
behind_page e font piece m false c d g q = let n = ap (λ (a : Answer). (report a).number) q in omega arith

-- of an unsound state it is none, of a sound one that of the form in force
pub none_due : (e : Edition) (p : Printer) → sound e p ≡ false → page_due e p ≡ 0
unfolding page_due
none_due e p s = rw s

pub form_due : (e : Edition) (p : Printer) → sound e p ≡ true → page_due e p ≡ page_bytes e p.form
unfolding page_due
form_due e p s = rw s

module _ (e : Edition) (m : Machine) (s : sound e m.printer ≡ true) where
  pub due_taken : (font piece : List ℕ) → length m.page ≡ page_due e m.printer → (feeding e font piece m).answer ≡ Misfit Page → ⊥
  unfolding feeding fit
  due_taken font piece l =
      rw (s, eq-eqb (length m.page) (page_bytes e m.printer.form) (l ∙ form_due e m.printer s))
      (behind_page e font piece m (eqb (length m.line) e.columns) (eqb (length m.staging) store_size) (eqb (length m.store) store_size)
      (eqb (length font) store_size))

  pub other_refused : (font piece : List ℕ) → (length m.page ≡ page_due e m.printer → ⊥)
      → feeding e font piece m ≡ stopped (Misfit Page) m
  unfolding feeding feed_fitted fit
  other_refused font piece n = rw (s, ne_eqb (length m.page) (page_bytes e m.printer.form) (λ q. n (q ∙ sym (form_due e m.printer s))))

  pub blank_due : length (blank_page e m.printer.form) ≡ page_due e m.printer
  unfolding blank_page
  blank_due = length-replicate _ _ ∙ sym (form_due e m.printer s)
