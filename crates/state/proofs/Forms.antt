-- What the code counts on of a form that is sound: its lines and its margins have places.
use Prim.Native.Nat.{◌≤◌}
use mathlib.Core.Bool.{true}
use mathlib.Core.Path.{◌≡◌}
use native.Mathlib.Omega.{arith}
use Rattle.sheet.specs.declared.Form.{Form}
use Rattle.sheet.specs.declared.Model.{Model}
use Rattle.sheet.specs.Edition.{described}
use Rattle.sheet.specs.Form.{FormFits, TopFits}
use Rattle.sheet.proofs.Editions.{described_bounded}
use Rattle.printer.specs.Facts.{SoundForm}
use Rattle.printer.specs.Sound.{form_sound}
use Rattle.printer.proofs.Soundness.{form_facts}

module _ (w : Model) (f : Form) where
  pub top_bounded : SoundForm (described w) f → TopFits f
  top_bounded s = (s.top, omega (arith, s.between, s.bottom, s.most, (described_bounded w).longest))

  pub bottom_bounded : SoundForm (described w) f → f.bottom.0 ≤ 112
  bottom_bounded s = omega (arith, s.bottom, s.most, (described_bounded w).longest)

  pub form_bounded : SoundForm (described w) f → FormFits f
  form_bounded s = (omega (arith, s.most, (described_bounded w).longest), s.top, (top_bounded s).1)

  -- the same of one that passes the test
  pub tested_bounded : form_sound (described w) f ≡ true → TopFits f × (f.bottom.0 ≤ 112)
  tested_bounded t = let s = form_facts (described w) f t in (top_bounded s, bottom_bounded s)
