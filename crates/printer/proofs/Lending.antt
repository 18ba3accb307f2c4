-- What is lent on, from call to call.
use Rattle.std.proofs.Common.{◌≡◌, refl, ◌∙◌}
use Rattle.printer.specs.declared.Memory.{Memory}
use Rattle.printer.specs.Given.{LentOn}

pub lent_here : (a : Memory) → LentOn a a
lent_here a = (refl, refl, refl, refl, refl, refl, refl, refl, refl)

pub lent_again : (a b c : Memory) → LentOn a b → LentOn b c → LentOn a c
lent_again a b c h k = (k.0 ∙ h.0, k.1 ∙ h.1, k.2 ∙ h.2, k.3 ∙ h.3, k.4 ∙ h.4, k.5 ∙ h.5, k.6 ∙ h.6, k.7 ∙ h.7, k.8 ∙ h.8)

-- the font that is lent on is the same
pub same_font : (a b : Memory) → LentOn a b → b.font.now ≡ a.font.now
same_font a b h = rw h.4 refl
