-- A form that passes the tests of its setting can be put into the state.
use Rattle.std.proofs.Common.{◌≡◌, ℕ, ◌≤◌, true, ◌&&◌, ltb, arith}
use mathlib.Core.Bool.{and-eq-true_iff}
use Rattle.sheet.specs.declared.Form.{Form}
use Rattle.sheet.specs.declared.Model.{Model}
use Rattle.sheet.specs.Edition.{described}
use Rattle.sheet.specs.Form.{FormFits, lines_allowed, margins_allowed}
use Rattle.sheet.proofs.Editions.{described_bounded}
use Rattle.sheet.proofs.Units.{lines-most, margins_inside}

pub allowed_bounded : (w : Model) (semicolons : ℕ) (f : Form)
    → (ltb semicolons 3 && lines_allowed (described w) f.lines && margins_allowed f) ≡ true
    → FormFits f
allowed_bounded w semicolons f t =
    let e = described w in
    let a = (and-eq-true_iff (ltb semicolons 3 && lines_allowed e f.lines) (margins_allowed f)).0 t in
    let b = (and-eq-true_iff (ltb semicolons 3) (lines_allowed e f.lines)).0 a.0 in
    let inside = margins_inside f a.1 in
    let most : f.lines ≤ 112 = omega (arith, lines-most e f.lines b.1, (described_bounded w).longest) in
    (most, inside.0, omega (arith, inside.1))
