-- `sizes::page_size`: a page that there is has no more lines than the longest form of either model, and so no more bytes than the longest page.
use mathlib.Core.Path.{sym, ◌∙◌}
use native.Mathlib.Omega.{arith}
use Rattle.sheet.specs.Edition.{described}
use Rattle.sheet.proofs.Editions.{described_bounded}
use Rattle.sheet.proofs.Units.{lines-most, page_bytes-most}
use Rattle.sheet.proofs.sizes.page_size.Goals as goal

pub returns-then-spacing_allowed-clause-upper_bound : goal.returns-then-spacing_allowed-clause-upper_bound
returns-then-spacing_allowed-clause-upper_bound c =
    let a = c.args in
    let e = described a.model in
    let few = lines-most e a.lines (sym c.lines_allowed.ensures ∙ c.if-lines_allowed.true) in
    omega (
      arith,
      c.page_bytes.ensures,
      page_bytes-most e c.new_form.result (described_bounded a.model).bytes (rw c.new_form.ensures (omega (arith, few, (described_bounded a.model).longest))),
    )
