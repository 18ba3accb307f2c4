-- `lines::strike`: the line is struck, then emptied; neither touches what the other wrote.
use mathlib.Core.Path.{◌∙◌}
use Rattle.sheet.proofs.Emptying.{line_emptied}
use Rattle.striking.proofs.lines.strike.Goals as goal

pub returns : goal.returns
returns c =
    record { page_after = c.onto.ensures; line_after = c.fill.ensures.after (λ y same. same) ∙ line_emptied _ c.args.line.now c.requires.full }
