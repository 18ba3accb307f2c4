-- `at_most`: that each word passed is that none is above m.
use borrow.Author.Rules.{rules}
use Rattle.words.proofs.Ranges.{told_at_most}
use Rattle.words.proofs.at_most.Goals as goal

pub returns : goal.returns
returns c = told_at_most _ _ _ (search rules)
