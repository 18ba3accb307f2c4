-- `put_new`: the words written are those of a job just opened, in which nothing is entered or pending.
use mathlib.Core.Path.{◌≡◌, ap, ◌∙◌}
use native.Mathlib.Omega.{arith}
use Rattle.std.proofs.Common.{ℕ, replicate}
use Rattle.sheet.specs.Form.{new_form}
use Rattle.printer.specs.Machine.{new_printer}
use Rattle.words.specs.Words.{is_state, state_size}
use Rattle.words.proofs.Kept.{put_is_state}
use Rattle.words.proofs.Writing.{new_words}
use Rattle.words.proofs.put_new.Goals as goal

pub returns : goal.returns
returns c =
    let p = new_printer c.args.model (new_form c.args.lines c.args.spacing) in
    let blank : c.fill.new.self ≡ replicate state_size 0 = c.fill.ensures.after (λ y e. e) ∙ ap (λ (n : ℕ). replicate n 0) c.requires in
    let new = new_words c.args.model c.args.lines c.args.spacing in
    rw (blank, c.model_word.ensures) (record { written = new; sound = ap is_state new ∙ put_is_state p (omega arith) tt })
