-- `commands::word_end` meets its contract: the first end from a place on is the word's.
use Rattle.std.specs.List.{position}
use Rattle.terms.proofs.Common.{ap, ◌∙◌, arith, drop, length-drop}
use Rattle.commands.{specs.Words.is_end, proofs.Parting.to_end, proofs.Parting.word_ended, proofs.Parting.word_unended}
use Rattle.commands.proofs.word_end.Goals as goal

pub returns-in-Some : goal.returns-in-Some
returns-in-Some c =
    let a = c.args in
    let e = c.first_end.ensures ∙ ap (position is_end) (to_end a.line.now a.from) in
    omega (arith, word_ended (drop a.from a.line.now) e c.in-Some.is)

pub returns-in-None : goal.returns-in-None
returns-in-None c =
    let a = c.args in
    let e = c.first_end.ensures ∙ ap (position is_end) (to_end a.line.now a.from) in
    omega (arith, word_unended (drop a.from a.line.now) e c.in-None.is, length-drop a.from a.line.now)
