-- `commands::after_word` meets its contract: the word, and its end where it has one.
use Rattle.terms.proofs.Common.{arith}
use Rattle.commands.proofs.{Parting.past_word, Parting.past_last}
use Rattle.commands.proofs.after_word.Goals as goal

pub returns-then-end-line : goal.returns-then-end-line
returns-then-end-line c =
    let a = c.args in
    (omega arith, past_word a.line.now a.from c.word_end-end.result c.word_end-end.ensures)

pub returns : goal.returns
returns c =
    let a = c.args in
    (omega arith, past_last a.line.now a.from c.word_end-end.result c.word_end-end.ensures c.if-end-line.false)
