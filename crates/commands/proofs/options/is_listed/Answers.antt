-- `commands::options::is_listed` meets its contract: a word of one byte is no option.
use Rattle.terms.proofs.Common.{ap, ◌∙◌, not}
use Rattle.commands.proofs.{Choosing.few_words, Choosing.short_word, Choosing.long_word}
use Rattle.commands.proofs.options.is_listed.Goals as goal

pub returns-then-count-le3 : goal.returns-then-count-le3
returns-then-count-le3 c =
    let a = c.args in few_words a.line.now a.count c.if-count-le3.true

pub returns-then-list-lt2 : goal.returns-then-list-lt2
returns-then-list-lt2 c =
    let a = c.args in short_word a.line.now a.count c.if-count-le3.false c.word-list.ensures c.if-list-lt2.true

pub returns : goal.returns
returns c =
    let a = c.args in
    ap not c.is_word.ensures ∙ long_word a.line.now a.count c.if-count-le3.false c.word-list.ensures
