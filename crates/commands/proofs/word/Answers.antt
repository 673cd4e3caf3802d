-- `commands::word` meets its contract: the bytes from a place to another are the word there.
use Rattle.terms.proofs.Common.{ap, ◌∙◌, arith}
use Rattle.commands.specs.Words.{word_in, word_of}
use Rattle.commands.proofs.{Parting.word_inside, Parting.is_word}
use Rattle.commands.proofs.word.Goals as goal

pub slice_bounds-result-end : goal.slice_bounds-result-end
slice_bounds-result-end c =
    omega (arith, word_inside c.args.line.now c.after_words-from.result (omega arith))

pub returns : goal.returns
unfolding word_of
returns c =
    is_word c.args.line.now c.after_words-from.result c.word_end-end.result c.word_end-end.ensures ∙ ap word_in c.after_words-from.ensures.1
