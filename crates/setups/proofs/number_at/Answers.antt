-- `setups::number_at` meets its contract: the next word, and what it is worth.
use Rattle.terms.proofs.Common.{sym, ◌∙◌}
use Rattle.texts.proofs.Places.{standing}
use Rattle.setups.proofs.{Filling.number_missing, Filling.number_fits, Filling.number_unfit}
use Rattle.setups.proofs.number_at.Goals as goal

pub returns-then-from-end : goal.returns-then-from-end
returns-then-from-end c =
    number_missing c.args.s.now c.args.at c.next_word-from.result c.word_end-end.result c.next_word-from.ensures c.word_end-end.ensures c.if-from-end.true

pub worth_at-requires : goal.worth_at-requires
worth_at-requires c =
    let word = standing c.args.s.now c.next_word-from.result c.word_end-end.result c.word_end-end.ensures c.if-from-end.false in
    (word.some, word.within)

pub returns-in-Ok : goal.returns-in-Ok
returns-in-Ok c =
    number_fits c.args.s.now c.args.at c.next_word-from.result c.word_end-end.result c.next_word-from.ensures c.word_end-end.ensures c.if-from-end.false _ (sym c.worth_at.ensures ∙ c.in-Ok.is)

pub returns-in-Err : goal.returns-in-Err
returns-in-Err c =
    number_unfit c.args.s.now c.args.at c.next_word-from.result c.word_end-end.result c.next_word-from.ensures c.word_end-end.ensures c.if-from-end.false _ (sym c.worth_at.ensures ∙ c.in-Err.is)
