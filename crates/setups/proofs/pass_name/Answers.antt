-- `setups::pass_name` meets its contract: the next word, and whether it is the name.
use Rattle.terms.proofs.Common.{sym, ◌∙◌, arith}
use Rattle.texts.proofs.Places.{standing}
use Rattle.setups.proofs.{Filling.name_missing, Filling.name_passed, Filling.name_other}
use Rattle.setups.proofs.pass_name.Goals as goal

pub returns-then-from-end : goal.returns-then-from-end
returns-then-from-end c =
    name_missing c.args.s.now c.args.at c.next_word-from.result c.word_end-end.result c.next_word-from.ensures c.word_end-end.ensures c.args.name.now c.requires c.if-from-end.true

pub is_word-requires : goal.is_word-requires
is_word-requires c =
    let word = standing c.args.s.now c.next_word-from.result c.word_end-end.result c.word_end-end.ensures c.if-from-end.false in
    (omega (arith, word.some), word.within)

pub returns-then-is_word : goal.returns-then-is_word
returns-then-is_word c =
    name_passed c.args.s.now c.args.at c.next_word-from.result c.word_end-end.result c.next_word-from.ensures c.word_end-end.ensures c.args.name.now c.requires c.if-from-end.false (sym c.is_word.ensures ∙ c.if-is_word.true)

pub returns-else-is_word : goal.returns-else-is_word
returns-else-is_word c =
    name_other c.args.s.now c.args.at c.next_word-from.result c.word_end-end.result c.next_word-from.ensures c.word_end-end.ensures c.args.name.now c.requires c.if-from-end.false (sym c.is_word.ensures ∙ c.if-is_word.false)
