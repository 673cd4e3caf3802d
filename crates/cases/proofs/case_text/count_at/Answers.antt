-- `cases::case_text::count_at` meets its contract: the next word, and its digits.
use Rattle.terms.proofs.Common.{arith}
use Rattle.texts.proofs.Places.{standing}
use Rattle.cases.proofs.{Laws.count_none, Laws.count_some}
use Rattle.cases.proofs.case_text.count_at.Goals as goal

pub returns-then-from-next : goal.returns-then-from-next
returns-then-from-next c =
    let a = c.args in
    count_none a.s.now a.at _ _ c.next_word-from.ensures c.word_end-next.ensures c.if-from-next.true

pub digits_at-requires : goal.digits_at-requires
digits_at-requires c =
    let word = standing c.args.s.now _ _ c.word_end-next.ensures c.if-from-next.false in
    (omega (arith, word.some), word.within)

pub returns : goal.returns
returns c =
    let a = c.args in
    count_some a.s.now a.at _ _ c.next_word-from.ensures c.word_end-next.ensures _ c.if-from-next.false c.digits_at.ensures
