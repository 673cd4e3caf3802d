use Rattle.terms.proofs.Common.{sym, arith}
use Rattle.lines.proofs.{Lines.text_begins_end, Lines.text_begins_at}
use Rattle.lines.proofs.begins_with.Goals as goal

pub returns-then-s-at : goal.returns-then-s-at
returns-then-s-at c = let a = c.args in sym (text_begins_end a.b a.s.now a.at c.if-s-at.true)

pub returns : goal.returns
returns c = let a = c.args in sym (text_begins_at a.b a.s.now a.at (omega arith) (omega arith))
