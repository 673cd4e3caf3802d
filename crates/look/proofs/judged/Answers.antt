-- `look::judged` meets its contract: the judgement under the block's code.
use Rattle.terms.proofs.Common.{◌∙◌}
use Rattle.look.proofs.judged.Goals as goal

pub returns : goal.returns
returns c ws seen = c.judge.ensures ∙ rw (c.has_centre-centred.ensures ws seen, c.block_code-code.ensures)
