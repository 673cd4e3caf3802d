use Rattle.terms.proofs.Common.{◌∙◌}
use Rattle.reading.proofs.Letters.{same_other}
use Rattle.reading.proofs.is_bad_misc.Goals as goal

pub returns : goal.returns
returns c = rw (c.eq.ensures ∙ same_other c.args.m, c.is_wrong_program.ensures, c.stands_alone.ensures)
