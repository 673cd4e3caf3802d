-- `texts::is_word` meets its contract: the bytes there are those of the name.
use Rattle.terms.proofs.Common.{◌∙◌}
use Rattle.texts.proofs.{Places.part_is}
use Rattle.texts.proofs.is_word.Goals as goal

pub returns : goal.returns
returns c =
    let a = c.args in
    c.eq.ensures ∙ part_is a.s.now a.name.now a.from a.end c.requires.0 c.requires.1
