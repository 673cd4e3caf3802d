-- `lines::ends_soon` meets its contract: none of the eight bytes is an LF.
use Rattle.terms.proofs.Common.{sym, ◌∙◌, arith}
use Rattle.lines.proofs.{Lines.eight_passed}
use Rattle.lines.proofs.ends_soon.Goals as goal

pub returns : goal.returns
returns c e = eight_passed c.args.s.now c.args.at _ (sym c.contains.ensures.value ∙ e) (omega arith) c.requires
