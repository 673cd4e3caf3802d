-- `svg::forms::put_byte` meets its contract: the byte is written where there is room for it.
use Rattle.svg.proofs.{Filled.fills_out}
use Rattle.svg.proofs.forms.put_byte.Goals as goal

pub returns : goal.returns
returns c = let a = c.args in fills_out a.out.now a.at a.b c.if-at-out.false
