-- `svg::forms::put_text` meets its contract: what is written so far are the first bytes of the text.
use Rattle.terms.proofs.Common.{arith, take_all}
use Rattle.svg.proofs.{Filled.fills_none, Filled.fills_more}
use Rattle.svg.proofs.forms.put_text.Goals as goal

pub loop-b-init : goal.loop-b-init
loop-b-init c = let a = c.args in fills_none a.out.now a.at

pub loop-b-preserved : goal.loop-b-preserved
loop-b-preserved c = fills_more c.args.text.now c.loop-b.b-index c.loop-b-test.true c.loop-b.invariant c.put_byte-next.ensures

pub returns : goal.returns
returns c = rw (take_all c.loop-b.b-index c.args.text.now (omega arith)) at c.loop-b.invariant
