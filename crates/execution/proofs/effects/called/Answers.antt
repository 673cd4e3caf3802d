-- `execution::effects::called` meets its contract.
use Rattle.terms.proofs.Common.{◌≡◌, arith}
use Rattle.lengths.proofs.Laws.{abs_sum}
use Rattle.words.specs.Values.{worth}
use Rattle.execution.proofs.effects.called.Goals as goal

pub returns : goal.returns
returns c =
    let e : c.unwrap_or.result ≡ worth c.args.p = rw (c.unwrap_or.ensures, c.zero.ensures.is) in
    rw (← e) (omega (arith, abs_sum c.unwrap_or.result.v))
