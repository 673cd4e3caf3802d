-- `settings::aimed` meets its contract: what the word counts from leaves the sum room.
use Rattle.terms.proofs.Common.{arith}
use Rattle.lengths.specs.View.{Within}
use Rattle.settings.specs.Target.{aimed}
use Rattle.settings.proofs.{Near.base_near}
use Rattle.settings.proofs.aimed.Goals as goal

pub plus-requires : goal.plus-requires
plus-requires c =
    let a = c.args in
    let word : Within 1_000_000_000 c.in-Some.v.v = rw c.in-Some.is at c.requires.word in
    rw c.base.ensures
    (omega (arith, word, base_near {m = 2_100_000_000} a.origin a.from (omega arith) (omega arith) a.d))

pub returns-in-Some : goal.returns-in-Some
unfolding aimed
returns-in-Some c = rw (c.plus.ensures.is, c.base.ensures, c.in-Some.is)

pub returns-in-None : goal.returns-in-None
unfolding aimed
returns-in-None c = rw c.in-None.is
