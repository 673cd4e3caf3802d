-- `setups::name_of` meets its contract: its tests are those of the definition.
use Rattle.terms.proofs.Common.{◌%◌, le-leb, lt-leb, eq-eqb, ne_eqb}
use Rattle.setups.specs.Setups.{name_of}
use Rattle.setups.proofs.name_of.Goals as goal

pub returns-then-k-ge30-clause-value : goal.returns-then-k-ge30-clause-value
unfolding name_of
returns-then-k-ge30-clause-value c = rw (le-leb 30 c.args.k c.if-k-ge30.true)

pub returns-then-k-eq0-clause-value : goal.returns-then-k-eq0-clause-value
unfolding name_of
returns-then-k-eq0-clause-value c =
    rw (lt-leb 30 c.args.k c.if-k-ge30.false, eq-eqb (c.args.k % 3) 0 c.if-k-eq0.true)

pub returns-clause-value : goal.returns-clause-value
unfolding name_of
returns-clause-value c =
    rw (lt-leb 30 c.args.k c.if-k-ge30.false, ne_eqb (c.args.k % 3) 0 c.if-k-eq0.false)
