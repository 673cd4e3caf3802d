-- `words::units_of` meets its contract, unit by unit.
use Rattle.words.specs.Values.{units_of}
use Rattle.words.proofs.units_of.Goals as goal

pub returns-in-Millimetre : goal.returns-in-Millimetre
unfolding units_of
returns-in-Millimetre c = rw c.in-Millimetre.is

pub returns-in-Inch : goal.returns-in-Inch
unfolding units_of
returns-in-Inch c = rw c.in-Inch.is
