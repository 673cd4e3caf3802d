-- `letters::has_centre` meets its contract.
use Rattle.terms.proofs.Common.{rules}
use Rattle.letters.specs.Letters.{has_centre}
use Rattle.letters.proofs.has_centre.Goals as goal

pub is_arc-requires : goal.is_arc-requires
unfolding has_centre
is_arc-requires c = search rules

pub names_centre-requires : goal.names_centre-requires
unfolding has_centre
names_centre-requires c = search rules

pub returns : goal.returns
unfolding has_centre
returns c = λ ws seen. rw (c.is_arc.ensures, c.names_centre.ensures ws seen)
