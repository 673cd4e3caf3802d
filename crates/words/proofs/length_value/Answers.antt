-- `words::length_value` meets its contract.
use Rattle.terms.proofs.Common.{◌∙◌, arith}
use Rattle.words.proofs.{Worth.places_few, Worth.size_most, Worth.length_fine, Worth.length_is}
use Rattle.words.proofs.length_value.Goals as goal

pub returns-then-places-n : goal.returns-then-places-n
returns-then-places-n c = length_fine _ _ (rw c.places_of-places.ensures at c.if-places-n.true)

pub steps-requires : goal.steps-requires
steps-requires c = record { written = c.requires; decimals_le_places = (c.if-places-n.false, rw c.places_of-places.ensures (places_few c.args.unit)) }

pub overflow_mul-size : goal.overflow_mul-size
overflow_mul-size c = omega (arith, size_most _ _ _ c.steps.ensures.most c.units_of.ensures)

pub signed-requires : goal.signed-requires
signed-requires c = size_most _ _ _ c.steps.ensures.most c.units_of.ensures

pub returns : goal.returns
returns c = c.checked.ensures ∙ length_is _ _ _ _ _ _ c.if-places-n.false c.places_of-places.ensures c.steps.ensures c.units_of.ensures c.signed.ensures
