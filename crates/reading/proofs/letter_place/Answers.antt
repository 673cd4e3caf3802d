use Rattle.reading.proofs.{Letters.from_a}
use Rattle.reading.proofs.letter_place.Goals as goal

pub overflow_sub-result : goal.overflow_sub-result
overflow_sub-result c = from_a c.args.b c.requires
