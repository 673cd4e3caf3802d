-- One name that opens every rule of this layer and of those below it, for a claim that holds by computation.
use Rattle.terms.specs.Terms.{first_of, first, any, all, stands, lookup}

unfoldable pub opened : Unit {0}
unfolding
    first_of
    first
    any
    all
    stands
    lookup
opened = tt
