-- One name that opens every rule of this layer and of those below it, for a claim that holds by computation.
use Rattle.terms.proofs.Opened.{opened as terms-opened}
use Rattle.codes.specs.Codes.{code_of, misc_of, group_of, is_group_a, is_g04, clash, misc_number, cycle_number, is_m}

unfoldable pub opened : Unit {0}
unfolding
    terms-opened
    code_of
    misc_of
    group_of
    is_group_a
    is_g04
    clash
    misc_number
    cycle_number
    is_m
opened = tt
