-- One name that opens every rule of this layer and of those below it, for a claim that holds by computation.
use Rattle.terms.proofs.Opened.{opened as terms-opened}
use Rattle.lengths.proofs.Opened.{opened as lengths-opened}
use Rattle.codes.proofs.Opened.{opened as codes-opened}
use Rattle.lines.proofs.Opened.{opened as lines-opened}
use Rattle.words.proofs.Opened.{opened as words_opened}
use Rattle.settings.proofs.Opened.{opened as settings-opened}
use Rattle.letters.specs.Judging.{unused_or, bad_or, judged_by, valued, value_next, judged_next, judged_all, judged_after}
use Rattle.letters.specs.Letters.{is_known, code_in, misc_in, stands_alone, wrong_program, repeats, bad_g, bad_m, may_not_stand, first_that_may_not, misc_or_other, misc_of_block, modes_in, names_group_a, names_g04, code_under, block_code, end_letters, centre_letters, arc_letters, drilling_letters, motion_letters, letters_of, use_of, is_nothing, turns, is_arc, names_centre, has_centre, is_unused, first_unused, word_value, is_bad, first_bad_value, with_value, values_after}

unfoldable pub opened : Unit {0}
unfolding
    terms-opened
    lengths-opened
    codes-opened
    lines-opened
    words_opened
    settings-opened
    unused_or
    bad_or
    judged_by
    valued
    value_next
    judged_next
    judged_all
    judged_after
    is_known
    code_in
    misc_in
    stands_alone
    wrong_program
    repeats
    bad_g
    bad_m
    may_not_stand
    first_that_may_not
    misc_or_other
    misc_of_block
    modes_in
    names_group_a
    names_g04
    code_under
    block_code
    end_letters
    centre_letters
    arc_letters
    drilling_letters
    motion_letters
    letters_of
    use_of
    is_nothing
    turns
    is_arc
    names_centre
    has_centre
    is_unused
    first_unused
    word_value
    is_bad
    first_bad_value
    with_value
    values_after
opened = tt
