-- One name that opens every rule of this layer and of those below it, for a claim that holds by computation.
use Rattle.terms.proofs.Opened.{opened as terms-opened}
use Rattle.lengths.proofs.Opened.{opened as lengths-opened}
use Rattle.codes.proofs.Opened.{opened as codes-opened}
use Rattle.words.specs.Packed.{sign_number, sign_at, packed, unpacked, words_in}
use Rattle.words.specs.Numbers.{sign_of, sign_length, run, count, digits_after, decimals_of, is_numeral, number_by, number_in}
use Rattle.words.specs.Values.{unsigned, is_plain, signed, decimals_fit, steps_of, places_of, units_of, length_of, is_length, dwell_of, is_dwell, count_of, checked, value_of}
use Rattle.words.specs.Words.{one_more, closing, comment_item, word_item, item_at, with_word, item_then, words_after}

unfoldable pub opened : Unit {0}
unfolding
    terms-opened
    lengths-opened
    codes-opened
    sign_of
    sign_length
    run
    count
    digits_after
    decimals_of
    is_numeral
    number_by
    number_in
    unsigned
    is_plain
    signed
    decimals_fit
    steps_of
    places_of
    units_of
    length_of
    is_length
    dwell_of
    is_dwell
    count_of
    checked
    value_of
    sign_number
    sign_at
    packed
    unpacked
    words_in
    one_more
    closing
    comment_item
    word_item
    item_at
    with_word
    item_then
    words_after
opened = tt
