-- One name that opens every rule of this layer and of those below it, for a claim that holds by computation.
use Rattle.terms.proofs.Opened.{opened as terms-opened}
use Rattle.lengths.proofs.Opened.{opened as lengths-opened}
use Rattle.codes.proofs.Opened.{opened as codes-opened}
use Rattle.words.proofs.Opened.{opened as words_opened}
use Rattle.lines.specs.{Comments.inside_at, Gaps.no_words, Gaps.only_gaps, Closing.comment_by}
use Rattle.lines.specs.Blocks.{begins_with, text_from, no_text, length_from, blocks_after, blocks_of, is_percent}

unfoldable pub opened : Unit {0}
unfolding
    terms-opened
    begins_with
    text_from
    no_text
    length_from
    blocks_after
    blocks_of
    is_percent
    lengths-opened
    codes-opened
    words_opened
    inside_at
    comment_by
    no_words
    only_gaps
opened = tt
