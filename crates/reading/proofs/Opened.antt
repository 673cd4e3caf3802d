-- One name that opens every rule of this layer and of those below it, for a claim that holds by computation.
use Rattle.terms.proofs.Opened.{opened as terms-opened}
use Rattle.lengths.proofs.Opened.{opened as lengths-opened}
use Rattle.codes.proofs.Opened.{opened as codes-opened}
use Rattle.lines.proofs.Opened.{opened as lines-opened}
use Rattle.words.proofs.Opened.{opened as words_opened}
use Rattle.settings.proofs.Opened.{opened as settings-opened}
use Rattle.letters.proofs.Opened.{opened as letters-opened}
use Rattle.reading.specs.{Items.placed, Items.status_after, Whole.standing, Whole.status_of}

unfoldable pub opened : Unit {0}
unfolding
    terms-opened
    lengths-opened
    codes-opened
    lines-opened
    words_opened
    settings-opened
    letters-opened
    placed
    status_after
    standing
    status_of
opened = tt
