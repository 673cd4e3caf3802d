-- One name that opens every rule of this layer and of those below it, for a claim that holds by computation.
use Rattle.terms.proofs.Opened.{opened as terms-opened}
use Rattle.lengths.proofs.Opened.{opened as lengths-opened}
use Rattle.codes.proofs.Opened.{opened as codes-opened}
use Rattle.lines.proofs.Opened.{opened as lines-opened}
use Rattle.words.proofs.Opened.{opened as words_opened}
use Rattle.programs.specs.{Found.table_of}
use Rattle.programs.specs.Openings.{number_after_o, opening_of, is_taken, entry_of, entered, scan_block, scan, main_as, programs_from, known}

unfoldable pub opened : Unit {0}
unfolding
    terms-opened
    lengths-opened
    codes-opened
    lines-opened
    words_opened
    table_of
    number_after_o
    opening_of
    is_taken
    entry_of
    entered
    scan_block
    scan
    main_as
    programs_from
    known
opened = tt
