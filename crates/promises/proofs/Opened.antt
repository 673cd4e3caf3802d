-- One name that opens every rule of this layer and of those below it, for a claim that holds by computation.
use Rattle.runs.proofs.Opened.{opened as runs-opened}
use Rattle.promises.specs.Duplicates.{with_block, openings_in, openings_of, percent_begins, main_opens, most_openings, all_different}

unfoldable pub opened : Unit {0}
unfolding
    runs-opened with_block openings_in openings_of percent_begins main_opens most_openings all_different
opened = tt
