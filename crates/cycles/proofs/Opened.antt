-- One name that opens every rule of this layer and of those below it, for a claim that holds by computation.
use Rattle.terms.proofs.Opened.{opened as terms-opened}
use Rattle.lengths.proofs.Opened.{opened as lengths-opened}
use Rattle.codes.proofs.Opened.{opened as codes-opened}
use Rattle.lines.proofs.Opened.{opened as lines-opened}
use Rattle.words.proofs.Opened.{opened as words_opened}
use Rattle.records.proofs.Opened.{opened as records-opened}
use Rattle.settings.proofs.Opened.{opened as settings-opened}
use Rattle.arcs.proofs.Opened.{opened as arcs-opened}
use Rattle.cycles.specs.Cycles.{level_r, level_z, hole_of, levels_hold, level_for, return_level, dwelling, up_under, leaving, pass_to, passes_at, pass_count, passes}

unfoldable pub opened : Unit {0}
unfolding
    terms-opened
    lengths-opened
    codes-opened
    lines-opened
    words_opened
    records-opened
    settings-opened
    arcs-opened
    level_r
    level_z
    hole_of
    levels_hold
    level_for
    return_level
    dwelling
    up_under
    leaving
    pass_to
    passes_at
    pass_count
    passes
opened = tt
