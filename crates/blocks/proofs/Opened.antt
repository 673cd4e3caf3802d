-- One name that opens every rule of this layer and of those below it, for a claim that holds by computation.
use Rattle.terms.proofs.Opened.{opened as terms-opened}
use Rattle.lengths.proofs.Opened.{opened as lengths-opened}
use Rattle.codes.proofs.Opened.{opened as codes-opened}
use Rattle.lines.proofs.Opened.{opened as lines-opened}
use Rattle.words.proofs.Opened.{opened as words_opened}
use Rattle.setup.proofs.Opened.{opened as setup-opened}
use Rattle.programs.proofs.Opened.{opened as programs_opened}
use Rattle.records.proofs.Opened.{opened as records-opened}
use Rattle.settings.proofs.Opened.{opened as settings-opened}
use Rattle.letters.proofs.Opened.{opened as letters-opened}
use Rattle.arcs.proofs.Opened.{opened as arcs-opened}
use Rattle.centres.proofs.Opened.{opened as centres-opened}
use Rattle.cycles.proofs.Opened.{opened as cycles-opened}
use Rattle.blocks.specs.{Machine.machine_of, Doing.made_of, Doing.executed, Calling.freely, Calling.called}
use Rattle.blocks.specs.Exec.{said_by, kept_by, working, spindle_records, moves_in, last_records, made_by, settled, control_of, at_word, lacks_centre, lacks_parameter, is_g17, drills, cannot_drill, calls_in, call_to, unknown_call, too_deep, at_start, blames, unless, judged, exec_words, exec}
use Rattle.blocks.specs.Motions.{centre_words, centre_for, arc_to, radius_fits, arc_moves, cycle_done, cycle_moves, motion_of, moves_of}

unfoldable pub opened : Unit {0}
unfolding
    terms-opened
    lengths-opened
    codes-opened
    lines-opened
    words_opened
    setup-opened
    programs_opened
    records-opened
    settings-opened
    letters-opened
    arcs-opened
    centres-opened
    cycles-opened
    said_by
    kept_by
    working
    spindle_records
    moves_in
    last_records
    made_by
    settled
    control_of
    at_word
    lacks_centre
    lacks_parameter
    is_g17
    drills
    cannot_drill
    calls_in
    call_to
    unknown_call
    too_deep
    at_start
    blames
    unless
    judged
    exec_words
    exec
    machine_of
    made_of
    executed
    freely
    called
    centre_words
    centre_for
    arc_to
    radius_fits
    arc_moves
    cycle_done
    cycle_moves
    motion_of
    moves_of
opened = tt
