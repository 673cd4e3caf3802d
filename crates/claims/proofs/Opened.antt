-- One name that opens every rule of this layer and of those below it, for a claim that holds by computation.
use Rattle.runs.proofs.Opened.{opened as runs-opened}
use Rattle.claims.specs.{Travel.in_travel, Answers.TurnsAt, Displaced.stay_in}
use Rattle.claims.specs.Blockwise.{past, in_callee, returning, led, turn_by, verdict_in, turn_under, turn_unless, turn_in, turn_at, after_turn, turned_unless, one_more, more, records_by, how_sofar, place_ahead, next_sofar, outcome_sofar, table_in, subs_of, job_for, stand_at, refused_at_once, begun_by, begun, first_blocks}

unfoldable pub opened : Unit {0}
unfolding
    runs-opened past in_callee returning led turn_by verdict_in turn_under turn_unless turn_in turn_at after_turn turned_unless one_more more
    records_by how_sofar place_ahead next_sofar outcome_sofar table_in subs_of job_for stand_at refused_at_once begun_by begun first_blocks
    in_travel TurnsAt stay_in
opened = tt
