-- One name that opens every rule of this layer and of those below it, for a claim that holds by computation.
use Rattle.terms.proofs.Opened.{opened as terms-opened}
use Rattle.lengths.proofs.Opened.{opened as lengths-opened}
use Rattle.codes.proofs.Opened.{opened as codes-opened}
use Rattle.lines.proofs.Opened.{opened as lines-opened}
use Rattle.words.proofs.Opened.{opened as words_opened}
use Rattle.setup.proofs.Opened.{opened as setup-opened}
use Rattle.records.proofs.Opened.{opened as records-opened}
use Rattle.settings.proofs.Opened.{opened as settings-opened}
use Rattle.letters.proofs.Opened.{opened as letters-opened}
use Rattle.arcs.proofs.Opened.{opened as arcs-opened}
use Rattle.cycles.proofs.Opened.{opened as cycles-opened}
use Rattle.blocks.proofs.Opened.{opened as blocks-opened}
use Rattle.programs.proofs.Opened.{opened as programs_opened}
use Rattle.runs.specs.Run.{first_of, finish_of, run_table, run_blocks, outcome, records_of, answer_by, answer_of, standing_of}
use Rattle.runs.specs.Walk.{is_spent, one_less, after, going_on, then_rest, follow, obey, is_skipped, slash_length, verdict_on, run_block, reached, walk, blocks_for, callees}

unfoldable pub opened : Unit {0}
unfolding
    terms-opened lengths-opened codes-opened lines-opened words_opened setup-opened records-opened settings-opened
    letters-opened arcs-opened cycles-opened blocks-opened programs_opened first_of finish_of run_table run_blocks outcome records_of
    answer_by answer_of standing_of is_spent one_less after going_on then_rest follow obey is_skipped slash_length verdict_on run_block reached
    walk blocks_for callees
opened = tt
