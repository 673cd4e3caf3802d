-- `interpreter::run_main` meets its contract.
use Rattle.terms.proofs.Common.{◌≡◌, refl, sym, ◌∙◌, ap, length}
use Rattle.setup.{specs.declared.Bed.Bed, specs.Frame.offset, specs.Frame.bed_of, specs.Fair.Fair, proofs.Valid.fair}
use Rattle.runs.specs.Serving.{report_by}
use Rattle.interpreter.specs.{Progressing.going_of, Progressing.outcome_by}
use Rattle.interpreter.proofs.{Starting.first_fits, Starting.main_begins, Starting.task_sound, Starting.main_walk, Starting.main_sums, Starting.main_gives}
use Rattle.interpreter.proofs.run_main.Goals as goal

pub run_program-ending-requires : goal.run_program-ending-requires
run_program-ending-requires c =
    let bed-fair : Fair c.bed_of.result = let setup = c.args.setup in
    let known = c.well_formed.0.1.1.1.1.1.1.0.1.0.1 in
    rw c.bed_of.ensures (fair setup c.requires.setup_value known) in
    let a = c.args in
    record {
      sound = task_sound c.requires.opened c.skips.result bed-fair;
      placed = main_begins c.requires.opened;
      fits = first_fits a.setup c.requires.setup_value (length a.list.now) a.budget c.bed_of.ensures c.first_state.ensures;
    }

pub state_moved-state-requires : goal.state_moved-state-requires
unfolding bed_of offset
state_moved-state-requires c =
    let bed-fair : Fair c.bed_of.result = let setup = c.args.setup in
    let known = c.well_formed.0.1.1.1.1.1.1.0.1.0.1 in
    rw c.bed_of.ensures (fair setup c.requires.setup_value known) in
    main_sums c.run_program-ending.ensures bed-fair (c.point_of.ensures ∙ sym (ap (λ (b : Bed). b.offset) c.bed_of.ensures))

pub returns : goal.returns
unfolding bed_of offset report_by outcome_by
returns c =
    let a = c.args in
    main_gives c.run_program-ending.ensures (ap (λ (b : Bed). b.offset) c.bed_of.ensures) refl refl
    (main_walk c.requires.opened a.setup (length a.list.now) a.budget c.bed_of.ensures c.first_state.ensures c.skips.ensures)
    (λ room made e f.
    rw (c.answer_by.ensures (going_of room c.run_program-ending.result.progress), c.next_by-next.ensures, c.state_moved-state.ensures, c.point_of.ensures, e, f))
