-- What the rules give for the sample of document 01, for small runs, for arcs by their radius and for holes after the first, by
-- computation.
use Rattle.terms.proofs.Common.{◌≡◌, refl, map}
use Rattle.refusals.specs.{Answers.refused_with, Answers.report_of, declared.Answer.TheVariants.Done}
use Rattle.setup.specs.Examples.{setup_t}
use Rattle.runs.specs.{Walk.nowhere, Run.answer_of, Run.records_of, Run.standing_of, declared.Budget.TheVariants.Whole, declared.Budget.TheVariants.First}
use Rattle.runs.specs.Examples.{room_t, sample, sample_records, too_far, too_far_settings, rows, answer_of_row, radius_arcs, records_of_row, later_holes, plate, plate_in_full, outside_hole, outside_kept}
use Rattle.runs.proofs.Opened.{opened}

-- the seven blocks give eight records and `done 8`
pub sample_records_lem : records_of setup_t sample room_t Whole ≡ sample_records
unfolding opened
sample_records_lem = refl

pub sample_answer : answer_of setup_t sample room_t Whole ≡ Done 8
unfolding opened
sample_answer = refl

pub examples_hold : map answer_of_row rows ≡ map (λ r. r.answer) rows
unfolding opened answer_of_row
examples_hold = refl

-- arcs by their radius
pub radius_records : map (λ l. records_of_row l.run) radius_arcs ≡ map (λ l. l.records) radius_arcs
unfolding opened records_of_row
radius_records = refl

pub radius_answers : map (λ l. answer_of_row l.run) radius_arcs ≡ map (λ l. l.run.answer) radius_arcs
unfolding opened answer_of_row
radius_answers = refl

-- holes after the first
pub hole_records : map (λ l. records_of_row l.run) later_holes ≡ map (λ l. l.records) later_holes
unfolding opened records_of_row
hole_records = refl

pub hole_answers : map (λ l. answer_of_row l.run) later_holes ≡ map (λ l. l.run.answer) later_holes
unfolding opened answer_of_row
hole_answers = refl

-- a plate as it is written (for every plate: `holes-after-the-first` of `claims`)
pub plate_records : records_of setup_t plate room_t Whole ≡ records_of setup_t plate_in_full room_t Whole
unfolding opened
plate_records = refl

-- ---- where a run stands

-- what is kept before a block that is refused, and after it
pub kept_before : (standing_of setup_t outside_hole room_t (First 2)).state.kept ≡ outside_kept
unfolding opened
kept_before = refl

pub kept_refused : (standing_of setup_t outside_hole room_t Whole).state.kept ≡ outside_kept
unfolding opened
kept_refused = refl

pub outside_refused : report_of (answer_of setup_t outside_hole room_t Whole) ≡ refused_with 9 (record { block = 4; byte = 23 }) 1
unfolding opened
outside_refused = refl

-- after one block it stands before the next, block 3, whose first byte is 21
pub far_one : standing_of setup_t too_far room_t (First 1) ≡ record { state = too_far_settings; next = record { block = 3; byte = 21 } }
unfolding opened
far_one = refl

pub far_refused : report_of (answer_of setup_t too_far room_t (First 2)) ≡ refused_with 9 (record { block = 3; byte = 21 }) 1
unfolding opened
far_refused = refl

-- "the settings are those before the block"
pub far_two : standing_of setup_t too_far room_t (First 2) ≡ record { state = too_far_settings; next = nowhere }
unfolding opened
far_two = refl
