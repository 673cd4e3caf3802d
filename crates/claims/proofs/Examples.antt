-- The worked pairs of demand 3, by computation.
use Rattle.terms.proofs.Common.{◌≡◌, refl, Bool, true, false, [], ◌∷◌, pos}
use Rattle.refusals.specs.{Answers.refused_with, Answers.report_of, declared.Answer.TheVariants.Done}
use Rattle.setup.specs.{declared.Axes.Axes, Examples.setup_t, Limits.valid_setup}
use Rattle.runs.specs.{Examples.room_t, declared.Budget.Budget, declared.Budget.TheVariants.Whole, declared.Budget.TheVariants.First, Run.records_of, Run.answer_of, Run.standing_of}
use Rattle.claims.specs.Displaced.{displaced, all_moved, standing_moved, stay_in, LeavesFirst}
use Rattle.claims.specs.Examples.{turn, touching, leaving, rapid, turn_records}
use Rattle.claims.proofs.{Opened.opened, Displaced.moves_the_cut, Displaced.refuses_for_travel}

-- under setup T, whole and with the first three blocks, in which the program ends
pub turn_done :
    (valid_setup setup_t ≡ true) × (answer_of setup_t turn room_t Whole ≡ Done 3) × (answer_of setup_t turn room_t (First 3) ≡ Done 3)
    × (records_of setup_t turn room_t Whole ≡ turn_records (pos 1_000_000))
unfolding opened
turn_done = (refl, refl, refl, refl)

-- the records under setup T, displaced, stay in the travel of the setup displaced alike
abbrev StaysIn : Axes → Budget → Bool
StaysIn by budget = stay_in (displaced by setup_t) (all_moved by (records_of setup_t turn room_t budget))

-- ---- displaced to where the path touches the travel's end

pub path_touches :
    (valid_setup (displaced touching setup_t) ≡ true) × (StaysIn touching Whole ≡ true) × (StaysIn touching (First 3) ≡ true)
    × (answer_of (displaced touching setup_t) turn room_t Whole ≡ Done 3)
    × (records_of (displaced touching setup_t) turn room_t Whole ≡ turn_records (pos 14_500_000))
unfolding opened
path_touches = (refl, refl, refl, refl, refl)

-- the same by the first half of the demand
abbrev Moved : Budget → Type 0
Moved b =
    (answer_of (displaced touching setup_t) turn room_t b ≡ Done 3)
    × (records_of (displaced touching setup_t) turn room_t b ≡ all_moved touching (records_of setup_t turn room_t b))
    × (standing_of (displaced touching setup_t) turn room_t b ≡ standing_moved touching (standing_of setup_t turn room_t b))

pub touching_moved : Moved Whole × Moved (First 3)
touching_moved =
    let cut = moves_the_cut touching setup_t turn room_t turn_done.0 path_touches.0 refl in
    (cut Whole 3 turn_done.1 path_touches.1, cut (First 3) 3 turn_done.2 path_touches.2)

-- ---- one unit more: refused with 9 at the turn, block 3, whose first byte is 12, with the rapid before it displaced

pub path_leaves :
    (valid_setup (displaced leaving setup_t) ≡ true) × (StaysIn leaving Whole ≡ false) × (StaysIn leaving (First 3) ≡ false)
    × (report_of (answer_of (displaced leaving setup_t) turn room_t Whole) ≡ refused_with 9 (record { block = 3; byte = 12 }) 1)
    × (records_of (displaced leaving setup_t) turn room_t Whole ≡ rapid (pos 14_500_001) ∷ [])
unfolding opened
path_leaves = (refl, refl, refl, refl, refl)

-- the same by the second half of the demand
pub leaving_first : LeavesFirst leaving setup_t turn room_t Whole × LeavesFirst leaving setup_t turn room_t (First 3)
leaving_first =
    let refuses = refuses_for_travel leaving setup_t turn room_t turn_done.0 path_leaves.0 refl in
    (refuses Whole 3 turn_done.1 path_leaves.1, refuses (First 3) 3 turn_done.2 path_leaves.2)
