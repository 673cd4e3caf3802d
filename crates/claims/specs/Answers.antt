-- What a caller gets, in the words of demands 1 and of stepping: the answer, and what one executed block more changes.
use Rattle.std.specs.Prelude.{◌≤◌, ◌≡◌, ◌∷◌, ◌++◌}
use Rattle.terms.specs.Common.{ℕ, suc, Bool, true, List, [], eqb, length}
use Rattle.terms.specs.Terms.{any}
use Rattle.lengths.specs.Units.{len}
use Rattle.refusals.specs.{declared.Refusal.Refusal, declared.Place.Place, Numbers.number_of, declared.Answer.Answer}
use Rattle.refusals.specs.declared.Answer.TheVariants.{Done, Unfinished, Refused}
use Rattle.setup.specs.{declared.Setup.Setup, Frame.point_of}
use Rattle.records.specs.declared.Record.{Record}
use Rattle.settings.specs.{declared.State.State, Settings.first_state}
use Rattle.programs.specs.Openings.{place_of}
use Rattle.runs.specs.declared.Budget.{Budget, TheVariants.First}
use Rattle.runs.specs.{Walk.ended, Walk.unfinished, Walk.refused_at, Walk.nowhere, Walk.just, Run.first_of, Run.outcome, Run.records_of, Run.answer_of, Run.standing_of}
use Rattle.claims.specs.Blockwise.{BlockDone, Stand, Turn, refuses, goes, ends, turn_at, place_ahead, job_for, first_blocks}

-- "Each program, setup and list buffer gets a finished list or one of sixteen numbered refusals with its place"; "not
-- finished" only where the host asked for the first n blocks. The answer counts the records that stand in the list.
pub data Answered (budget : Budget) (records : List Record) : Answer → Type 0 where
  finished : Answered budget records (Done (length records))
  not_finished : (n : ℕ) → budget ≡ First n → Answered budget records (Unfinished (length records))
  refusal :
      (r : Refusal) (place : Place) → 1 ≤ number_of r → number_of r ≤ 16
      → Answered budget records (Refused r place (length records))

-- "Order: 13, 12, 11; then per opening 1, 8, 7.": what is refused before any block is executed
abbrev pub early_numbers : List ℕ
early_numbers = 13 ∷ 12 ∷ 11 ∷ 1 ∷ 8 ∷ 7 ∷ []

-- "Then, block by block: 15 leftmost; 4 ..; 2 ..; 1 ..; 3; 5; 6; 4 ..; 1 by geometry; 16; 9; 10.", and 14 at a missing end. 16 is
-- not here: under a valid setup it does not come, and under another no block is reached.
abbrev pub block_numbers : List ℕ
block_numbers = 15 ∷ 4 ∷ 2 ∷ 1 ∷ 3 ∷ 5 ∷ 6 ∷ 9 ∷ 10 ∷ 14 ∷ []

abbrev pub numbered_in : List ℕ → Refusal → Bool
numbered_in ns r = any (eqb (number_of r)) ns

-- the settings that a run starts with, in machine units
abbrev pub start_settings : Setup → State
start_settings s = first_state (point_of s.start) (len s.feed) (len s.speed)

-- the block at a place is the one that a turn refuses or executes
unfoldable pub TurnsAt : Place → Turn → Type 0
TurnsAt next (refuses r place) = place.block ≡ next.block
TurnsAt next (goes d st) = place_of d.block ≡ next
TurnsAt next (ends d st) = place_of d.block ≡ next

module _ (s : Setup) (bytes : List ℕ) (room : ℕ) where
  -- "A refused block adds no record and changes no setting": the records are those of the run that stops before the block, and so
  -- are the settings that it answers. `made` and `last` are the list and the settings of the run that was refused.
  pub record RefusedBlock (r : Refusal) (place : Place) (made : List Record) (last : State) : Type 0 where
    pub before : ℕ
    pub next : Place
    pub stops : outcome s bytes room (First before) ≡ record { how = unfinished; made = made; last = last; next = next }
    pub refused :
        outcome s bytes room (First (suc before))
        ≡ record { how = refused_at r place; made = made; last = last; next = nowhere }
    pub settings :
        (standing_of s bytes room (First (suc before))).state ≡ (standing_of s bytes room (First before)).state
    pub stand : (first_blocks s bytes room (suc before)).stand ≡ (first_blocks s bytes room before).stand

  -- "Refusals 11 to 13 and of openings come at n = 0 too", with no record and the settings that a run starts with; all others at
  -- a block
  pub data RefusedWhere (r : Refusal) (place : Place) (made : List Record) (last : State) : Type 0 where
    at_once :
        numbered_in early_numbers r ≡ true
        → ((budget : Budget) → outcome s bytes room budget ≡ just (refused_at r place) (first_of s))
        → ((budget : Budget) → standing_of s bytes room budget ≡ record { state = start_settings s; next = nowhere })
        → made ≡ [] → last ≡ first_of s → RefusedWhere r place made last
    at_block : RefusedBlock r place made last → RefusedWhere r place made last

  -- "Each one more adds that block's records and no others; before the end the answer is 'not finished', and past the end
  -- or a refusal answer and list stay as they were", and so does where the run stands. The block is the one that the run reaches
  -- where it stands.
  pub data OneMore (n : ℕ) : Type 0 where
    stays :
        ((outcome s bytes room (First n)).how ≡ unfinished → ⊥)
        → outcome s bytes room (First (suc n)) ≡ outcome s bytes room (First n) → OneMore n
    refusing :
        (r : Refusal) (place : Place) → turn_at (job_for s bytes) (first_blocks s bytes room n).stand ≡ refuses r place
        → (outcome s bytes room (First n)).how ≡ unfinished
        → outcome s bytes room (First (suc n))
        ≡ record {
          how = refused_at r place;
          made = (outcome s bytes room (First n)).made;
          last = (outcome s bytes room (First n)).last;
          next = nowhere;
        }
        → OneMore n
    going :
        (d : BlockDone) (on : Stand) → turn_at (job_for s bytes) (first_blocks s bytes room n).stand ≡ goes d on
        → (outcome s bytes room (First n)).how ≡ unfinished
        → outcome s bytes room (First (suc n))
        ≡ record {
          how = unfinished;
          made = (outcome s bytes room (First n)).made ++ d.made;
          last = on.state;
          next = place_ahead on.ahead (job_for s bytes).finish;
        }
        → OneMore n
    ending :
        (d : BlockDone) (end : Stand) → turn_at (job_for s bytes) (first_blocks s bytes room n).stand ≡ ends d end
        → (outcome s bytes room (First n)).how ≡ unfinished
        → outcome s bytes room (First (suc n))
        ≡ record {
          how = ended;
          made = (outcome s bytes room (First n)).made ++ d.made;
          last = end.state;
          next = nowhere;
        }
        → OneMore n

  -- with one budget a caller gets what it gets with another: the answer, the list, and where the run stands
  pub record SameTold (one other : Budget) : Type 0 where
    pub answer : answer_of s bytes room one ≡ answer_of s bytes room other
    pub records : records_of s bytes room one ≡ records_of s bytes room other
    pub standing : standing_of s bytes room one ≡ standing_of s bytes room other
