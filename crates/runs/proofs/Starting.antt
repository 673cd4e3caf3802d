-- What a run starts with, and where one stands that is refused before any block. Assumes nothing.
use Rattle.terms.proofs.Common.{◌≡◌, ◌∙◌, ap, true, arith, ℤ, ◌+ℤ◌, ◌-ℤ◌}
use Rattle.refusals.specs.declared.{Refusal.Refusal, Place.Place, Answer.TheVariants.Refused}
use Rattle.lengths.{specs.declared.Len.Len, specs.Units.len, specs.declared.Point.Point, specs.Points.moved, specs.Points.moved_back, proofs.Laws.diff_bal, proofs.Ring.var, proofs.Ring.◌⊞◌, proofs.Ring.◌⊟◌, proofs.Ring.same}
use Rattle.setup.specs.{declared.Setup.Setup, Limits.valid_setup, Frame.point_of, Frame.offset, Frame.start_of, Frame.bed_of}
use Rattle.setup.proofs.Valid.{start_inside, valid_feed, valid_speed, valid_start, valid_offset}
use Rattle.records.specs.Layout.{room_of}
use Rattle.settings.{specs.declared.State.State, specs.Settings.first_modes, specs.Settings.first_state, specs.Settings.state_moved, proofs.Starting.first_moved, proofs.Keeping.none_near}
use Rattle.blocks.specs.Reach.{Reachable}
use Rattle.runs.specs.{Walk.nowhere, Walk.just, Walk.refused_at, Run.first_of, Run.answer_by, Serving.report_by}

-- a run begins in a state that a run can reach
pub first_reached : (s : Setup) → valid_setup s ≡ true → Reachable (bed_of s) (first_of s)
unfolding first_of first_state first_modes bed_of start_of moved_back offset
first_reached s v =
    record {
      at = start_inside s v;
      origin = omega arith;
      feed = valid_feed s v;
      speed = valid_speed s v;
      kept = none_near (start_of s).z (omega (arith, diff_bal s.start.z s.exofs.z, (valid_start s v).z, (valid_offset s v).z));
    }

-- A run that is refused before any block stands at the setup's start: what the frame takes off, the machine's units add again.
pub start_is : (s : Setup) → point_of s.start ≡ moved (offset s) (start_of s)
unfolding moved start_of moved_back offset
start_is s = points (again s.start.x s.exofs.x) (again s.start.y s.exofs.y) (again s.start.z s.exofs.z)
  where
    again : (a d : ℤ) → a ≡ (a -ℤ d) +ℤ d
    again a d = same (var a) (var a ⊟ var d ⊞ var d) (omega arith)

    points : {a b c d e f : ℤ} → a ≡ d → b ≡ e → c ≡ f → point_of (record { x = a; y = b; z = c }) ≡ point_of (record { x = d; y = e; z = f })
    points h j k = rw (h, j, k)

pub first_is : (s : Setup) (feed speed : Len) → first_state (point_of s.start) feed speed ≡ state_moved (offset s) (first_state (start_of s) feed speed)
first_is s feed speed = ap (λ (p : Point). first_state p feed speed) (start_is s) ∙ first_moved (offset s) (start_of s) feed speed

pub stands_at_start :
    (s : Setup) (refusal : Refusal) (place : Place) {start : Point} {feed speed : Len} {state : State} → start ≡ point_of s.start → feed ≡ len s.feed
    → speed ≡ len s.speed → state ≡ first_state start feed speed
    → record { answer = Refused refusal place 0; standing = record { state = state; next = nowhere }; end = 0 }
    ≡ report_by (offset s) (just (refused_at refusal place) (first_of s))
unfolding report_by answer_by first_of room_of
stands_at_start s refusal place e f g h = rw (h, e, f, g, first_is s (len s.feed) (len s.speed))
