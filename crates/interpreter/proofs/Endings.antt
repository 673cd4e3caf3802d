-- How walks end and what they leave in the list: with nothing more to do, after records, and after a call. Assumes nothing.
use Rattle.terms.proofs.Common.{ℕ, ◌+◌, ◌≤◌, ◌≡◌, refl, sym, ◌∙◌, ap, List, [], ◌∷◌, ◌++◌, map, append-nil, arith, length, length-append, sets, length-sets}
use Rattle.lengths.specs.declared.Point.{Point}
use Rattle.setup.specs.declared.Bed.{Bed}
use Rattle.records.specs.{declared.Record.Record, Layout.kind_of, Layout.room_of, Layout.list_bytes, Path.record_moved, Serving.Wrote, Writing.moved_bytes}
use Rattle.records.proofs.{Laid.mark_room, Laid.list_length, Moved.room_append, Moved.moved_room, Moved.put_then}
use Rattle.settings.specs.declared.State.{State}
use Rattle.refusals.specs.declared.Place.{Place}
use Rattle.runs.specs.declared.Progress.{Progress}
use Rattle.runs.specs.Walk.{Going, returned, Outcome, after, then_rest}
use Rattle.interpreter.specs.declared.{How.How, Ending.Ending}
use Rattle.interpreter.specs.Progressing.{going_of, how_by, next_by, outcome_by, Ran, Fits}
use Rattle.interpreter.specs.declared.How.TheVariants.{Ended, Returned, Unfinished, Refused}

-- a record takes a byte at least
pub count_room : (rs : List Record) → length rs ≤ room_of rs
unfolding room_of
count_room [] = omega arith
count_room (r ∷ rs) = omega (arith, count_room rs, mark_room (kind_of r))

pub moved_length : (by : Point) (made : List Record) → length (moved_bytes by made) ≡ room_of made
moved_length by made = list_length (map (record_moved by) made) ∙ moved_room by made

-- what follows a call that does not come back
then_nothing :
    (how : How) (place : Place) (g : Going) (made : List Record) (s : State) (rest : Going → Outcome) → (how ≡ Returned → ⊥)
    → after made (then_rest (how_by how place g) s (next_by how place) rest)
    ≡ record { how = how_by how place g; made = made; last = s; next = next_by how place }
unfolding after then_rest how_by next_by
then_nothing Ended place g made s rest never = rw (append-nil made)
then_nothing Returned place g made s rest never = absurd (never refl)
then_nothing Unfinished place g made s rest never = rw (append-nil made)
then_nothing (Refused refusal) place g made s rest never = rw (append-nil made)

module _ (bed : Bed) where
  -- nothing more is done
  pub ran_still : {l : List ℕ} (r : Ending) → Fits bed (length l) r.progress → Ran bed (outcome_by (length l) r []) r.progress l l r
  unfolding outcome_by list_bytes room_of
  ran_still r fits = record { outcome = refl; next = omega arith; count = omega arith; bytes = refl; fits = fits }

  -- an outcome after records
  pub ran_after :
      {o : Outcome} {p q : Progress} {was is last : List ℕ} {r : Ending} (made : List Record)
      → is ≡ sets was p.next (moved_bytes bed.offset made) → q.next ≡ p.next + room_of made → q.count ≡ p.count + length made
      → Ran bed o q is last r → Ran bed (after made o) p was last r
  unfolding after outcome_by
  ran_after {o} {p} {q} {was} {is} {last} {r} made b n k ran =
      let same : length is ≡ length was = ap length b ∙ length-sets was p.next (moved_bytes bed.offset made) in
      let place : q.next ≡ p.next + length (moved_bytes bed.offset made) = omega (arith, moved_length bed.offset made) in
      let first : Wrote was p.next (moved_bytes bed.offset made) is q.next = record { bytes = b; place = place } in
      let rest : Wrote is q.next (moved_bytes bed.offset o.made) last (q.next + length (moved_bytes bed.offset o.made)) =
      record { bytes = ran.bytes; place = refl }
      in
      let told : after made o ≡ outcome_by (length is) r (made ++ o.made) = ap (after made) ran.outcome in
      record {
        outcome = rw same at told;
        next = omega (arith, ran.next, room_append made o.made);
        count = omega (arith, ran.count, length-append made o.made);
        bytes = (put_then bed.offset made o.made first rest).bytes;
        fits = rw same at ran.fits;
      }

  module _ {o : Outcome} {p : Progress} {was is : List ℕ} {r : Ending} (ran : Ran bed o p was is r) where
    pub ran_length : length is ≡ length was
    ran_length = ap length ran.bytes ∙ length-sets was p.next (moved_bytes bed.offset o.made)

    -- "M99: returns": what follows a call that came back
    pub ran_then :
        {last : List ℕ} {x : Ending} (rest : Going → Outcome) → r.how ≡ Returned
        → Ran bed (rest (going_of (length was) r.progress)) r.progress is last x
        → Ran bed (after o.made (then_rest o.how o.last o.next rest)) p was last x
    unfolding outcome_by how_by then_rest
    ran_then rest e h =
        let g = going_of (length was) r.progress in
        let back : o.how ≡ returned g = ap (λ (u : Outcome). u.how) ran.outcome ∙ ap (λ (how : How). how_by how r.place g) e in
        rw back (ran_after o.made ran.bytes ran.next ran.count h)

    -- and what follows one that did not
    pub ran_stops :
        (rest : Going → Outcome) → (r.how ≡ Returned → ⊥) → Ran bed (after o.made (then_rest o.how o.last o.next rest)) p was is r
    unfolding outcome_by
    ran_stops rest never =
        let stops : after o.made (then_rest o.how o.last o.next rest) ≡ o =
        ap (λ (u : Outcome). after o.made (then_rest u.how u.last u.next rest)) ran.outcome
        ∙ then_nothing r.how r.place (going_of (length was) r.progress) o.made r.progress.state rest never
        ∙ sym ran.outcome
        in
        rw stops ran
