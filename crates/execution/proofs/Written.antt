-- A planned block that has been tested: refused, or written as the rules say. Assumes nothing.
use Rattle.std.specs.Prelude.{Ok, Err}
use Rattle.terms.proofs.Common.{ℕ, ◌+◌, ◌-◌, ◌≤◌, ◌<◌, ◌≡◌, refl, sym, ◌∙◌, Bool, true, false, Option, None, Some, List, ◌++◌, arith, lt-ltb, le-ltb, length}
use Rattle.refusals.specs.declared.Refusal.{Refusal, TheVariants.BadParameter, TheVariants.LeavesTravel, TheVariants.NoRoom}
use Rattle.codes.specs.declared.Misc.{Misc}
use Rattle.words.specs.declared.Word.{Word}
use Rattle.lengths.specs.declared.Point.{Point}
use Rattle.records.specs.{declared.Record.Record, Layout.room_of, Path.end_of, Path.path_stays_in, Serving.Wrote, Writing.moved_bytes, Writing.RoomFor}
use Rattle.records.proofs.Moved.{ready_left, ready_right, put_then}
use Rattle.setup.specs.declared.Bed.{Bed}
use Rattle.settings.specs.declared.State.{State}
use Rattle.arcs.{specs.Staying.stays_in, proofs.Paths.stays_both}
use Rattle.work.specs.{declared.Extent.Extent, Work.work_records, Work.brief_records, Work.grown, Work.way_of}
use Rattle.work.{specs.Needs.Writable, proofs.Extents.way_ends, proofs.Extents.way_leaves, proofs.Briefs.brief_still, proofs.Briefs.still_ends}
use Rattle.blocks.{specs.declared.Said.Said, specs.Machine.machine_of, specs.Calling.freely, proofs.Making.made_fits, proofs.Making.made_short}
use Rattle.blocks.specs.Exec.{Verdict, refused, accepted, working, settled, control_of, made_by}
use Rattle.execution.specs.{declared.Planned.Planned, Steps.judged_from, Steps.settled_at, Steps.planned_records, Steps.Plans, Steps.none_yet, Steps.checked_by}
use Rattle.execution.proofs.Ready.{at_is, made_is, sound_is, leading, once}
use Rattle.execution.proofs.Verdicts.{sound_past, sound_stops, fits_past, stays_past, stays_stops, room_stops, room_past}

-- ---- the three parts of a block's records, one after the other

module _ (by : Point) {was : List ℕ} {at : ℕ} (a m z : List Record) where
  pub first_ready : RoomFor was at by (a ++ m ++ z) → RoomFor was at by a
  first_ready h = ready_left by a m (ready_left by (a ++ m) z h)

  module _ {one : List ℕ} {k : ℕ} (w : Wrote was at (moved_bytes by a) one k) where
    pub second_ready : RoomFor was at by (a ++ m ++ z) → RoomFor one k by m
    second_ready h = ready_right by a m w (ready_left by (a ++ m) z h)

    module _ {two : List ℕ} {n : ℕ} (v : Wrote one k (moved_bytes by m) two n) where
      pub third_ready : RoomFor was at by (a ++ m ++ z) → RoomFor two n by z
      third_ready h = ready_right by (a ++ m) z (put_then by a m w v) h

      pub three_wrote : {is : List ℕ} {next : ℕ} → Wrote two n (moved_bytes by z) is next → Wrote was at (moved_bytes by (a ++ m ++ z)) is next
      three_wrote u = put_then by (a ++ m) z (put_then by a m w v) u

-- ---- what the test came to

module _ (sound : Bool) (way : Option Extent) where
  pub record Came (e : Extent) : Type 0 where
    pub holds : sound ≡ true
    pub ends : Some e ≡ way

  pub came : {e : Extent} → Ok e ≡ checked_by sound way → Came e
  unfolding checked_by
  came {e} f = go sound way refl refl f
    where
      go : (t : Bool) (u : Option Extent) → sound ≡ t → way ≡ u → Ok e ≡ checked_by t u → Came e
      go false u g i j = let no : ◌≡◌ {A = ℕ} 0 1 = cc in absurd (omega arith)
      go true None g i j = let no : ◌≡◌ {A = ℕ} 0 1 = cc in absurd (omega arith)
      go true (Some x) g i j = let same : e ≡ x = cc in record { holds = g; ends = rw same (sym i) }

  pub data Stopped (refusal : Refusal) : Type 0 where
    unsound : sound ≡ false → refusal ≡ BadParameter → Stopped refusal
    outside : sound ≡ true → None ≡ way → refusal ≡ LeavesTravel → Stopped refusal

  pub stopped : {refusal : Refusal} → Err refusal ≡ checked_by sound way → Stopped refusal
  unfolding checked_by
  stopped {refusal} f = go sound way refl refl f
    where
      go : (t : Bool) (u : Option Extent) → sound ≡ t → way ≡ u → Err refusal ≡ checked_by t u → Stopped refusal
      go false u g i j = unsound g (cc)
      go true None g i j = outside g (sym i) (cc)
      go true (Some x) g i j = let no : ◌≡◌ {A = ℕ} 0 1 = cc in absurd (omega arith)

module _ {bed : Bed} {s : State} {b : Said} {p : Planned} (h : Plans bed s b p) where
  abbrev made : List Record
  made = made_by (machine_of bed) s b

  abbrev way : Option Extent
  way = way_of bed.travel (none_yet p.works.at) (planned_records p)

  -- the test of the planned records is that of the block's
  stays_is : (t : Bool) → stays_in bed.travel p.works.at (planned_records p) ≡ t → path_stays_in (machine_of bed).stays s.at made ≡ t
  unfolding machine_of
  stays_is t e = rw (made_is h, ← at_is h) e

  module _ (left room start : ℕ) (ws : List Word) where
    abbrev judged : ℕ → Verdict
    judged k = judged_from k (machine_of bed) (freely left) room s start ws b

    pub stops : {refusal : Refusal} → Err refusal ≡ checked_by p.work.sound way → judged 7 ≡ refused (record { refusal = refusal; byte = start })
    stops {refusal} e = go (stopped p.work.sound way e)
      where
        go : Stopped p.work.sound way refusal → judged 7 ≡ refused (record { refusal = refusal; byte = start })
        go (unsound f g) = rw g (sound_stops (machine_of bed) (freely left) room s start ws b (sound_is h ∙ f))
        go (outside f i g) =
            rw g
            (sound_past (machine_of bed) (freely left) room s start ws b (sound_is h ∙ f)
            ∙ fits_past (machine_of bed) (freely left) room s start ws b (made_fits bed s b h.steady)
            ∙ stays_stops (machine_of bed) (freely left) room s start ws b (stays_is false (way_leaves bed.travel (none_yet p.works.at) (planned_records p) i)))

    module _ {e : Extent} (c : Ok e ≡ checked_by p.work.sound way) where
      comes : Came p.work.sound way e
      comes = came p.work.sound way c

      stay : stays_in bed.travel p.works.at (planned_records p) ≡ true
      stay = (way_ends bed.travel (none_yet p.works.at) (planned_records p) comes.ends).stays

      extent_is : e ≡ grown (none_yet p.works.at) (planned_records p)
      extent_is = (way_ends bed.travel (none_yet p.works.at) (planned_records p) comes.ends).is

      passes : judged 7 ≡ judged 10
      passes =
          sound_past (machine_of bed) (freely left) room s start ws b (sound_is h ∙ comes.holds)
          ∙ fits_past (machine_of bed) (freely left) room s start ws b (made_fits bed s b h.steady)
          ∙ stays_past (machine_of bed) (freely left) room s start ws b (stays_is true stay)

      room_is : e.room ≡ room_of made
      unfolding grown
      room_is = let n : 0 + room_of (planned_records p) ≡ room_of (planned_records p) = omega arith in rw (extent_is, made_is h) n

      pub no_room : room < e.room → judged 7 ≡ refused (record { refusal = NoRoom; byte = start })
      no_room k = passes ∙ room_stops (machine_of bed) (freely left) room s start ws b (rw (← room_is) (lt-ltb room e.room k))

      pub accepts : e.room ≤ room → judged 7 ≡ accepted (settled (machine_of bed) s b) (control_of b) made
      accepts k = passes ∙ room_past (machine_of bed) (freely left) room s start ws b (rw (← room_is) (le-ltb room e.room k))

      pub settled_is : {r : State} {misc : Misc} → b.misc ≡ misc → r ≡ settled_at p.works misc e.end → r ≡ settled (machine_of bed) s b
      unfolding settled settled_at working grown
      settled_is m f = f ∙ rw (← m, extent_is, made_is h, ← at_is h) (rw h.works)

      pub count_is : e.count ≡ length made
      unfolding grown
      count_is = let n : 0 + length (planned_records p) ≡ length (planned_records p) = omega arith in rw (extent_is, made_is h) n

      -- the block can be written where there is room
      pub block_ready : {list : List ℕ} {at : ℕ} → at ≤ length list → e.room ≤ length list - at → RoomFor list at bed.offset (planned_records p)
      block_ready g k =
          rw (← made_is h)
          (record {
            room = omega (arith, g, k, room_is);
            offset = h.steady.fair.offset;
            short = made_short bed s b h.steady (stays_is true stay);
          })

      pub writable : Writable p.work p.aim p.works.at
      unfolding planned_records
      writable =
          let from = p.works.at in
          let first = brief_records p.first in
          let work = work_records p.work p.aim from in
          let parts = stays_both bed.travel from first work (stays_both bed.travel from (first ++ work) (brief_records p.last) stay).0 in
          let still : end_of from first ≡ from = still_ends from first (brief_still p.first) in
          record { travel = bed.travel; leading = leading h; once = once h; stays = rw still at parts.1 }
