-- The centre of an arc by its radius or by its words, with what was computed. Assumes nothing.
use Rattle.lengths.specs.declared.Len.{Len}
use Rattle.std.specs.Prelude.{is_some}
use Rattle.terms.proofs.Common.{◌^◌, ◌≡◌, sym, ◌∙◌, Bool, true, false, not, arith, not-false, Some}
use Rattle.words.specs.declared.Values.{Values}
use Rattle.lengths.{specs.declared.Point.Point, specs.declared.Flat.Flat, specs.Points.moved, specs.Points.flat, specs.Near.Near, proofs.Near.flat_near}
use Rattle.settings.specs.declared.State.{State}
use Rattle.records.specs.declared.Arc.{Arc}
use Rattle.arcs.specs.{Arcs.centre_of, Bounds.Reach}
use Rattle.centres.specs.{Centres.radius_holds, Centres.centre_by, Bounds.Chord, Bounds.Spanned}
use Rattle.blocks.{specs.Motions.centre_words, specs.Motions.centre_for, specs.Motions.radius_fits, specs.Motions.arc_to, proofs.Nearness.centre_beside}
use Rattle.work.specs.Needs.{Poised, Aiming, Fitting}

module _ (s : State) (v : Values) (end : Point) where
  pub radius_missing : is_some v.r ≡ false → true ≡ radius_fits s v end
  unfolding radius_fits
  radius_missing e = rw e

  -- the radius that stands, and start and end in the axes of the plane
  module _ {a b : Flat} (from : a ≡ flat s.modes.plane s.at) (to : b ≡ flat s.modes.plane end) {r : Len} (radius : v.r ≡ Some r) where
    pub chord : Aiming s v end → Chord r.v a b
    chord h =
        rw (from, to)
        (record {
          radius = rw radius at h.radius;
          start = flat_near s.modes.plane s.at h.at;
          end = flat_near s.modes.plane end h.near;
        })

    pub radius_tested : {t : Bool} → t ≡ radius_holds r.v a b → t ≡ radius_fits s v end
    unfolding radius_fits
    radius_tested f = rw radius (rw (from, to) at f)

    pub spanned : Fitting s v end → Spanned r.v a b
    unfolding radius_fits
    spanned h = record { chord = chord h.aiming; holds = rw (from, to) (rw radius at h.fits) }

    pub by_radius : {c : Flat} (left : Bool) → c ≡ centre_by left r.v a b → c ≡ centre_for left s v end
    unfolding centre_for
    by_radius left f = rw radius (rw (from, to) at f)

  pub by_words :
      {c : Flat} (left : Bool) → is_some v.r ≡ false → c ≡ flat s.modes.plane (moved (centre_words v) s.at) → c ≡ centre_for left s v end
  unfolding centre_for centre_words
  by_words left e f = rw e f

  pub words_sums : Fitting s v end → {p : Point} → p ≡ centre_words v → (Near (2 ^ 61) p) × (Near (2 ^ 61) s.at)
  words_sums h e = rw e (omega (arith, h.words, h.aiming.at))

-- an arc whose radius has been tested
pub fitting :
    {s : State} {origin end : Point} {v : Values} {t : Bool}
    → Poised s origin v → Near 2_100_000_000 end → t ≡ radius_fits s v end → not t ≡ false → Fitting s v end
fitting {t = t} h near fit e =
    record {
      aiming = record { radius = h.radius; at = h.aims.from; near = near };
      words = h.words;
      fits = sym fit ∙ not-false t e;
    }

-- its centre is near its start
pub round : {s : State} {v : Values} {end : Point} {a : Arc} (left : Bool) → Fitting s v end → a ≡ arc_to left s v end → Reach 1_000_000_000 (centre_of a) (flat a.plane s.at)
unfolding arc_to
round {s} {v} {end} left h e = rw e (centre_beside left s v end h.aiming.at h.aiming.near h.aiming.radius h.words h.fits)
