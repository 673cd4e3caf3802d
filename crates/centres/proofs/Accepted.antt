-- What is known of an arc whose radius has been accepted: the parts of `radiusHolds`, as facts of naturals. Assumes nothing.
use Rattle.terms.proofs.Common.{◌+◌, ◌*◌, ◌≤◌, ◌<◌, ◌≡◌, true, ◌&&◌, arith, leb, ltb, ℤ, nat_abs, leb-true, ltb-true}
use Rattle.terms.proofs.Laws.{both_left, both_right}
use Rattle.lengths.specs.{Units.sq, declared.Flat.Flat}
use Rattle.arcs.specs.Arcs.{distance²}
use Rattle.centres.specs.Centres.{radius_holds, spare}

module _ (r : ℤ) (s e : Flat) (holds : radius_holds r s e ≡ true) where
  first_two : (leb 3_000 (nat_abs r) && ltb 0 (distance² s e)) ≡ true
  unfolding radius_holds
  first_two = both_left (leb 3_000 (nat_abs r) && ltb 0 (distance² s e)) (leb (distance² s e) (4 * sq r)) holds

  pub radius_some : 3_000 ≤ nat_abs r
  radius_some = leb-true 3_000 (nat_abs r) (both_left (leb 3_000 (nat_abs r)) (ltb 0 (distance² s e)) first_two)

  pub chord_some : 0 < distance² s e
  chord_some = ltb-true 0 (distance² s e) (both_right (leb 3_000 (nat_abs r)) (ltb 0 (distance² s e)) first_two)

  pub chord_most : distance² s e ≤ 4 * sq r
  unfolding radius_holds
  chord_most =
      leb-true (distance² s e) (4 * sq r)
      (both_right (leb 3_000 (nat_abs r) && ltb 0 (distance² s e)) (leb (distance² s e) (4 * sq r)) holds)

  -- so N is what the chord's square lacks of 4 R²
  pub chord_spare : distance² s e + spare r s e ≡ 4 * sq r
  unfolding spare
  chord_spare = omega (arith, chord_most)
