-- How round an arc is about its rounded centre: both ends are |R| from the exact centre, and from the rounded one less than two
-- units more or less. proofs/Nearness.antt shows it of every arc by its radius that is accepted.
use Rattle.std.specs.Prelude.{◌+◌, ◌-◌, ◌*◌, ◌<◌}
use Rattle.terms.specs.Common.{ℤ, nat_abs}
use Rattle.lengths.specs.declared.Flat.{Flat}
use Rattle.arcs.specs.Arcs.{distance²}

-- The distance of c and p is more than |r| − 2 and less than |r| + 2. Squares are compared; |r| is at least 3,000.
pub record WithinTwo (r : ℤ) (c p : Flat) : Type 0 where
  pub more : (nat_abs r - 2) * (nat_abs r - 2) < distance² c p
  pub less : distance² c p < (nat_abs r + 2) * (nat_abs r + 2)

-- so near is the centre c of an arc from s to e, to both
pub record Nearby (r : ℤ) (s e c : Flat) : Type 0 where
  pub start : WithinTwo r c s
  pub end : WithinTwo r c e
