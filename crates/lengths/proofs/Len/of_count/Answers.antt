-- `lengths::Len::of_count` meets its contract: below 2 ^ 63 a count's bits are the number.
use Rattle.terms.proofs.Common.{refl}
use mir.{Syntax.w64, ValLaws.to_z_pos}
use Rattle.lengths.proofs.Len.of_count.Goals as goal

pub returns : goal.returns
returns c = rw (to_z_pos w64 c.args.n c.requires) (record { is = refl; ups = refl; downs = refl })
