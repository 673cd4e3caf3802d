-- `setup::is_valid` meets its contract: no limit is broken.
use Rattle.terms.proofs.Common.{◌≡◌, sym, ap, ◌∙◌, Bool, true, false, not, refl}
use Rattle.setup.proofs.{Broken.valid_is}
use Rattle.setup.proofs.is_valid.Goals as goal

twice : (r : Bool) → r ≡ not (not r)
twice true = refl
twice false = refl

pub returns : goal.returns
returns c = twice c.is_none.result ∙ rw (← c.is_none.ensures, c.fault_of.ensures) (sym (valid_is c.args.s))
