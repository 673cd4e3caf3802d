-- `words::checked` meets its contract, by the test.
use Rattle.terms.proofs.Common.{◌≡◌, refl, ◌∙◌, Bool, true, false}
use Rattle.std.specs.Bool.{then_some}
use Rattle.lengths.specs.declared.Len.{Len}
use Rattle.words.specs.Values.{checked}
use Rattle.words.proofs.checked.Goals as goal

told : (ok : Bool) (z : Len) → then_some ok z ≡ checked ok z.v
unfolding checked
told true z = refl
told false z = refl

pub returns : goal.returns
returns c = c.then_some.ensures ∙ told c.args.ok c.args.z
