-- `setup::origins_of` meets its contract: each origin is a point.
use Rattle.terms.proofs.Common.{◌≡◌, ◌∙◌, sym, length, arith, rules}
use Rattle.setup.proofs.{Origins.all_turned}
use Rattle.setup.proofs.origins_of.Goals as goal

pub returns : goal.returns
returns c =
    let made = c.map.ensures.items in
    all_turned c.args.origins c.map.result (omega (arith, made.long)) (λ k d p h. let x = (made.at k d p (omega arith)).2 in search rules)
