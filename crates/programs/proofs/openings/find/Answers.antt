-- `programs::openings::find` meets its contract.
use Rattle.std.proofs.Common.{rules, tests}
use Rattle.std.proofs.lemmas.Iterator.{YieldsList-from_slice}
use Rattle.std.proofs.lemmas.Iterator.Search.{find_from_yields_List}
use Rattle.terms.proofs.Common.{◌∙◌, eqb}
use Rattle.programs.specs.Found.{subs_of}
use Rattle.programs.proofs.Finding.{known_is}
use Rattle.programs.proofs.openings.find.Goals as goal

pub returns : goal.returns
returns c =
    let a = c.args in
    c.copied.ensures
    ∙ find_from_yields_List (λ p. eqb p.number a.n) _ _ c.find.result c.find.ensures.ran
    (YieldsList-from_slice (subs_of a.t) cc) (λ x b q k. search (rules, tests))
    ∙ known_is (subs_of a.t) a.n
