-- `programs::is_taken` meets its contract.
use Rattle.std.proofs.Common.{rules, tests}
use Rattle.std.proofs.lemmas.Iterator.{YieldsList-from_slice}
use Rattle.std.proofs.lemmas.Iterator.Search.{any_from_yields_List}
use Rattle.terms.proofs.Common.{sym, ◌∙◌, eq-eqb, eqb}
use Rattle.programs.specs.Found.{subs_of}
use Rattle.programs.proofs.Entries.{taken_main, taken_rest, any_is}
use Rattle.programs.proofs.is_taken.Goals as goal

pub returns-then-n-t : goal.returns-then-n-t
returns-then-n-t c =
    let a = c.args in
    eq-eqb a.n a.t.main.number c.if-n-t.true ∙ sym (taken_main a.t.main (subs_of a.t) a.n c.if-n-t.true)

pub returns-else-n-t : goal.returns-else-n-t
returns-else-n-t c =
    let a = c.args in
    any_from_yields_List (λ p. eqb a.n p.number) _ _ c.any.result c.any.ensures.ran
    (YieldsList-from_slice (subs_of a.t) cc) (λ x b q k. search (rules, tests))
    ∙ any_is a.n (subs_of a.t) ∙ sym (taken_rest a.t.main (subs_of a.t) a.n c.if-n-t.false)
