-- `programs::openings::find_callee` meets its contract.
use Rattle.std.proofs.lemmas.Result.{err_from_is_err_and}
use Rattle.terms.proofs.Common.{refl, sym, ◌∙◌, eq-eqb, ne_eqb}
use Rattle.programs.specs.Answers.{callee_by}
use Rattle.programs.proofs.Finding.{missing, present}
use Rattle.programs.proofs.openings.find_callee.Goals as goal

pub returns-in_err-program : goal.returns-in_err-program
unfolding callee_by
returns-in_err-program c =
    let p = err_from_is_err_and c.from_residual.result c.from_residual.ensures.1 in
    let m = missing c.find.result _ c.ok_or.ensures.value c.in_err-program.was in
    rw (p.1, p.2) (rw (sym c.find.ensures ∙ m.0, m.1) refl)

pub returns-then-left-eq0 : goal.returns-then-left-eq0
unfolding callee_by
returns-then-left-eq0 c =
    rw (
      sym c.find.ensures ∙ present c.ok_or.ensures.ok_part c.in_ok-program.was,
      eq-eqb c.args.left 0 c.if-left-eq0.true,
    ) refl

pub returns : goal.returns
unfolding callee_by
returns c =
    rw (
      sym c.find.ensures ∙ present c.ok_or.ensures.ok_part c.in_ok-program.was,
      ne_eqb c.args.left 0 c.if-left-eq0.false,
    ) refl
