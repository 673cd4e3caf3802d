-- `execution::checking::check_motion` meets its contract: test by test.
use Rattle.std.specs.Prelude.{Err}
use Rattle.std.specs.Result.{result_ok}
use Rattle.std.proofs.lemmas.Result.{err_from_is_err_and}
use Rattle.terms.proofs.Common.{ap, arith, ◌≡◌, sym, ◌∙◌, not-false, ℕ}
use Rattle.refusals.specs.declared.Refusal.TheVariants.{LeavesTravel}
use Rattle.execution.proofs.Ready.{testable, block_loose, block_fits, block_leaves, block_comes, block_unsound, work_little}
use Rattle.execution.proofs.checking.check_motion.Goals as goal

pub returns-then-not-p : goal.returns-then-not-p
returns-then-not-p c = block_unsound c.requires.plans c.if-not-p.true _

pub work_fits-requires : goal.work_fits-requires
work_fits-requires c = block_loose c.requires.plans

pub returns-then-not-work_fits : goal.returns-then-not-work_fits
returns-then-not-work_fits c =
    let yes = c.work_fits.ensures ∙ block_fits c.requires.plans in
    let no = c.if-not-work_fits.true in
    let wrong : ◌≡◌ {A = ℕ} 0 1 = cc in
    absurd (omega arith)

pub check_work-requires : goal.check_work-requires
check_work-requires c = testable c.requires.plans c.with_brief-spun.ensures (not-false c.args.p.work.sound c.if-not-p.false)

pub returns-in_err-moved : goal.returns-in_err-moved
returns-in_err-moved c =
    let none = c.ok_or.ensures.ok_part ∙ ap result_ok c.in_err-moved.was in
    let p = err_from_is_err_and c.from_residual.result c.from_residual.ensures.1 in
    let made : c.ok_or.result ≡ Err LeavesTravel = rw none at c.ok_or.ensures.value in
    let is : c.in_err-moved.field-0.0 ≡ LeavesTravel = cc (sym c.in_err-moved.was ∙ made) in
    rw (p.1, p.2, is)
    (block_leaves c.requires.plans c.with_brief-spun.ensures (not-false c.args.p.work.sound c.if-not-p.false)
    (sym none ∙ c.check_work.ensures))

pub with_brief-requires : goal.with_brief-requires
with_brief-requires c =
    work_little c.requires.plans c.with_brief-spun.ensures (not-false c.args.p.work.sound c.if-not-p.false) (sym (c.ok_or.ensures.ok_part ∙ ap result_ok c.in_ok-moved.was) ∙ c.check_work.ensures)

pub returns : goal.returns
returns c =
    block_comes c.requires.plans c.with_brief-spun.ensures (not-false c.args.p.work.sound c.if-not-p.false)
    (sym (c.ok_or.ensures.ok_part ∙ ap result_ok c.in_ok-moved.was) ∙ c.check_work.ensures) c.with_brief.ensures
