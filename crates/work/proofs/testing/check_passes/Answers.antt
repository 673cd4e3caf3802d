-- `work::testing::check_passes` meets its contract: the passes that are left lead to where all lead.
use Rattle.terms.proofs.Common.{arith, sym, ◌∙◌, ◌+◌, ◌-◌, ◌≡◌}
use Rattle.work.specs.{declared.Pass.TheVariants.Drill, Work.rows_of, Work.drilled}
use Rattle.work.proofs.{Extents.rows_few}
use Rattle.work.proofs.Passing.{leads_starts, leads_aims, leads_little, leads_ends, leads_leaves, leads_on}
use Rattle.work.proofs.testing.check_passes.Goals as goal

pub loop-init : goal.loop-init
loop-init c =
    let a = c.args in
    let n : a.passes - 0 ≡ a.passes = omega arith in
    rw n (leads_starts a.t (drilled a.h a.passes) a.aim a.e c.requires)

pub target_point-to-requires : goal.target_point-to-requires
target_point-to-requires c = leads_aims c.args.t (drilled c.args.h c.args.passes) c.args.aim c.args.e c.requires c.loop.invariant

pub check_pass-requires : goal.check_pass-requires
check_pass-requires c =
    let l = c.loop.invariant in
    (l.inside, leads_little c.args.t (drilled c.args.h c.args.passes) c.args.aim c.args.e c.requires l)

pub returns-in_err-so_far : goal.returns-in_err-so_far
unfolding rows_of
returns-in_err-so_far c =
    c.from_residual.ensures
    ∙ leads_leaves c.args.t (drilled c.args.h c.args.passes) c.args.aim c.args.e c.requires c.loop.invariant (omega arith) c.target_point-to.ensures.is
    (sym c.in_err-so_far.was ∙ c.check_pass.ensures)

pub loop-preserved : goal.loop-preserved
unfolding rows_of
loop-preserved c =
    let a = c.args in
    let done = c.loop.counter in
    let n : a.passes - (done + 1) ≡ a.passes - done - 1 = omega arith in
    rw n
    (leads_on c.args.t (drilled c.args.h c.args.passes) c.args.aim c.args.e c.requires c.loop.invariant (omega arith) c.target_point-to.ensures.is (rows_few (Drill c.args.h))
    (sym c.in_ok-so_far.was ∙ c.check_pass.ensures))

pub returns : goal.returns
returns c = leads_ends c.args.t (drilled c.args.h c.args.passes) c.args.aim c.args.e c.requires c.loop.invariant (omega arith)
