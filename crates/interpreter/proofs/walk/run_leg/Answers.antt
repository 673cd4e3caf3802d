-- `interpreter::walk::run_leg` meets its contract: from block to block by a loop, for every table of programs.
use Rattle.terms.proofs.Common.{◌≡◌, refl, sym, ◌∙◌, false, arith, length, drop}
use Rattle.programs.specs.declared.table.Programs.{Programs}
use Rattle.runs.specs.Walk.{is_spent}
use Rattle.interpreter.specs.Progressing.{task_on, walk_from, program_ends}
use Rattle.runs.specs.Serving.{progress_by}
use Rattle.interpreter.proofs.{Walking.goes_inside}
use Rattle.interpreter.proofs.Rounds.{meets, no_programs, walking_starts, walking_spent, walking_ends, did_kept, did_refused, did_fits, did_less, did_back, did_stop, did_on, did_call}
use Rattle.interpreter.proofs.walk.run_leg.Goals as goal

pub loop-footing-init : goal.loop-footing-init
loop-footing-init c =
    let a = c.args in (
      omega arith,
      λ programs.
          walking_starts a.s.now (task_on a.footing a.skips programs) a.footing.left a.start.block a.start.byte a.p a.list.now c.requires.begins c.requires.fits,
    )

pub shape_of-list-then-is_spent : goal.shape_of-list-then-is_spent
shape_of-list-then-is_spent c = (c.loop-footing.invariant.1 no_programs).kept

pub returns-then-is_spent : goal.returns-then-is_spent
returns-then-is_spent c programs =
    let a = c.args in
    rw c.over.ensures
    (walking_spent a.s.now (task_on a.footing a.skips programs) a.footing.left (c.loop-footing.invariant.1 programs)
    (sym c.is_spent.ensures ∙ c.if-is_spent.true))

pub program_ends-requires : goal.program_ends-requires
program_ends-requires c = (c.loop-footing.invariant.1 no_programs).begins.inside

pub shape_of-list-then-program_ends : goal.shape_of-list-then-program_ends
shape_of-list-then-program_ends c = (c.loop-footing.invariant.1 no_programs).kept

pub returns-then-program_ends : goal.returns-then-program_ends
returns-then-program_ends c programs =
    let a = c.args in
    rw c.over-then-program_ends.ensures
    (walking_ends a.s.now (task_on a.footing a.skips programs) a.footing.left (c.loop-footing.invariant.1 programs)
    (sym c.is_spent.ensures ∙ c.if-is_spent.false) (sym c.program_ends.ensures ∙ c.if-program_ends.true))

pub do_block-requires : goal.do_block-requires
do_block-requires c =
    let fits = (c.loop-footing.invariant.1 no_programs).fits in
    record { at_in_bounds = goes_inside c.args.s.now c.loop-footing.at (sym c.program_ends.ensures ∙ c.if-program_ends.false); next_in_bounds = fits.next; fair = c.requires.fair; reachable = fits.state }

pub shape_of-list-in-Err : goal.shape_of-list-in-Err
shape_of-list-in-Err c = did_kept (meets (c.loop-footing.invariant.1 no_programs) c.requires.fair (sym c.is_spent.ensures ∙ c.if-is_spent.false) (sym c.program_ends.ensures ∙ c.if-program_ends.false) (c.do_block.ensures c.loop-footing.block))

pub returns-in-Err : goal.returns-in-Err
returns-in-Err c programs =
    rw c.over-in-Err.ensures (did_refused (meets (c.loop-footing.invariant.1 programs) c.requires.fair (sym c.is_spent.ensures ∙ c.if-is_spent.false) (sym c.program_ends.ensures ∙ c.if-program_ends.false) (c.do_block.ensures c.loop-footing.block)) c.in-Err.is)

pub progress_after-after-requires : goal.progress_after-after-requires
unfolding progress_by
progress_after-after-requires c =
    let fits = did_fits (meets (c.loop-footing.invariant.1 no_programs) c.requires.fair (sym c.is_spent.ensures ∙ c.if-is_spent.false) (sym c.program_ends.ensures ∙ c.if-program_ends.false) (c.do_block.ensures c.loop-footing.block)) c.in-Ok.is in
    record { budget_value = sym c.is_spent.ensures ∙ c.if-is_spent.false; count_bound = omega (arith, fits.next, fits.count) }

-- and accepted
pub overflow_add-block : goal.overflow_add-block
overflow_add-block c =
    omega (arith, (c.loop-footing.invariant.1 no_programs).begins.few, goes_inside c.args.s.now c.loop-footing.at (sym c.program_ends.ensures ∙ c.if-program_ends.false))

pub loop-footing-smaller : goal.loop-footing-smaller
loop-footing-smaller c =
    omega (
      arith,
      goes_inside c.args.s.now c.loop-footing.at (sym c.program_ends.ensures ∙ c.if-program_ends.false),
      did_less (meets (c.loop-footing.invariant.1 no_programs) c.requires.fair (sym c.is_spent.ensures ∙ c.if-is_spent.false) (sym c.program_ends.ensures ∙ c.if-program_ends.false) (c.do_block.ensures c.loop-footing.block)) c.in-Ok.is,
    )

pub loop-footing-preserved : goal.loop-footing-preserved
loop-footing-preserved c =
    let done = c.in-Ok.is in (
      omega (arith, c.loop-footing.invariant.0, did_less (meets (c.loop-footing.invariant.1 no_programs) c.requires.fair (sym c.is_spent.ensures ∙ c.if-is_spent.false) (sym c.program_ends.ensures ∙ c.if-program_ends.false) (c.do_block.ensures c.loop-footing.block)) done),
      λ programs. rw c.progress_after-after.ensures (did_on (meets (c.loop-footing.invariant.1 programs) c.requires.fair (sym c.is_spent.ensures ∙ c.if-is_spent.false) (sym c.program_ends.ensures ∙ c.if-program_ends.false) (c.do_block.ensures c.loop-footing.block)) done c.in-On.is),
    )

pub shape_of-list-in-Call : goal.shape_of-list-in-Call
shape_of-list-in-Call c = did_kept (meets (c.loop-footing.invariant.1 no_programs) c.requires.fair (sym c.is_spent.ensures ∙ c.if-is_spent.false) (sym c.program_ends.ensures ∙ c.if-program_ends.false) (c.do_block.ensures c.loop-footing.block))

pub returns-in-Call : goal.returns-in-Call
returns-in-Call c programs =
    let start = c.args.start in
    rw c.progress_after-after.ensures
    (did_call (meets (c.loop-footing.invariant.1 programs) c.requires.fair (sym c.is_spent.ensures ∙ c.if-is_spent.false) (sym c.program_ends.ensures ∙ c.if-program_ends.false) (c.do_block.ensures c.loop-footing.block)) c.in-Ok.is start.block start.byte c.in-Call.is refl c.loop-footing.invariant.0)

pub shape_of-list-in-Back : goal.shape_of-list-in-Back
shape_of-list-in-Back c = did_kept (meets (c.loop-footing.invariant.1 no_programs) c.requires.fair (sym c.is_spent.ensures ∙ c.if-is_spent.false) (sym c.program_ends.ensures ∙ c.if-program_ends.false) (c.do_block.ensures c.loop-footing.block))

pub returns-in-Back : goal.returns-in-Back
returns-in-Back c programs =
    rw c.progress_after-after.ensures
    (did_back (meets (c.loop-footing.invariant.1 programs) c.requires.fair (sym c.is_spent.ensures ∙ c.if-is_spent.false) (sym c.program_ends.ensures ∙ c.if-program_ends.false) (c.do_block.ensures c.loop-footing.block)) c.in-Ok.is _ c.in-Back.is)

pub shape_of-list-in-Stop : goal.shape_of-list-in-Stop
shape_of-list-in-Stop c = did_kept (meets (c.loop-footing.invariant.1 no_programs) c.requires.fair (sym c.is_spent.ensures ∙ c.if-is_spent.false) (sym c.program_ends.ensures ∙ c.if-program_ends.false) (c.do_block.ensures c.loop-footing.block))

pub returns-in-Stop : goal.returns-in-Stop
returns-in-Stop c programs =
    rw c.progress_after-after.ensures
    (did_stop (meets (c.loop-footing.invariant.1 programs) c.requires.fair (sym c.is_spent.ensures ∙ c.if-is_spent.false) (sym c.program_ends.ensures ∙ c.if-program_ends.false) (c.do_block.ensures c.loop-footing.block)) c.in-Ok.is _ c.in-Stop.is)
