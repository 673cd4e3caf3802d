-- `execution::checking::plan_block` meets its contract.
use Rattle.terms.proofs.Common.{arith, refl}
use Rattle.setup.specs.Frame.{origin_at}
use Rattle.blocks.specs.Exec.{working}
use Rattle.execution.proofs.{Ready.poised}
use Rattle.execution.proofs.checking.plan_block.Goals as goal

pub offset_bounds-origins-k : goal.offset_bounds-origins-k
offset_bounds-origins-k c = omega (arith, c.requires.0.said.origin)

pub bounds-origins-k : goal.bounds-origins-k
bounds-origins-k c = c.requires.0.said.origin

pub spindle_record-first-requires : goal.spindle_record-first-requires
spindle_record-first-requires c = rw c.requires.1

pub work_of-work-requires : goal.work_of-work-requires
unfolding origin_at
work_of-work-requires c = poised c.args.bed c.args.s c.args.b c.requires.0 c.requires.1 refl

pub returns : goal.returns
unfolding origin_at working
returns c =
    record {
      steady = c.requires.0;
      control = c.control_of-control.ensures;
      works = c.requires.1;
      aim = refl;
      first = c.spindle_record-first.ensures;
      last = c.last_record-last.ensures;
      work = rw c.requires.1 at c.work_of-work.ensures;
    }
