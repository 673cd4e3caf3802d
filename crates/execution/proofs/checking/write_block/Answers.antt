-- `execution::checking::write_block` meets its contract: refused, or written where there is room.
use Rattle.terms.proofs.Common.{[], arith, sym, ◌∙◌}
use Rattle.records.proofs.Moved.{put_as}
use Rattle.execution.proofs.{Verdicts.does_refused, Verdicts.does_accepted, Ready.made_is}
use Rattle.execution.proofs.Written.{stops, no_room, accepts, settled_is, count_is, block_ready, writable}
use Rattle.execution.proofs.checking.write_block.Goals as goal

pub returns-then-list-at : goal.returns-then-list-at
returns-then-list-at c =
    let a = c.args in
    λ s b h m left ws.
    does_refused _ (no_room h left _ a.start ws (sym c.in-Ok.is ∙ c.check_motion.ensures) c.if-list-at.true)

pub put_block-next-requires : goal.put_block-next-requires
put_block-next-requires c =
    let came = sym c.in-Ok.is ∙ c.check_motion.ensures in
    record { room_for = block_ready c.requires.able.plans 0 0 0 [] came c.requires.at_in_bounds (omega (arith, c.if-list-at.false)); writable = writable c.requires.able.plans 0 0 0 [] came }

pub returns-in-Err : goal.returns-in-Err
returns-in-Err c =
    let a = c.args in
    λ s b h m left ws.
    does_refused _ (stops h left _ a.start ws (sym c.in-Err.is ∙ c.check_motion.ensures))

pub returns-else-list-at : goal.returns-else-list-at
returns-else-list-at c =
    let a = c.args in
    λ s b h m left ws.
    let came = sym c.in-Ok.is ∙ c.check_motion.ensures in
    does_accepted (accepts h left _ a.start ws came (omega (arith, c.if-list-at.false))) (settled_is h left 0 0 ws came m c.settled-state.ensures) h.control
    (put_as a.bed.offset (made_is h) c.put_block-next.ensures) (count_is h left 0 0 ws came)

pub overflow_sub-list : goal.overflow_sub-list
overflow_sub-list c = omega (arith, c.requires.at_in_bounds)
