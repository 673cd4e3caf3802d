-- `interpreter::walk::run_program` meets its contract: a program's walk calls itself for a subprogram's, with the levels left as the
-- measure, and goes from call to call by a loop.
use Rattle.terms.proofs.Common.{◌≡◌, sym, ◌∙◌, [], ◌∷◌, arith}
use denote.Enum.Declared.{tag_of}
use types.Run.{OneOf, miss}
use borrow.Enum.Refused.{opened}
use Rattle.interpreter.specs.{declared.How.How, declared.How.TheVariants.Returned, contracts.How.the_type}
use Rattle.interpreter.proofs.{Rounds.walking_starts, Calling.comes, Calling.caller_less, Calling.call_refused, Calling.call_level}
use Rattle.interpreter.proofs.Calling.{call_placed, walking_stops, walking_back}
use Rattle.interpreter.proofs.walk.+run_program.Goals as goal

-- an ending that is no return
no_return : {how : How} → OneOf (0 ∷ 2 ∷ 3 ∷ []) (tag_of the_type how) → how ≡ Returned → ⊥
no_return h e = miss (0 ∷ 2 ∷ 3 ∷ []) 1 tt (rw e at h)

pub loop-how-init : goal.loop-how-init
loop-how-init t c =
    let a = c.args in
    walking_starts a.s.now a.task a.left a.program.block a.program.byte a.p a.list.now c.requires.placed.begins c.requires.fits

pub run_leg-leg-requires-clause-begins : goal.run_leg-leg-requires-clause-begins
run_leg-leg-requires-clause-begins t c = c.loop-how.invariant.begins

pub run_leg-leg-requires-clause-fits : goal.run_leg-leg-requires-clause-fits
run_leg-leg-requires-clause-fits t c = c.loop-how.invariant.fits

pub returns-in-Over : goal.returns-in-Over
returns-in-Over t c = c.loop-how.invariant.same _ _ (rw c.in-Over.is at (c.run_leg-leg.ensures c.args.task.programs))

pub returns-in-Err : goal.returns-in-Err
returns-in-Err t c =
    call_refused (comes c.loop-how.invariant (rw c.in-Calls.is at (c.run_leg-leg.ensures c.args.task.programs)))
    (sym c.in-Err.is ∙ c.find_callee.ensures)

pub overflow_sub-left : goal.overflow_sub-left
overflow_sub-left t c =
    call_level (comes c.loop-how.invariant (rw c.in-Calls.is at (c.run_leg-leg.ensures c.args.task.programs))) c.requires.sound
    (sym c.in-Ok.is ∙ c.find_callee.ensures)

pub run_program-ending-requires : goal.run_program-ending-requires
run_program-ending-requires t c =
    let call = comes c.loop-how.invariant (rw c.in-Calls.is at (c.run_leg-leg.ensures c.args.task.programs)) in
    let found = sym c.in-Ok.is ∙ c.find_callee.ensures in (
      omega (arith, c.decreases, call_level call c.requires.sound found),
      (c.requires.sound, (call_placed call c.requires.sound found, call.reaches.after)),
    )

pub returns-in_default : goal.returns-in_default
returns-in_default t c =
    walking_stops (comes c.loop-how.invariant (rw c.in-Calls.is at (c.run_leg-leg.ensures c.args.task.programs))) c.requires.sound
    (sym c.in-Ok.is ∙ c.find_callee.ensures) c.run_program-ending.ensures (no_return (opened c.in_default.in_default-own.keys2))

pub overflow_add-block : goal.overflow_add-block
overflow_add-block t c =
    let begins = (comes c.loop-how.invariant (rw c.in-Calls.is at (c.run_leg-leg.ensures c.args.task.programs))).reaches.begins in
    omega (arith, begins.few, begins.inside, c.well_formed.0)

pub loop-how-smaller : goal.loop-how-smaller
loop-how-smaller t c = caller_less (comes c.loop-how.invariant (rw c.in-Calls.is at (c.run_leg-leg.ensures c.args.task.programs)))

pub loop-how-preserved : goal.loop-how-preserved
loop-how-preserved t c =
    walking_back (comes c.loop-how.invariant (rw c.in-Calls.is at (c.run_leg-leg.ensures c.args.task.programs))) c.requires.sound
    (sym c.in-Ok.is ∙ c.find_callee.ensures) c.run_program-ending.ensures c.in-Returned.is
