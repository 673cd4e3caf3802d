-- `drawing::layers::last_of` meets its contract: after each record, the reader says the same of the rest.
use Rattle.terms.proofs.Common.{refl, sym, ◌∙◌, arith}
use Rattle.records.proofs.Again.{read_on}
use Rattle.drawing.proofs.{Walking.end_next, Walking.end_here}
use borrow.Enum.Refused.{opened}
use Rattle.drawing.proofs.layers.last_of.Goals as goal

pub loop-next-smaller : goal.loop-next-smaller
loop-next-smaller c =
    let e = sym c.read-found.ensures ∙ c.in-Next.is in
    let h = read_on c.args.list.now c.loop-next.at c.in-Next.field-0 c.in-Next.next e in
    omega (arith, h)

pub loop-next-preserved : goal.loop-next-preserved
loop-next-preserved c =
    sym (end_next c.args.list.now c.loop-next.at (sym c.read-found.ensures ∙ c.in-Next.is)) ∙ c.loop-next.invariant

pub returns-in_default : goal.returns-in_default
returns-in_default c =
    let e = c.read-found.ensures in
    e ∙ sym (end_here c.args.list.now c.loop-next.at (rw e at (opened c.in_default.in_default-own.keys2))) ∙ c.loop-next.invariant

pub loop-next-init : goal.loop-next-init
loop-next-init c = refl
