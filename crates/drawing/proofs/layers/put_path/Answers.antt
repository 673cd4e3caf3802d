-- `drawing::layers::put_path` meets its contract: at each record, what is left to write gives the same.
use Rattle.terms.proofs.Common.{refl, sym, ◌∙◌, arith}
use Rattle.records.proofs.Again.{read_on}
use Rattle.svg.{proofs.Filled.fills_length}
use Rattle.drawing.proofs.{Walking.path_on, Walking.path_end_lem}
use borrow.Enum.Refused.{opened}
use Rattle.drawing.proofs.layers.put_path.Goals as goal

pub loop-r-smaller : goal.loop-r-smaller
loop-r-smaller c =
    let h = read_on c.args.list.now c.loop-r.place c.in-Next.r c.in-Next.after (sym c.in-Next.ensures) in
    omega (arith, h)

pub loop-r-preserved : goal.loop-r-preserved
loop-r-preserved c =
    let x = c.args in
    let h = c.loop-r in
    let put = c.put_record-next.ensures in (
      fills_length put ∙ h.invariant.0,
      λ is k rest. h.invariant.1 is k (path_on x.list.now x.view x.rapids h.from h.place (sym c.in-Next.ensures) put c.path_end-from.ensures rest),
    )

pub returns : goal.returns
returns c =
    let x = c.args in
    let h = c.loop-r in
    h.invariant.1 h.out h.next (path_end_lem x.list.now x.view x.rapids h.from h.out h.next h.place (rw c.read.ensures at (opened c.in_default.in_default-own.keys2)))

pub loop-r-init : goal.loop-r-init
loop-r-init c = (refl, λ is k h. h)
