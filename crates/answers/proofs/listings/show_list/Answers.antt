-- `answers::listings::show_list` meets its contract: the place is in the list, and each record brings it nearer to the end.
use Rattle.terms.proofs.Common.{sym, ◌∙◌, arith}
use Rattle.records.proofs.Again.{read_on}
use Rattle.answers.proofs.listings.show_list.Goals as goal

pub loop-r-smaller : goal.loop-r-smaller
loop-r-smaller g c =
    omega (arith, read_on c.args.list.now c.loop-r.at c.in-Next.r c.in-Next.next (sym c.read-found.ensures ∙ c.in-Next.is))

pub loop-r-preserved : goal.loop-r-preserved
loop-r-preserved g c =
    (read_on c.args.list.now c.loop-r.at c.in-Next.r c.in-Next.next (sym c.read-found.ensures ∙ c.in-Next.is)).1
