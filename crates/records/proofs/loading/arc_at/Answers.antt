-- `records::loading::arc_at` meets its contract: the end and the three numbers after it.
use Rattle.records.proofs.{Found.arc_found}
use Rattle.records.proofs.loading.arc_at.Goals as goal

pub returns : goal.returns
returns c =
    let x = c.args in
    arc_found
    x.list.now
    x.at
    x.plane
    c.point_at-end.ensures
    c.number_at.ensures
    c.number_at-2.ensures
    c.number_at-3.ensures
