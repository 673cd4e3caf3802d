-- `records::loading::point_at` meets its contract: the three numbers, one after the other.
use Rattle.records.proofs.{Found.point_found}
use Rattle.records.proofs.loading.point_at.Goals as goal

pub returns : goal.returns
returns c =
    let x = c.args in
    point_found x.list.now x.at c.number_at.ensures c.number_at-2.ensures c.number_at-3.ensures
