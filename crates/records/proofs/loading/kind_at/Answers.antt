-- `records::loading::kind_at` meets its contract: the first of all kinds whose mark stands there.
use Rattle.std.proofs.Common.{rules, tests}
use Rattle.std.proofs.lemmas.{Iterator.YieldsList-from_slice, Iterator.Consumers.YieldsList-from_copied, Iterator.Search.find_from_yields_List}
use Rattle.records.{specs.Reading.kinds, proofs.Found.stands_there, proofs.Found.kind_found}
use Rattle.records.proofs.loading.kind_at.Goals as goal

pub returns : goal.returns
returns c =
    let x = c.args in
    kind_found x.list.now x.at
    (find_from_yields_List (stands_there x.list.now x.at) _ _ _ c.find.ensures.ran (YieldsList-from_copied (YieldsList-from_slice kinds cc)) (λ kind b q k. search (rules, tests)))
