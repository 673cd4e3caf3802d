-- `records::loading::number_at` meets its contract: what `of_bytes` answers is the number at the place.
use Rattle.records.proofs.loading.number_at.Goals as goal

pub returns : goal.returns
returns c = c.of_bytes.ensures.is
