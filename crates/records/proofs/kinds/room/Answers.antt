-- `records::kinds::room` meets its contract: the length of the record's kind.
use Rattle.terms.proofs.Common.{ap, ◌∙◌}
use Rattle.records.specs.Layout.{kind_length}
use Rattle.records.proofs.kinds.room.Goals as goal

pub returns : goal.returns
returns c = c.kind_length.ensures ∙ ap kind_length c.kind_of.ensures
