-- `commands::count_of` meets its contract.
use Rattle.std.specs.List.{count_by}
use Rattle.terms.proofs.Common.{rules, sym, ◌∙◌, ◌≡◌}
use Rattle.commands.{specs.Words.is_end, proofs.Parting.ends_counted}
use Rattle.commands.proofs.count_of.Goals as goal

pub returns : goal.returns
returns c =
    let ends : c.count.result ≡ count_by is_end c.args.line.now = search rules in
    ends ∙ sym (ends_counted c.args.line.now)
