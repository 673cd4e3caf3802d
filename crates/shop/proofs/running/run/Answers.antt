-- `shop::running::run` meets its contract: the options' room fits the list.
use Rattle.terms.proofs.Common.{ap, arith, sym, ◌∙◌}
use Rattle.commands.proofs.Choosing.{room_in}
use Rattle.shop.proofs.running.run.Goals as goal

pub run_files-requires : goal.run_files-requires
run_files-requires g c =
    let a = c.args in
    room_in a.line.now a.count c.options_of.ensures c.in-Some.is
