-- `shop::running::run_data` meets its contract: the records end in the list.
use Rattle.terms.proofs.Common.{rules, sym, length-take-le}
use Rattle.shop.proofs.running.run_data.Goals as goal

pub slice_bounds-write_whole-end : goal.slice_bounds-write_whole-end
slice_bounds-write_whole-end g c =
    let m = c.make_list-made in
    sym (length-take-le m.result.end m.new.list (search rules))
