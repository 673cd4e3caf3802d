-- `shop::plotting::plot_list` meets its contract: the picture lies in its buffer.
use Rattle.terms.proofs.Common.{sym, arith, length-take-le}
use Rattle.drawing.proofs.Fitting.{draws_inside}
use Rattle.shop.proofs.plotting.plot_list.Goals as goal

pub slice_bounds-picture-end : goal.slice_bounds-picture-end
slice_bounds-picture-end g c =
    omega (arith, draws_inside c.draw.ensures c.in-Ok.is)

pub slice_bounds-write_whole-end : goal.slice_bounds-write_whole-end
slice_bounds-write_whole-end g c =
    sym (length-take-le c.in-Ok.n c.draw.new.out (omega (arith, c.draw.auto.out, draws_inside c.draw.ensures c.in-Ok.is)))
