-- `arcs::staying::are_extremes_inside` meets its contract, extreme by extreme.
use Rattle.arcs.specs.Arcs.{extremes_inside}
use Rattle.arcs.proofs.staying.are_extremes_inside.Goals as goal

pub returns : goal.returns
unfolding extremes_inside
returns c =
    let none = c.zero-none.ensures.is in
    let up = c.of-up.ensures.is in
    let down = c.of-down.ensures.is in
    let first = rw (up, none) at c.is_on_left_way-first_up.ensures in
    let second = rw (none, up) at c.is_on_left_way-second_up.ensures in
    let third = rw (down, none) at c.is_on_left_way-first_down.ensures in
    let fourth = rw (none, down) at c.is_on_left_way-second_down.ensures in
    let one = rw (up, none) at c.is_extreme_inside.ensures in
    let two = rw (none, up) at c.is_extreme_inside-2.ensures in
    let three = rw (down, none) at c.is_extreme_inside-3.ensures in
    let four = rw (none, down) at c.is_extreme_inside-4.ensures in
    rw (first, second, third, fourth, one, two, three, four)
