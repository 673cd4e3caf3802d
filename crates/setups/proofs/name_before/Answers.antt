-- `setups::name_before` meets its contract: the row of names has a part for each.
use Rattle.terms.proofs.Common.{◌+◌, ◌<◌, arith, length-take, length-drop}
use Rattle.setups.proofs.{Filling.begins_order, Filling.begins_inside, Filling.name_of_lem, Filling.no_name}
use Rattle.setups.proofs.name_before.Goals as goal

pub returns-in_default : goal.returns-in_default
returns-in_default c =
    no_name c.args.s.now c.args.at c.args.k c.requires c.name_of.ensures.value c.in_default.is

pub slice_bounds-pass_name-count : goal.slice_bounds-pass_name-count
slice_bounds-pass_name-count c =
    let j = c.in-Some.j in
    let less : j < 15 = c.in-Some.ensures.inside in
    omega (arith, begins_order j less)

pub slice_bounds-pass_name-start : goal.slice_bounds-pass_name-start
slice_bounds-pass_name-start c =
    let j = c.in-Some.j in
    let less : j < 15 = c.in-Some.ensures.inside in
    omega (arith, begins_order j less, begins_inside (j + 1) (omega arith))

pub slice_bounds-pass_name-end : goal.slice_bounds-pass_name-end
slice_bounds-pass_name-end c =
    let j = c.in-Some.j in
    let less : j < 15 = c.in-Some.ensures.inside in
    omega (arith, begins_order j less, begins_inside (j + 1) (omega arith))

pub pass_name-requires : goal.pass_name-requires
pass_name-requires c =
    let j = c.in-Some.j in
    let less : j < 15 = c.in-Some.ensures.inside in
    simp (length-take, length-drop) (omega (arith, begins_order j less, begins_inside (j + 1) (omega arith)))

pub returns : goal.returns
returns c =
    let j = c.in-Some.j in
    let less : j < 15 = c.in-Some.ensures.inside in
    name_of_lem c.args.s.now c.args.at c.args.k c.requires c.name_of.ensures.value c.in-Some.is less c.pass_name.ensures
