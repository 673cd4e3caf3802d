-- `cases::case_text::case_at` meets its contract: line by line, and the three words.
use Rattle.terms.proofs.Common.{◌∙◌, refl}
use Rattle.cases.proofs.{Laws.line_inside, Laws.data_inside, Laws.case_is, Laws.none_read, Laws.not_sound, Laws.case_stands}
use Rattle.cases.proofs.case_text.case_at.Goals as goal

pub next_block-from-requires : goal.next_block-from-requires
next_block-from-requires c =
    line_inside c.args.input.now c.args.at _ c.next_block-line.ensures c.requires

pub slice_bounds-read_setup-end : goal.slice_bounds-read_setup-end
slice_bounds-read_setup-end c =
    data_inside c.args.input.now c.args.at c.next_block-line.ensures c.next_block-from.ensures c.requires

pub slice_bounds-words-end : goal.slice_bounds-words-end
slice_bounds-words-end c =
    line_inside c.args.input.now c.args.at _ c.next_block-line.ensures c.requires

pub end_after-end-requires : goal.end_after-end-requires
end_after-end-requires c =
    data_inside c.args.input.now c.args.at c.next_block-line.ensures c.next_block-from.ensures c.requires

pub returns-in_default : goal.returns-in_default
returns-in_default c =
    let a = c.args in
    none_read c.read_setup.result _ c.count_at-first.result.count c.size_of-room.result c.next_block-from.result c.end_after-end.result c.in_default.not-Ok
    ∙ case_is a.input.now a.at c.next_block-line.ensures c.next_block-from.ensures a.most c.read_setup.ensures c.count_at-first.ensures c.count_at-second.ensures c.count_at-third.ensures c.size_of-room.ensures c.size_of.ensures c.end_after-end.ensures refl

pub returns-then-room-most : goal.returns-then-room-most
returns-then-room-most c =
    let a = c.args in
    case_stands c.in-Ok.is c.if-room-most.true
    ∙ case_is a.input.now a.at c.next_block-line.ensures c.next_block-from.ensures a.most c.read_setup.ensures c.count_at-first.ensures c.count_at-second.ensures c.count_at-third.ensures c.size_of-room.ensures c.size_of.ensures c.end_after-end.ensures c.is_line_end.ensures

pub returns-else-room-most : goal.returns-else-room-most
returns-else-room-most c =
    let a = c.args in
    not_sound c.count_at-first.result.count c.size_of-room.result c.next_block-from.result c.end_after-end.result c.in-Ok.is c.if-room-most.false
    ∙ case_is a.input.now a.at c.next_block-line.ensures c.next_block-from.ensures a.most c.read_setup.ensures c.count_at-first.ensures c.count_at-second.ensures c.count_at-third.ensures c.size_of-room.ensures c.size_of.ensures c.end_after-end.ensures c.is_line_end.ensures
