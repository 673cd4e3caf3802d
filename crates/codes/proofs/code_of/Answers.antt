-- `codes::code_of` meets its contract: each arm is a row of the table or a range of rows, and the last is every number
-- that it does not have, below, between and above the ranges.
use Rattle.terms.specs.Terms.{lookup}
use Rattle.codes.specs.Codes.{code_of}
use Rattle.codes.proofs.Tables.{code_at, plane_there, plane_of, place_of, code_none, below_ranges, between_ranges, above_ranges}
use Rattle.codes.proofs.code_of.Goals as goal

pub bounds-n-n : goal.bounds-n-n
unfolding code_of lookup
bounds-n-n c = plane_there _ c.in-17-to-19.if-n-lt20-own.true

pub returns-in-0 : goal.returns-in-0
unfolding code_of lookup
returns-in-0 c = code_at 0 c.in-0.is

pub returns-in-1 : goal.returns-in-1
unfolding code_of lookup
returns-in-1 c = code_at 1 c.in-1.is

pub returns-in-2 : goal.returns-in-2
unfolding code_of lookup
returns-in-2 c = code_at 2 c.in-2.is

pub returns-in-3 : goal.returns-in-3
unfolding code_of lookup
returns-in-3 c = code_at 3 c.in-3.is

pub returns-in-80 : goal.returns-in-80
unfolding code_of lookup
returns-in-80 c = code_at 80 c.in-80.is

pub returns-in-81 : goal.returns-in-81
unfolding code_of lookup
returns-in-81 c = code_at 81 c.in-81.is

pub returns-in-82 : goal.returns-in-82
unfolding code_of lookup
returns-in-82 c = code_at 82 c.in-82.is

pub returns-in-85 : goal.returns-in-85
unfolding code_of lookup
returns-in-85 c = code_at 85 c.in-85.is

pub returns-in-89 : goal.returns-in-89
unfolding code_of lookup
returns-in-89 c = code_at 89 c.in-89.is

pub returns-in-20 : goal.returns-in-20
unfolding code_of lookup
returns-in-20 c = code_at 20 c.in-20.is

pub returns-in-21 : goal.returns-in-21
unfolding code_of lookup
returns-in-21 c = code_at 21 c.in-21.is

pub returns-in-90 : goal.returns-in-90
unfolding code_of lookup
returns-in-90 c = code_at 90 c.in-90.is

pub returns-in-91 : goal.returns-in-91
unfolding code_of lookup
returns-in-91 c = code_at 91 c.in-91.is

pub returns-in-98 : goal.returns-in-98
unfolding code_of lookup
returns-in-98 c = code_at 98 c.in-98.is

pub returns-in-99 : goal.returns-in-99
unfolding code_of lookup
returns-in-99 c = code_at 99 c.in-99.is

pub returns-in-4 : goal.returns-in-4
unfolding code_of lookup
returns-in-4 c = code_at 4 c.in-4.is

pub returns-in-17-to-19 : goal.returns-in-17-to-19
unfolding code_of lookup
returns-in-17-to-19 c = plane_of _ c.in-17-to-19.if-n-lt17-own.false c.in-17-to-19.if-n-lt20-own.true _

pub returns-in-54-to-59 : goal.returns-in-54-to-59
unfolding code_of lookup
returns-in-54-to-59 c = place_of _ c.in-54-to-59.if-n-lt54-own.false c.in-54-to-59.if-n-lt60-own.true

pub returns-in_default : goal.returns-in_default
unfolding code_of lookup
returns-in_default c = code_none _ c.in_default.in_default-own.rest (below_ranges _ c.in_default.if-n-lt17-own.true)

pub returns-in_default-2 : goal.returns-in_default-2
unfolding code_of lookup
returns-in_default-2 c = code_none _ c.in_default.in_default-own.rest (between_ranges _ c.in_default.if-n-lt20-own.false c.in_default.if-n-lt54-own.true)

pub returns-in_default-3 : goal.returns-in_default-3
unfolding code_of lookup
returns-in_default-3 c = code_none _ c.in_default.in_default-own.rest (above_ranges _ c.in_default.if-n-lt60-own.false)
