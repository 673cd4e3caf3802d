-- `letters::moving_use` meets its contract: F and S, and the letters of the motion after them in the table.
use Rattle.terms.proofs.Common.{rules, refl, ◌++◌}
use Rattle.terms.specs.Terms.{byte, bytes, any, all, lookup}
use Rattle.letters.specs.Letters.{feed_and_speed, motion_letters}
use Rattle.letters.proofs.{Uses.used_at, Uses.used_past}
use Rattle.letters.proofs.moving_use.Goals as goal

pub returns-in_default : goal.returns-in_default
unfolding any all
returns-in_default c =
    let a = c.args in
    used_past (bytes "SF") feed_and_speed (motion_letters a.motion a.plane) a.letter c.in_default.in_default-own.rest refl
    c.motion_use.ensures

pub motion_use-requires : goal.motion_use-requires
unfolding lookup
motion_use-requires c = search rules

pub returns-in-70 : goal.returns-in-70
unfolding lookup
returns-in-70 c = let a = c.args in used_at (feed_and_speed ++ motion_letters a.motion a.plane) (byte "F") c.in-70.is

pub returns-in-83 : goal.returns-in-83
unfolding lookup
returns-in-83 c = let a = c.args in used_at (feed_and_speed ++ motion_letters a.motion a.plane) (byte "S") c.in-83.is
