-- `letters::judgement::value_place` meets its contract: the place of each letter, and every other.
use Rattle.terms.proofs.Common.{refl, arith}
use Rattle.terms.specs.Terms.{byte}
use Rattle.letters.specs.{Letters.with_value, Places.values_by}
use Rattle.letters.proofs.{Places.place_by, Places.place_at, Places.place_none}
use Rattle.letters.proofs.judgement.value_place.Goals as goal

pub returns-in-88 : goal.returns-in-88
unfolding values_by with_value
returns-in-88 c = place_at (byte "X") _ c.in-88.is (place_by (byte "X") _ (omega arith) (λ given g. refl))

pub returns-in-89 : goal.returns-in-89
unfolding values_by with_value
returns-in-89 c = place_at (byte "Y") _ c.in-89.is (place_by (byte "Y") _ (omega arith) (λ given g. refl))

pub returns-in-90 : goal.returns-in-90
unfolding values_by with_value
returns-in-90 c = place_at (byte "Z") _ c.in-90.is (place_by (byte "Z") _ (omega arith) (λ given g. refl))

pub returns-in-73 : goal.returns-in-73
unfolding values_by with_value
returns-in-73 c = place_at (byte "I") _ c.in-73.is (place_by (byte "I") _ (omega arith) (λ given g. refl))

pub returns-in-74 : goal.returns-in-74
unfolding values_by with_value
returns-in-74 c = place_at (byte "J") _ c.in-74.is (place_by (byte "J") _ (omega arith) (λ given g. refl))

pub returns-in-75 : goal.returns-in-75
unfolding values_by with_value
returns-in-75 c = place_at (byte "K") _ c.in-75.is (place_by (byte "K") _ (omega arith) (λ given g. refl))

pub returns-in-82 : goal.returns-in-82
unfolding values_by with_value
returns-in-82 c = place_at (byte "R") _ c.in-82.is (place_by (byte "R") _ (omega arith) (λ given g. refl))

pub returns-in-80 : goal.returns-in-80
unfolding values_by with_value
returns-in-80 c = place_at (byte "P") _ c.in-80.is (place_by (byte "P") _ (omega arith) (λ given g. refl))

pub returns-in-70 : goal.returns-in-70
unfolding values_by with_value
returns-in-70 c = place_at (byte "F") _ c.in-70.is (place_by (byte "F") _ (omega arith) (λ given g. refl))

pub returns-in-83 : goal.returns-in-83
unfolding values_by with_value
returns-in-83 c = place_at (byte "S") _ c.in-83.is (place_by (byte "S") _ (omega arith) (λ given g. refl))

pub returns-in_default : goal.returns-in_default
unfolding values_by with_value
returns-in_default c = place_none c.args.letter c.in_default.in_default-own.rest
