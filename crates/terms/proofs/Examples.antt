-- What the words of the definitions mean, at small numbers, by computation.
use Rattle.terms.proofs.Common.{ℕ, ◌≡◌, refl, true, false, None, Some, [], ◌∷◌, map, leb, pos, negsuc}
use Rattle.terms.specs.Terms.{first_of, when, first, any, all, stands, lookup, from_to, between, within}
use Rattle.terms.proofs.Opened.{opened}

-- both ends of a range are counted
pub from_to_lem : map (from_to 1 8) (0 ∷ 1 ∷ 8 ∷ 9 ∷ []) ≡ false ∷ true ∷ true ∷ false ∷ []
from_to_lem = refl

pub between_ends : map (between (negsuc 1) (pos 8)) (negsuc 2 ∷ negsuc 1 ∷ pos 8 ∷ pos 9 ∷ []) ≡ false ∷ true ∷ true ∷ false ∷ []
between_ends = refl

pub within_ends : map (within 5) (negsuc 5 ∷ negsuc 4 ∷ pos 5 ∷ pos 6 ∷ []) ≡ false ∷ true ∷ true ∷ false ∷ []
within_ends = refl

-- the first that passes, wherever it stands
pub first_of_three : map (λ n. first (leb n) (1 ∷ 3 ∷ 5 ∷ [])) (0 ∷ 2 ∷ 4 ∷ 6 ∷ []) ≡ Some 1 ∷ Some 3 ∷ Some 5 ∷ None ∷ []
unfolding opened
first_of_three = refl

pub first_there_is : map (λ n. first_of {A = ℕ} (when (leb n 1) 1 ∷ when (leb n 3) 3 ∷ [])) (0 ∷ 2 ∷ 4 ∷ []) ≡ Some 1 ∷ Some 3 ∷ None ∷ []
unfolding opened
first_there_is = refl

pub any_of_two : map (λ n. any (leb n) (1 ∷ 3 ∷ [])) (1 ∷ 2 ∷ 4 ∷ []) ≡ true ∷ true ∷ false ∷ []
unfolding opened
any_of_two = refl

pub all_of_two : map (λ n. all (leb n) (1 ∷ 3 ∷ [])) (1 ∷ 2 ∷ 4 ∷ []) ≡ true ∷ false ∷ false ∷ []
unfolding opened
all_of_two = refl

pub stands_or_not : map (stands {A = ℕ}) (Some 1 ∷ None ∷ []) ≡ true ∷ false ∷ []
unfolding opened
stands_or_not = refl

-- each row of a table is looked at
pub looked_up : map (λ n. lookup {A = ℕ} n ((1, 10) ∷ (2, 20) ∷ []) 0) (1 ∷ 2 ∷ 3 ∷ []) ≡ 10 ∷ 20 ∷ 0 ∷ []
unfolding opened
looked_up = refl
