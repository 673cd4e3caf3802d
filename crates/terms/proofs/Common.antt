-- The names of the kit that proofs use, those of the definitions among them, passed on so that a file names them in one line.
pub use Rattle.terms.specs.Common.{Bool, Char, List, Option, String, [], code, drop, eqb, false, get_or, le_z, leb, length, lt_z, ltb, map, min, nat_abs, negsuc, neg_ℤ, None, not, paste, pos, set, sets, Some, suc, take, true, zero, ℕ, ℤ, ◌%◌, ◌&&◌, ◌*◌, ◌*ℤ◌, ◌++◌, ◌+◌, ◌+ℤ◌, ◌-◌, ◌-ℤ◌, ◌/◌, ◌<◌, ◌^◌, ◌||◌, ◌∷◌, ◌≡◌, ◌≤◌, ◌⊎◌}
pub use mathlib.Core.Bool.{and_assoc, and-false, and-true, cond, false≢true, or_assoc, or-false, or-true, true≢false}
pub use mathlib.Core.List.{append_assoc, append-nil}
pub use mathlib.Core.Logic.{inl, inr, ⊎_elim, ◌≢◌}
pub use mathlib.Core.Path.{ap, ap₂, fun_ext, refl, subst, sym, ◌∙◌}
pub use lib.Arith.{digits_div, digits_mod}
pub use lib.Dec.{T, leb-suc-suc as leb·suc-suc, lit<, lit≤}
pub use lib.IntN.{+ℤ_idl, sub_ℕ}
pub use lib.ListN.{get_or-map as List·getD-map, drop_of_length-le, get_or-replicate, length-append, length-drop, length-map, length-replicate, length-set, length-take, replicate, take-append-drop}
pub use lib.Pow.{pow_pos}
pub use lib.Seq.{drop-append-le, drop-append_seam, drop_at, drop-cons, drop-drop, get_or-drop, get_or-set_other, get_or-set_same, get_or-take, length-paste, length-sets, length-slice, length-take-le, paste-suc, paste-zero, set_out, sets-eq, slice, slice-cons, slice_empty, take-add, take_all, take-append_seam, take-length, take-paste, take-set-le, take-suc, take-suc-set}
pub use lib.Signed.{non_neg}
pub use native.Mathlib.Decide.{dec_le, dec_lt, ℕ_discrete}
pub use native.Mathlib.Nat.{add-sub_cancel_left, add-zero, div-add-mod, div-add-mod', div-div-eq-div-mul, div-eq_of_lt, div-le_of_le-mul, div-le_self, div-mul-le_self, div-one, eq_of_mul-eq-mul_right, le_of_mul-le-mul_left, le_of_mul-le-mul_right, lt-div-mul-add, lt_of_mul-lt-mul_right, mod-eq_of_lt, mod-lt, mul-le-mul, mul-le-mul_left, mul-le-mul_right, not-le_of_lt, pow-le-pow_right, pow-suc, pow-succ', suc-add, zero-add}
pub use native.Mathlib.Numerals.{add-one}
pub use native.Mathlib.Omega.{arith}
pub use borrow.Author.Rules.{rules}
pub use borrow.Author.Tests.{eq-eqb, eqb-false, eqb-true, le-leb, le-ltb, leb-false, leb-true, lt-leb, lt-ltb, ltb-false, ltb-true, ne_eqb, not-false, not-true}
