-- The names of the kit that definitions use, passed on so that a file names them in one line. Each is what the kit says, under its own name.
pub use Prim.Native.Char.{Char, code}
pub use Rattle.std.specs.Prelude.{min, suc, zero, ℕ, ◌%◌, ◌*◌, ◌+◌, ◌-◌, ◌/◌, ◌<◌, ◌^◌, ◌≤◌, Bool, false, not, true, ◌&&◌, ◌||◌, List, [], map, ◌++◌, ◌∷◌, ◌⊎◌, ◌≡◌, eqb, leb, ltb, nat_abs, negsuc, neg_ℤ, pos, ℤ, ◌*ℤ◌, ◌+ℤ◌, ◌-ℤ◌, drop, get_or, length, set, take}
pub use Prim.Native.String.{String}
pub use Rattle.std.specs.Prelude.{Option, None, Some}
pub use Rattle.std.proofs.Math.Seq.{paste}
pub use Rattle.std.proofs.lemmas.List.Edits.{sets}
pub use Rattle.std.specs.Int.Signed.{le_z, lt_z}
