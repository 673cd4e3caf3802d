-- What becomes of a name, test by test. Assumes nothing.
use Rattle.std.specs.Prelude.{Result, Ok, Err}
use Rattle.terms.proofs.Common.{ℕ, ℤ, ◌/◌, ◌%◌, ◌≡◌, Bool, true, false, eq-eqb, ne_eqb}
use Rattle.files.specs.{Names.same_file, Names.kind_fate, Names.found_fate, Names.fate_of, declared.Named.Named, declared.Filed.Filed}
use Rattle.files.specs.declared.Unfound.{Unfound, TheVariants.Missing, TheVariants.Failed}
use Rattle.files.specs.declared.Fate.TheVariants.{New, Old, Read, Link, Folder, Special, Locked, Unknown}

module _ (kind : ℕ) (locked : Bool) where
  pub kind_locked : kind ≡ 8 → locked ≡ true → Locked ≡ kind_fate kind locked
  unfolding kind_fate
  kind_locked k e = rw (eq-eqb kind 8 k, e)

  pub kind_old : kind ≡ 8 → locked ≡ false → Old ≡ kind_fate kind locked
  unfolding kind_fate
  kind_old k e = rw (eq-eqb kind 8 k, e)

  pub kind_folder : (kind ≡ 8 → ⊥) → kind ≡ 4 → Folder ≡ kind_fate kind locked
  unfolding kind_fate
  kind_folder n k = rw (ne_eqb kind 8 n, eq-eqb kind 4 k)

  pub kind_special : (kind ≡ 8 → ⊥) → (kind ≡ 4 → ⊥) → Special ≡ kind_fate kind locked
  unfolding kind_fate
  kind_special n k = rw (ne_eqb kind 8 n, ne_eqb kind 4 k)

module _ (out first second : Named) where
  pub is_first : same_file out first ≡ true → Read ≡ fate_of out first second
  unfolding fate_of
  is_first e = rw e

  module _ (n : same_file out first ≡ false) where
    pub is_second : same_file out second ≡ true → Read ≡ fate_of out first second
    unfolding fate_of
    is_second e = rw (n, e)

    module _ (m : same_file out second ≡ false) where
      pub is_link : out.link ≡ true → Link ≡ fate_of out first second
      unfolding fate_of
      is_link e = rw (n, m, e)

      pub is_found : out.link ≡ false → found_fate out.file out.locked ≡ fate_of out first second
      unfolding fate_of
      is_found e = rw (n, m, e)

module _ (locked : Bool) {file : Result Filed Unfound} where
  pub is_there : {x : Filed} → file ≡ Ok x → kind_fate (x.mode / 4096 % 16) locked ≡ found_fate file locked
  unfolding found_fate
  is_there e = rw e

  pub is_new : {why : Unfound} → file ≡ Err why → why ≡ Missing → New ≡ found_fate file locked
  unfolding found_fate
  is_new e m = rw (e, m)

  pub is_unknown : {why : Unfound} {error : ℤ} → file ≡ Err why → why ≡ Failed error → Unknown ≡ found_fate file locked
  unfolding found_fate
  is_unknown e m = rw (e, m)
