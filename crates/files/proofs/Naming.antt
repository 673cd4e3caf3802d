-- The name of the file beside a path, written part by part. Assumes nothing.
use Rattle.terms.proofs.Common.{ℕ, None, Some, ◌+◌, ◌≤◌, ◌<◌, ◌≡◌, ap, ◌∙◌, List, ◌++◌, arith, length, take, take-length, paste, length-paste, take-paste, lt-ltb, le-ltb}
use Rattle.io.proofs.Counting.{prefix_len_of_le}
use Rattle.terms.specs.Terms.{bytes}
use Rattle.files.specs.Parts.{part_of, part_in, Puts, Names}

module _ (path was : List ℕ) where
  pub no_room : length was ≤ length path + 12 → Names path was was None
  unfolding part_in
  no_room h = record { counts = tt; name = rw (le-ltb (length path + 12) (length was) h) }

  pub named :
      {mid is : List ℕ} {n next : ℕ} → length path + 12 < length was
      → Puts was 0 path mid n → Puts mid n (bytes ".part-XXXXXX") is next → Names path was is (Some next)
  unfolding part_in part_of
  named {mid} {is} {n} {next} h first second =
      let part = bytes ".part-XXXXXX" in
      let all : length mid ≡ length was =
      ap length first.bytes ∙ length-paste was 0 path (length path) (omega arith) (omega arith) in
      let same : length is ≡ length mid =
      ap length second.bytes ∙ length-paste mid n part 12 (omega (arith, first.place)) (omega arith) in
      let front : take n mid ≡ path =
      ap (take n) first.bytes ∙ ap (λ (k : ℕ). take k (paste was 0 path (length path))) first.place
      ∙ take-paste was 0 path (length path) (omega arith) (omega arith) ∙ take-length path in
      let whole : take next is ≡ take n mid ++ part =
      ap (take next) second.bytes ∙ ap (λ (k : ℕ). take k (paste mid n part 12)) second.place
      ∙ take-paste mid n part 12 (omega (arith, first.place)) (omega arith) in
      record {
        counts = prefix_len_of_le next is (omega (arith, first.place, second.place));
        name = rw (lt-ltb (length path + 12) (length was) h) (ap Some (whole ∙ ap (λ (x : List ℕ). x ++ part) front));
      }
