-- Where the records of a run end in a list, and that nothing else stands before. Assumes nothing.
use Rattle.terms.proofs.Common.{ℕ, ◌≤◌, ◌≡◌, sym, ap, ◌∙◌, List, ◌++◌, append_assoc, arith, length, take, drop, take-append-drop, drop-append-le, length-take-le, take-append_seam}
use Rattle.setup.specs.declared.Setup.{Setup}
use Rattle.records.specs.Layout.{list_bytes}
use Rattle.commands.specs.{declared.options.Options.Options, Options.room_of}
use Rattle.runs.specs.declared.Report.{Report}
use Rattle.promises.proofs.ReadBack.{read_back}
use Rattle.interpreter.specs.Owing.{Owes}
use Rattle.list_files.specs.Lists.{budget_of, made_by, Makes}

-- ---- the run

module _ (was bs : List ℕ) (room : ℕ) (inside : room ≤ length was) (fits : length bs ≤ room) where
  -- a part of a buffer written from its first byte on is the buffer so written
  part_whole : (bs ++ drop (length bs) (take room was)) ++ drop room was ≡ bs ++ drop (length bs) was
  part_whole =
      let n = length bs in
      let k : n ≤ length (take room was) = omega (arith, length-take-le room was inside) in
      append_assoc bs (drop n (take room was)) (drop room was)
      ∙ ap (λ (x : List ℕ). bs ++ x)
      (sym (drop-append-le n (take room was) (drop room was) k) ∙ ap (drop n) (take-append-drop room was))

pub made :
    (s : Setup) → length s.origins ≡ 6 → (bytes : List ℕ) (o : Options) {room : ℕ} {was part : List ℕ} {r : Report}
    → room ≡ room_of o → room_of o ≤ length was → Owes s bytes (budget_of o) (take room was) part r
    → Makes s bytes o was (part ++ drop room was) r
made s six bytes o {room} {was} {part} {r} same inside owes =
    let bs = list_bytes (made_by s bytes o) in
    let within : room ≤ length was = omega (arith, same, inside) in
    let long : length (take room was) ≡ room = length-take-le room was within in
    let all : length bs ≤ room_of o = (read_back s six bytes (room_of o) (budget_of o)).fits in
    let fits : length bs ≤ room = omega (arith, same, all) in
    let end : r.end ≡ length bs = cc in
    let is : part ++ drop room was ≡ bs ++ drop (length bs) was = cc (part_whole was bs room within fits) in
    record {
      answer = cc;
      standing = cc;
      buffer = is;
      end = end;
      fits = omega (arith, end, all);
      file = cc (take-append_seam bs (drop (length bs) was));
    }
