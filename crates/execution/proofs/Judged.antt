-- What was read of a block's words is what the rules say of them. Assumes nothing.
use Rattle.std.specs.Prelude.{Result, Ok}
use Rattle.terms.proofs.Common.{ℕ, ◌≡◌, ◌∙◌, Bool, false, List, arith, get_or, take}
use Rattle.codes.specs.Codes.{is_group_a, is_g04}
use Rattle.words.specs.declared.{Word.Word, Values.Values}
use Rattle.setup.specs.{declared.Bed.Bed, Fair.Fair}
use Rattle.settings.specs.declared.State.{State}
use Rattle.letters.specs.declared.{BlockCode.BlockCode, Unfit.Unfit}
use Rattle.letters.{specs.Judging.CentreSeen, specs.Judging.judged_by, proofs.Valued.judged_valued}
use Rattle.letters.specs.Letters.{modes_in, names_group_a, names_g04, code_under, block_code, has_centre}
use Rattle.reading.specs.declared.Reading.{Reading}
use Rattle.blocks.{specs.declared.Said.Said, specs.Machine.machine_of, specs.Exec.Calls, specs.Exec.said_by, specs.Reach.Reachable, specs.Reach.Steady, proofs.Meaning.meant}
use Rattle.execution.specs.Steps.{Says}
use Rattle.execution.proofs.Verdicts.{values_past}

module _ (bed : Bed) (s : State) (read : Reading) (ws held : List Word) (says : Says s.modes ws held read) where
  abbrev said : Said
  said = said_by (machine_of bed) s.modes ws

  named_is : get_or read.seen.groups 1 false ≡ names_group_a ws
  unfolding names_group_a is_group_a
  named_is = says.seen.coded.each 1 (omega arith)

  dwells_is : get_or read.seen.groups 7 false ≡ names_g04 ws
  unfolding names_g04 is_g04
  dwells_is = says.seen.coded.each 7 (omega arith)

  -- whether the letter at a place of the alphabet stood in the block
  abbrev stood : ℕ → Bool
  stood k = get_or read.seen.letters k false

  centre_seen : CentreSeen ws (stood 8) (stood 9) (stood 10)
  centre_seen =
      let letters = says.seen.letters in
      record { has_i = letters 8 (omega arith); has_j = letters 9 (omega arith); has_k = letters 10 (omega arith) }

  module _ {code : BlockCode} (is : code ≡ code_under read.seen.misc (get_or read.seen.groups 7 false) read.seen.modes.motion) where
    code_is : code ≡ block_code (modes_in s.modes ws) ws
    unfolding block_code
    code_is = is ∙ rw (dwells_is, says.seen.misc, says.seen.modes)

    -- the judgement of the words that were kept is that of all words
    pub judged_is :
        {centred : Bool} {j : Result Values Unfit}
        → ((us : List Word) → CentreSeen us (stood 8) (stood 9) (stood 10) → centred ≡ has_centre code read.seen.modes.plane us)
        → j ≡ judged_by (record { lowest = bed.lowest; highest = bed.highest }) read.seen.modes code centred (take read.count held)
        → j ≡ judged_by (machine_of bed).speeds said.modes said.code (has_centre said.code said.modes.plane ws) ws
    unfolding said_by machine_of
    judged_is h e =
        let m = modes_in s.modes ws in
        e
        ∙ rw (h ws centre_seen, says.words, code_is, says.seen.modes)
        (judged_valued (machine_of bed).speeds m (block_code m ws) (has_centre (block_code m ws) m.plane ws) ws)

    module _
        {values : Values}
        (e : Ok values ≡ judged_by (machine_of bed).speeds said.modes said.code (has_centre said.code said.modes.plane ws) ws)
      where
        abbrev found : Said
        found =
            record {
              modes = read.seen.modes;
              code = code;
              misc = read.seen.misc;
              named = get_or read.seen.groups 1 false;
              values = values;
            }

        pub said_is : (calls : Calls) (room start : ℕ) → found ≡ said
        unfolding said_by machine_of
        said_is calls room start =
            rw (code_is, named_is, says.seen.misc, says.seen.modes, (values_past (machine_of bed) calls room s start ws e).1.are)

        pub steady : Fair bed → Reachable bed s → (calls : Calls) (room start : ℕ) → Steady bed s found
        unfolding said_by machine_of
        steady fair state calls room start =
            rw (said_is calls room start)
            (record { fair = fair; state = state; said = meant bed s ws fair state (values_past (machine_of bed) calls room s start ws e).1.good })
