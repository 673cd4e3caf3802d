use Rattle.terms.proofs.Common.{◌∙◌, ap}
use Rattle.codes.specs.declared.Code.{Code}
use Rattle.reading.proofs.{Seeing.told_g, Seeing.tells_code}
use Rattle.reading.proofs.code_role.Goals as goal

pub returns-then-is_bad_code : goal.returns-then-is_bad_code
returns-then-is_bad_code c main stood after =
    record {
      is = λ done s e f.
          tells_code main done c.args.w _ c.requires (c.is_bad_code.ensures.is done s ∙ ap (λ (x : Code). told_g x done) c.code_in-c.ensures) ∙ c.if-is_bad_code.true;
    }

pub returns : goal.returns
returns c main stood after =
    record {
      is = λ done s e f. (
        tells_code main done c.args.w _ c.requires (c.is_bad_code.ensures.is done s ∙ ap (λ (x : Code). told_g x done) c.code_in-c.ensures) ∙ c.if-is_bad_code.false,
        c.requires,
        c.code_in-c.ensures,
      );
    }
