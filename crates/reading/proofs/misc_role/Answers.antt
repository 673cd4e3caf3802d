use Rattle.terms.proofs.Common.{◌∙◌, ap}
use Rattle.codes.specs.declared.Misc.{Misc}
use Rattle.reading.specs.Seen.{bad_misc}
use Rattle.reading.proofs.{Seeing.tells_misc_code}
use Rattle.reading.proofs.misc_role.Goals as goal

pub returns-then-is_bad_misc : goal.returns-then-is_bad_misc
returns-then-is_bad_misc c groups m =
    record {
      is = λ done s e f.
          tells_misc_code c.args.main done c.args.w c.requires e _ c.args.after f
          (c.is_bad_misc.ensures ∙ ap (λ (x : Misc). bad_misc c.args.main c.args.after x) c.misc_in-m.ensures) ∙ c.if-is_bad_misc.true;
    }

pub returns : goal.returns
returns c groups m =
    record {
      is = λ done s e f. (
        tells_misc_code c.args.main done c.args.w c.requires e _ c.args.after f
            (c.is_bad_misc.ensures ∙ ap (λ (x : Misc). bad_misc c.args.main c.args.after x) c.misc_in-m.ensures) ∙ c.if-is_bad_misc.false,
        c.requires,
        c.misc_in-m.ensures,
      );
    }
