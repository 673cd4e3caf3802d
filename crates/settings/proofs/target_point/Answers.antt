-- `settings::target_point` meets its contract, axis by axis.
use Rattle.settings.specs.Target.{target}
use Rattle.settings.proofs.{Near.target_near}
use Rattle.settings.proofs.target_point.Goals as goal

pub returns : goal.returns
unfolding target
returns c =
    record {
      is = rw (c.aimed.ensures, c.aimed-2.ensures, c.aimed-3.ensures);
      near =
          rw (c.aimed.ensures, c.aimed-2.ensures, c.aimed-3.ensures)
          (target_near c.args.d c.args.origin c.args.from c.args.v c.requires);
    }
