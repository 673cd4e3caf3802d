-- `files::status::named_by` meets its contract: a name that is too long is not asked about.
use Rattle.files.specs.Names.{named_of}
use Rattle.files.proofs.status.named_by.Goals as goal

pub returns-then-path-ge-PATH_MAX : goal.returns-then-path-ge-PATH_MAX
unfolding named_of
returns-then-path-ge-PATH_MAX g c = record { long = λ h. c.named_of.ensures }
