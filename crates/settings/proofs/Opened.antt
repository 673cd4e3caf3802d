-- One name that opens every rule of this layer and of those below it, for a claim that holds by computation.
use Rattle.terms.proofs.Opened.{opened as terms-opened}
use Rattle.lengths.proofs.Opened.{opened as lengths-opened}
use Rattle.codes.proofs.Opened.{opened as codes-opened}
use Rattle.words.proofs.Opened.{opened as words_opened}
use Rattle.settings.specs.CycleWords.{same_cycle, kept_before, under_by, stands_with, under_with, kept_with, kept_under}
use Rattle.settings.specs.{Settings.first_modes, Settings.none_kept, Settings.first_state, Settings.kept_moved, Settings.state_moved, Settings.switched, Settings.or_else, Target.base, Target.aimed, Target.target}

unfoldable pub opened : Unit {0}
unfolding
    terms-opened
    lengths-opened
    codes-opened
    words_opened
    none_kept
    same_cycle
    kept_before
    under_by
    stands_with
    under_with
    kept_with
    kept_under
    first_modes
    first_state
    kept_moved
    state_moved
    switched
    or_else
    base
    aimed
    target
opened = tt
