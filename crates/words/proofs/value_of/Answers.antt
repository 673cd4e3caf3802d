-- `words::value_of` meets its contract, use by use.
use Rattle.terms.proofs.Common.{⊎_elim}
use Rattle.words.specs.Values.{value_of}
use Rattle.words.proofs.value_of.Goals as goal

pub returns-in-Nothing : goal.returns-in-Nothing
unfolding value_of
returns-in-Nothing c = rw c.zero.ensures.is (⊎_elim (λ e. rw e) (λ e. rw e) c.in-Nothing.is)

pub returns-in-Label : goal.returns-in-Label
unfolding value_of
returns-in-Label c = rw c.label_value.ensures (⊎_elim (λ e. rw e) (λ e. rw e) c.in-Label.is)

pub returns-in-Speed : goal.returns-in-Speed
unfolding value_of
returns-in-Speed c = rw c.in-Speed.is c.speed_value.ensures

pub returns-in-Count : goal.returns-in-Count
unfolding value_of
returns-in-Count c = rw c.in-Count.is c.count_value.ensures

pub returns-in-Dwell : goal.returns-in-Dwell
unfolding value_of
returns-in-Dwell c = rw c.in-Dwell.is c.dwell_value.ensures

pub returns-in-Length : goal.returns-in-Length
unfolding value_of
returns-in-Length c = rw c.in-Length.is c.length_value.ensures

pub returns-in-Feed : goal.returns-in-Feed
unfolding value_of
returns-in-Feed c = rw c.in-Feed.is c.feed_value.ensures
