-- `work::planning::centre_for` meets its contract.
use Rattle.std.specs.Prelude.{is_some}
use Rattle.terms.proofs.Common.{ap}
use Rattle.work.proofs.{Centring.spanned, Centring.by_radius, Centring.by_words, Centring.words_sums}
use Rattle.work.proofs.planning.centre_for.Goals as goal

pub centre_by-requires : goal.centre_by-requires
centre_by-requires c =
    spanned c.args.s c.args.v c.args.end c.in_plane.ensures c.in_plane-in-Some.ensures c.in-Some.is c.requires

pub returns-in-Some : goal.returns-in-Some
returns-in-Some c =
    let a = c.args in
    by_radius a.s a.v a.end c.in_plane.ensures c.in_plane-in-Some.ensures c.in-Some.is a.left c.centre_by.ensures

pub moved-requires : goal.moved-requires
moved-requires c =
    words_sums c.args.s c.args.v c.args.end c.requires c.centre_words.ensures

pub returns : goal.returns
returns c =
    let a = c.args in
    by_words a.s a.v a.end a.left (ap is_some c.in_default.is)
    (rw (c.in_plane-2.ensures, c.moved.ensures.is, c.centre_words.ensures))
