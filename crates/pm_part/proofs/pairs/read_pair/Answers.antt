use Rattle.std.proofs.Common.{◌⊎◌, subst, inl}
use Rattle.std.specs.Prelude.{IfSome}
use Rattle.std.proofs.lemmas.Result.{err_from_is_err_and}
use Rattle.pm_part.specs.PairReads.{ReadPair}
use Rattle.pm_part.specs.PairFaults.{WasBad, WasBadAt, IsPairFault}
use Rattle.pm_part.proofs.ReadOn.{reads_then}
use Rattle.pm_part.proofs.PairCauses.{cause_on, bad_below, had_pair}
use Rattle.pm_part.proofs.pairs.read_pair.Goals as goal

pub returns-in_err-find_pair-in-Some-clause-cause : goal.returns-in_err-find_pair-in-Some-clause-cause
returns-in_err-find_pair-in-Some-clause-cause g c =
    let T = g.P.Pages.tells in
    let a = g.P.Pages.seen c.args.pages.now in
    let b = g.P.Pages.seen c.make_room.new.pages in
    let d = g.P.Pages.seen c.find_pair.new.pages in
    let p = err_from_is_err_and c.from_residual.result c.from_residual.ensures.1 in
    cause_on T a b d (λ start. WasBadAt T start c.in-Some.spot.at) (λ start id. WasBad T start c.args.count id ⊎ IsPairFault T start c.args.count c.args.cache c.args.leaf c.args.link c.args.key.now id)
    c.find_pair.result c.from_residual.result c.in_err-find_pair-in-Some.field-0.0 p.0 c.in_err-find_pair-in-Some.was p.1 p.2
    c.make_room.ensures.reads (λ start since id bad. inl (bad_below T start c.args.count c.in-Some.spot.at id c.in-Some.ensures.spot.below bad)) c.find_pair.ensures.cause

pub returns-in-Some-2-clause-pair : goal.returns-in-Some-2-clause-pair
returns-in-Some-2-clause-pair g c = λ start since.
    let T = g.P.Pages.tells in
    let a = g.P.Pages.seen c.args.pages.now in
    let b = g.P.Pages.seen c.make_room.new.pages in
    let since' = reads_then T start a b since c.make_room.ensures.reads in
    let read = subst (λ o. IfSome o (ReadPair T start c.in-Some.spot c.args.cache c.args.key.now)) c.in-Some-2.is (c.in_ok-find_pair-in-Some.ensures.pair start since') in
    had_pair T start a c.part.result c.args.count c.args.cache c.args.link c.args.key.now c.in-Some.spot c.in-Some-2.pair since c.part.ensures c.in-Some.ensures.spot read
