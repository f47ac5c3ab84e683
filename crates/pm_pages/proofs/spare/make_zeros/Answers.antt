use Rattle.std.proofs.Common.{subst}
use Rattle.pm_types.specs.PageSizes.{IsPageSize}
use Rattle.pm_pages.specs.Paged.{MakesPage, AsksInVain, AllReadable}
use Rattle.pm_pages.proofs.ReadablePages.{readable_asked, readable_made, from_result}
use Rattle.pm_pages.proofs.spare.make_zeros.Goals as goal

pub returns-clause-readable : goal.returns-clause-readable
returns-clause-readable g c =
    let T = g.P.Pages.tells in
    let a = g.P.Pages.seen c.args.pages.now in
    let b = g.P.Pages.seen c.fresh.new.self in
    from_result c.fresh.result (MakesPage T a b c.args.index) (AsksInVain T a b c.args.index) (AllReadable b) c.fresh.ensures.makes c.fresh.ensures.unchanged
    (λ makes. readable_made T a b c.args.index c.requires.some (subst IsPageSize c.page_size-size.ensures.size c.page_size-size.ensures.page_size) c.requires.readable makes)
    (λ vain. readable_asked T a b c.args.index c.requires.readable vain.asks)
