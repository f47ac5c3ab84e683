use Rattle.std.proofs.Common.{sym, subst, arith}
use Rattle.pm_engine.specs.TrackedPages.{ChangesWithin, ChangesPart}
use Rattle.pm_engine.proofs.TrackedFrames.{tracks_no_page, tracks_operation}
use Rattle.pm_engine.proofs.tracking.tracking_goes_on.Goals as goal

pub returns-clause-no_page : goal.returns-clause-no_page
returns-clause-no_page c = λ shape frames frame rec files pages logged is no tracks. tracks_no_page shape frames frame rec files pages logged is no tracks

pub returns-clause-operation : goal.returns-clause-operation
returns-clause-operation c = λ shape frames part noted files old new logged is_shape inside names within changes tracks.
    tracks_operation shape frames files old logged noted.seen (omega (arith, inside, names.number)) (omega (arith, names.number, names.small)) is_shape.page_size
    (subst (λ p. ChangesWithin shape.page_size (old p) noted.seen) (sym names.number) within) tracks
    noted.count new names.few names.below
    (subst (λ p. ChangesPart p old new noted.seen.pages) (sym names.number) changes)
