use Rattle.std.proofs.lemmas.Result.{on_ok_weaker, err_from_is_err_and}
use Rattle.pm_pages.proofs.EditedPages.{looks_then}
use Rattle.pm_free.proofs.Changed.{data_looked, changes_looked, changes_told, changes_then}
use Rattle.pm_free.proofs.ChainCauses.{cause_passed, cause_looked}
use Rattle.pm_free.proofs.Neighbours.{HeadKnown, head_known, moves_in}
use Rattle.std.proofs.Common.{◌<◌, arith}
use Rattle.pm_pages.specs.Rows.{page_count}
use Rattle.pm_pages.proofs.SoundPages.{no_bad_passed}
use Rattle.pm_free.proofs.Changed.{below_count}
use Rattle.pm_free.proofs.SoundChains.{first_data, chains_looked}
use Rattle.pm_free.proofs.chains.link.Goals as goal

pub returns-in_err-check_named-clause-cause : goal.returns-in_err-check_named-clause-cause
returns-in_err-check_named-clause-cause g c =
    let T = g.P.Pages.tells in
    let a = g.P.Pages.seen c.args.pages.now in
    let b = g.P.Pages.seen c.number.new.pages in
    let d = g.P.Pages.seen c.check_named.new.pages in
    let p = err_from_is_err_and c.from_residual-in_err-check_named.result c.from_residual-in_err-check_named.ensures.1 in
    cause_passed T a d c.check_named.result c.from_residual-in_err-check_named.result c.in_err-check_named.field-0.0 p.0 c.in_err-check_named.was p.1 p.2
    (cause_looked T a b d 0 c.check_named.result c.number.ensures.looks c.check_named.ensures.cause)

pub put_first-requires-clause-page : goal.put_first-requires-clause-page
put_first-requires-clause-page g c =
    let T = g.P.Pages.tells in
    let a = g.P.Pages.seen c.args.pages.now in
    let b = g.P.Pages.seen c.number.new.pages in
    let d = g.P.Pages.seen c.check_named.new.pages in
    data_looked T a d 1 c.args.at c.requires.meta (looks_then T a b d 0 1 c.number.ensures.looks c.check_named.ensures.looks) c.requires.page

pub returns-clause-links : goal.returns-clause-links
returns-clause-links g c =
    let T = g.P.Pages.tells in
    let a = g.P.Pages.seen c.args.pages.now in
    let b = g.P.Pages.seen c.number.new.pages in
    let d = g.P.Pages.seen c.check_named.new.pages in
    let e = g.P.Pages.seen c.put_first.new.pages in
    let looks = looks_then T a b d 0 1 c.number.ensures.looks c.check_named.ensures.looks in
    let head = c.in_ok-head.head in
    let known = changes_told T a d 1 _ (HeadKnown c.args.at c.args.bucket head) (changes_looked T a d 1 c.requires.meta looks)
    (λ t. head_known T a b d 0 1 c.args.at c.args.bucket head t c.requires.meta c.requires.page c.number.ensures.looks c.in_ok-head.ensures.number looks) in
    on_ok_weaker c.put_first.result (λ puts. changes_then T a d e 1 0 _ _ _ (moves_in c.args.at c.args.bucket head c.requires.bucket) known puts) c.put_first.ensures.puts

pub returns-in_err-check_named-clause-sound : goal.returns-in_err-check_named-clause-sound
returns-in_err-check_named-clause-sound g c = λ home s.
    let T = g.P.Pages.tells in
    let a = g.P.Pages.seen c.args.pages.now in
    let b = g.P.Pages.seen c.number.new.pages in
    let looks = c.number.ensures.looks in
    let p = err_from_is_err_and c.from_residual-in_err-check_named.result c.from_residual-in_err-check_named.ensures.1 in
    let some : 0 < page_count a.pages = omega (arith, below_count a c.args.at c.requires.meta c.requires.page) in
    no_bad_passed c.check_named.result c.from_residual-in_err-check_named.result c.in_err-check_named.field-0.0 p.0 c.in_err-check_named.was p.1 p.2
    (c.check_named.ensures.sound s.told (chains_looked T a b 0 home looks s).sound (first_data T a b 0 c.args.bucket c.in_ok-head.head home c.requires.bucket some s looks c.in_ok-head.ensures.number))
