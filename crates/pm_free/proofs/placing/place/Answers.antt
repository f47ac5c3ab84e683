use Rattle.std.proofs.lemmas.Result.{IfOk-weaker}
use Rattle.pm_free.proofs.ChainCauses.{cause_looked}
use Rattle.pm_free.proofs.PlacedPages.{rows_looked, places_same}
use Rattle.std.proofs.Common.{◌≤◌, subst, sym, arith, ap}
use Rattle.std.specs.Prelude.{IfNone, length}
use Rattle.std.proofs.lemmas.Result.{on_ok_weaker}
use Rattle.pm_pages.specs.Rows.{Partition, page_count}
use Rattle.pm_pages.proofs.SoundPages.{sound_looked}
use Rattle.pm_pages.proofs.SpareRoom.{can_take_looked, may_take_looked}
use Rattle.pm_pages.proofs.StoredPages.{stored_looked}
use Rattle.pm_free.specs.Buckets.{HasNoHeadFor}
use Rattle.pm_free.specs.Placed.{HasChains}
use Rattle.pm_free.proofs.Changed.{pages_told}
use Rattle.pm_free.proofs.SoundRows.{none_below}
use Rattle.pm_free.proofs.placing.place.Goals as goal

pub returns-in-Some-clause-places : goal.returns-in-Some-clause-places
returns-in-Some-clause-places g c =
    let T = g.P.Pages.tells in
    let a = g.P.Pages.seen c.args.pages.now in
    let b = g.P.Pages.seen c.find_head.new.pages in
    IfOk-weaker c.place_on.result _ _ (λ link rows. rows_looked T a b (g.P.Pages.seen c.place_on.new.pages) 4 1 _ _ (places_same a b c.args.row.now link c.find_head.ensures.looks.same.page_size c.find_head.ensures.looks.same.part) c.find_head.ensures.looks rows) c.place_on.ensures.places

pub returns-in-Some-clause-cause : goal.returns-in-Some-clause-cause
returns-in-Some-clause-cause g c =
    cause_looked g.P.Pages.tells (g.P.Pages.seen c.args.pages.now) (g.P.Pages.seen c.find_head.new.pages) (g.P.Pages.seen c.place_on.new.pages) 0 c.place_on.result c.find_head.ensures.looks c.place_on.ensures.cause

pub returns-in-None-clause-places : goal.returns-in-None-clause-places
returns-in-None-clause-places g c =
    let T = g.P.Pages.tells in
    let a = g.P.Pages.seen c.args.pages.now in
    let b = g.P.Pages.seen c.find_head.new.pages in
    IfOk-weaker c.place_new.result _ _ (λ link rows. rows_looked T a b (g.P.Pages.seen c.place_new.new.pages) 4 1 _ _ (places_same a b c.args.row.now link c.find_head.ensures.looks.same.page_size c.find_head.ensures.looks.same.part) c.find_head.ensures.looks rows) c.place_new.ensures.places

pub returns-in-None-clause-cause : goal.returns-in-None-clause-cause
returns-in-None-clause-cause g c =
    cause_looked g.P.Pages.tells (g.P.Pages.seen c.args.pages.now) (g.P.Pages.seen c.find_head.new.pages) (g.P.Pages.seen c.place_new.new.pages) 0 c.place_new.result c.find_head.ensures.looks c.place_new.ensures.cause

pub returns-in-Some-clause-sound : goal.returns-in-Some-clause-sound
returns-in-Some-clause-sound g c = λ may.
    let T = g.P.Pages.tells in
    let a = g.P.Pages.seen c.args.pages.now in
    let b = g.P.Pages.seen c.find_head.new.pages in
    let looks = c.find_head.ensures.looks in
    let same = pages_told T a b 0 may.told looks in
    let some : 1 ≤ page_count b.pages = omega (arith, may.some, ap (λ (p : Partition). page_count p) same) in
    c.place_on.ensures.sound may.told (sound_looked T a b 0 may.told looks may.sound) some (subst (λ (p : Partition). HasChains p) (sym same) may.chains)

pub returns-in-None-clause-sound : goal.returns-in-None-clause-sound
returns-in-None-clause-sound g c = λ may.
    let T = g.P.Pages.tells in
    let a = g.P.Pages.seen c.args.pages.now in
    let b = g.P.Pages.seen c.find_head.new.pages in
    let len = length c.args.row.now in
    let looks = c.find_head.ensures.looks in
    let same = pages_told T a b 0 may.told looks in
    let none = subst (λ o. IfNone o (HasNoHeadFor b len)) c.in-None.is c.in_ok-head.ensures.none in
    c.place_new.ensures.sound may.told (sound_looked T a b 0 may.told looks may.sound) (subst (λ (p : Partition). HasChains p) (sym same) may.chains)
    (may_take_looked T a b 0 looks (may.take (none_below T a b 0 len may.told looks none)))

pub returns-in-Some-clause-passes : goal.returns-in-Some-clause-passes
returns-in-Some-clause-passes g c =
    let T = g.P.Pages.tells in
    let a = g.P.Pages.seen c.args.pages.now in
    let b = g.P.Pages.seen c.find_head.new.pages in
    on_ok_weaker c.place_on.result (λ passes t limit small can stored. passes t (stored_looked T a b 0 t c.find_head.ensures.looks stored)) c.place_on.ensures.passes

pub returns-in-None-clause-passes : goal.returns-in-None-clause-passes
returns-in-None-clause-passes g c =
    let T = g.P.Pages.tells in
    let a = g.P.Pages.seen c.args.pages.now in
    let b = g.P.Pages.seen c.find_head.new.pages in
    let looks = c.find_head.ensures.looks in
    on_ok_weaker c.place_new.result (λ passes t limit small can stored. passes t limit (omega (arith, small, looks.same.max_rows)) (can_take_looked T a b 0 t looks limit 1 can) (stored_looked T a b 0 t looks stored)) c.place_new.ensures.passes
