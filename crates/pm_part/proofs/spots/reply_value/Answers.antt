use Rattle.pm_part.proofs.SoundGets.{leads_somewhere, row_stands, passes_all, names_looked}
use Rattle.pm_part.proofs.DroppedRows.{partition_looked}
use Rattle.pm_tree.specs.Indexes.{as_link}
use Rattle.pm_pages.proofs.ToldPages.{number_told}
use Rattle.pm_pages.proofs.TakenPages.{meta_looked, number_looked}
use Rattle.pm_pages.proofs.PassingLooks.{bad_passed, not_bad}
use Rattle.std.proofs.Common.{arith}
use Rattle.std.proofs.lemmas.Result.{err_from_is_err_and}
use Rattle.std.proofs.Common.{ℕ, None, Some, refl, sym, subst, inl}
use Rattle.std.specs.Prelude.{IfSome, IfNone}
use Rattle.pm_meta.specs.declared.slots.MetaSlot.TheVariants.{Pages}
use Rattle.pm_pages.specs.Edits.{IsNumberIn}
use Rattle.pm_pages.proofs.EditedPages.{looks_then}
use Rattle.pm_part.specs.Spots.{LeadsTo, LeadsNowhere}
use Rattle.pm_part.specs.Faults.{IsFaultOfGet}
use Rattle.pm_part.proofs.PartCauses.{cause_passed, cause_disk}
use Rattle.pm_part.proofs.SpotReads.{wrong_link, names_no_row, bad_row_page}
use Rattle.pm_part.proofs.spots.reply_value.Goals as goal

pub returns-in-None-clause-cause : goal.returns-in-None-clause-cause
returns-in-None-clause-cause g c =
    let T = g.P.Pages.tells in
    let a = g.P.Pages.seen c.args.pages.now in
    let b = g.P.Pages.seen c.find_spot.new.pages in
    let spot = subst (λ o. (count : ℕ) × IsNumberIn b Pages count × IfSome o (LeadsTo c.link.result b.part count) × IfNone o (LeadsNowhere c.link.result b.part count)) {y = None} c.in-None.is c.in_ok-find_spot.ensures.spot in
    wrong_link T a b 0 c.args.cache c.args.key.now c.args.entry c.part.result c.new.result _ c.find_spot.ensures.looks c.requires.entry
    (inl (spot.0, spot.1, subst (λ l. LeadsNowhere l b.part spot.0) c.link.ensures spot.3)) c.part.ensures c.new.ensures refl

pub returns-then-not-branch-clause-cause : goal.returns-then-not-branch-clause-cause
returns-then-not-branch-clause-cause g c =
    let T = g.P.Pages.tells in
    let a = g.P.Pages.seen c.args.pages.now in
    let b = g.P.Pages.seen c.find_spot.new.pages in
    let d = g.P.Pages.seen c.push_at.new.pages in
    let spot = subst (λ o. (count : ℕ) × IsNumberIn b Pages count × IfSome o (LeadsTo c.link.result b.part count) × IfNone o (LeadsNowhere c.link.result b.part count)) {y = Some c.in-Some.spot} c.in-Some.is c.in_ok-find_spot.ensures.spot in
    let looks = looks_then T a b d 0 1 c.find_spot.ensures.looks c.push_at.ensures.looks in
    let leads = subst (λ l. LeadsTo l d.part spot.0 c.in-Some.spot) c.link.ensures (subst (λ n. LeadsTo c.link.result n spot.0 c.in-Some.spot) (λ k. sym c.push_at.ensures.looks.same.part k) spot.2) in
    wrong_link T a d 1 c.args.cache c.args.key.now c.args.entry c.part-then-not-branch.result c.new-then-not-branch.result _ looks c.requires.entry
    (names_no_row d c.args.entry c.in-Some.spot c.args.cache spot.0 c.args.key.now leads ((c.in_ok-push_at-in-Some.ensures.not c.if-not-branch.true).0)) c.part-then-not-branch.ensures c.new-then-not-branch.ensures refl

pub returns-in_err-find_spot-clause-cause : goal.returns-in_err-find_spot-clause-cause
returns-in_err-find_spot-clause-cause g c =
    let T = g.P.Pages.tells in
    let a = g.P.Pages.seen c.args.pages.now in
    let b = g.P.Pages.seen c.find_spot.new.pages in
    let p = err_from_is_err_and c.from_residual.result c.from_residual.ensures.1 in
    cause_passed T a b (IsFaultOfGet T b c.args.cache c.args.key.now) c.find_spot.result c.from_residual.result c.in_err-find_spot.field-0.0 p.0 c.in_err-find_spot.was p.1 p.2
    (cause_disk T a b (IsFaultOfGet T b c.args.cache c.args.key.now) c.find_spot.result c.find_spot.ensures.cause)

pub returns-in_err-push_at-in-Some-clause-cause : goal.returns-in_err-push_at-in-Some-clause-cause
returns-in_err-push_at-in-Some-clause-cause g c =
    let T = g.P.Pages.tells in
    let a = g.P.Pages.seen c.args.pages.now in
    let b = g.P.Pages.seen c.find_spot.new.pages in
    let d = g.P.Pages.seen c.push_at.new.pages in
    let spot = subst (λ o. (count : ℕ) × IsNumberIn b Pages count × IfSome o (LeadsTo c.link.result b.part count) × IfNone o (LeadsNowhere c.link.result b.part count)) {y = Some c.in-Some.spot} c.in-Some.is c.in_ok-find_spot.ensures.spot in
    let leads = subst (λ l. LeadsTo l b.part spot.0 c.in-Some.spot) c.link.ensures spot.2 in
    let p = err_from_is_err_and c.from_residual-in_err-push_at-in-Some.result c.from_residual-in_err-push_at-in-Some.ensures.1 in
    cause_passed T a d (IsFaultOfGet T d c.args.cache c.args.key.now) c.push_at.result c.from_residual-in_err-push_at-in-Some.result c.in_err-push_at-in-Some.field-0.0 p.0 c.in_err-push_at-in-Some.was p.1 p.2
    (bad_row_page T a b d 0 1 c.args.cache spot.0 c.args.key.now c.args.entry c.in-Some.spot c.push_at.result c.find_spot.ensures.looks c.push_at.ensures.looks c.requires.entry leads c.push_at.ensures.cause)

pub returns-else-not-branch-clause-kept : goal.returns-else-not-branch-clause-kept
returns-else-not-branch-clause-kept g c = g.met.P.Pages.kept_then c.args.pages.now c.find_spot.new.pages c.push_at.new.pages c.find_spot.ensures.kept c.push_at.ensures.kept

pub returns-in_err-find_spot-clause-sound : goal.returns-in_err-find_spot-clause-sound
returns-in_err-find_spot-clause-sound g c = λ t shape is names id h.
    let p = err_from_is_err_and c.from_residual.result c.from_residual.ensures.1 in
    c.find_spot.ensures.cause.not_bad id (bad_passed c.find_spot.result c.from_residual.result c.in_err-find_spot.field-0.0 p.0 c.in_err-find_spot.was p.1 p.2 id h)

pub returns-in-None-clause-sound : goal.returns-in-None-clause-sound
returns-in-None-clause-sound g c = λ t shape is names id h.
    let T = g.P.Pages.tells in
    let a = g.P.Pages.seen c.args.pages.now in
    let b = g.P.Pages.seen c.find_spot.new.pages in
    let looks = c.find_spot.ensures.looks in
    let spot = subst (λ o. (count : ℕ) × IsNumberIn b Pages count × IfSome o (LeadsTo c.link.result b.part count) × IfNone o (LeadsNowhere c.link.result b.part count)) {y = None} c.in-None.is c.in_ok-find_spot.ensures.spot in
    leads_somewhere shape b (as_link c.args.entry.word) c.args.cache spot.0 c.args.key.now (partition_looked T a b 0 shape t looks is) (meta_looked T a b 0 looks c.requires.entry.meta) c.find_spot.ensures.readable spot.1
    (names_looked T a b 0 (as_link c.args.entry.word) c.args.cache c.args.key.now t looks names) (subst (λ l. LeadsNowhere l b.part spot.0) c.link.ensures spot.3)

pub returns-in_err-push_at-in-Some-clause-sound : goal.returns-in_err-push_at-in-Some-clause-sound
returns-in_err-push_at-in-Some-clause-sound g c = λ t shape is names id h.
    let T = g.P.Pages.tells in
    let a = g.P.Pages.seen c.args.pages.now in
    let b = g.P.Pages.seen c.find_spot.new.pages in
    let looks = c.find_spot.ensures.looks in
    let p = err_from_is_err_and c.from_residual-in_err-push_at-in-Some.result c.from_residual-in_err-push_at-in-Some.ensures.1 in
    let spot = subst (λ o. (count : ℕ) × IsNumberIn b Pages count × IfSome o (LeadsTo c.link.result b.part count) × IfNone o (LeadsNowhere c.link.result b.part count)) {y = Some c.in-Some.spot} c.in-Some.is c.in_ok-find_spot.ensures.spot in
    not_bad T b c.in-Some.spot.at id t (passes_all shape b (partition_looked T a b 0 shape t looks is)) (omega (arith, spot.2.below, number_told b Pages spot.0 spot.1))
    (c.push_at.ensures.cause.bad id (bad_passed c.push_at.result c.from_residual-in_err-push_at-in-Some.result c.in_err-push_at-in-Some.field-0.0 p.0 c.in_err-push_at-in-Some.was p.1 p.2 id h))

pub returns-then-not-branch-clause-sound : goal.returns-then-not-branch-clause-sound
returns-then-not-branch-clause-sound g c = λ t shape is names id h.
    let T = g.P.Pages.tells in
    let a = g.P.Pages.seen c.args.pages.now in
    let b = g.P.Pages.seen c.find_spot.new.pages in
    let d = g.P.Pages.seen c.push_at.new.pages in
    let spot = subst (λ o. (count : ℕ) × IsNumberIn b Pages count × IfSome o (LeadsTo c.link.result b.part count) × IfNone o (LeadsNowhere c.link.result b.part count)) {y = Some c.in-Some.spot} c.in-Some.is c.in_ok-find_spot.ensures.spot in
    let looks = looks_then T a b d 0 1 c.find_spot.ensures.looks c.push_at.ensures.looks in
    let leads = subst (λ l. LeadsTo l d.part spot.0 c.in-Some.spot) c.link.ensures (subst (λ n. LeadsTo c.link.result n spot.0 c.in-Some.spot) (λ k. sym c.push_at.ensures.looks.same.part k) spot.2) in
    row_stands shape d (as_link c.args.entry.word) c.args.cache spot.0 c.args.key.now c.in-Some.spot (partition_looked T a d 1 shape t looks is) c.push_at.ensures.readable (number_looked T b d 1 Pages spot.0 c.push_at.ensures.looks spot.1)
    (names_looked T a d 1 (as_link c.args.entry.word) c.args.cache c.args.key.now t looks names) leads ((c.in_ok-push_at-in-Some.ensures.not c.if-not-branch.true).0)
