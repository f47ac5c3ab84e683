use Rattle.std.proofs.Common.{◌≡◌, ℕ, ◌+◌, ◌<◌, ◌≤◌, List, length, subst, sym, ap, ◌∙◌, inl, inr, arith}
use Rattle.std.specs.Prelude.{IsTrue}
use Rattle.std.proofs.lemmas.Result.{IfOk-weaker, on_ok_weaker, err_from_is_err_and}
use Rattle.pm_types.specs.Ids.{page_id}
use Rattle.pm_btpage.specs.IndexPages.{items_of, capacity_of}
use Rattle.pm_pages.proofs.EditedPages.{edits_looked, looks_at_none}
use Rattle.pm_tree.specs.declared.fits.Fit.TheVariants.{Room, Full, Wrong}
use Rattle.pm_tree.specs.Grown.{IsFitIn, IsParent, IsParentAt}
use Rattle.pm_tree.proofs.Told.{below_count}
use Rattle.pm_pages.proofs.PassingLooks.{bad_passed}
use Rattle.pm_pages.proofs.SoundPages.{sound_not_bad}
use Rattle.pm_pages.proofs.SpareRoom.{may_take_looked}
use Rattle.pm_tree.proofs.Divided.{numbers_looked}
use Rattle.pm_tree.proofs.Climbs.{changes_looked, looked_then, below_after, parent_of, takes_looked, put_cause_take, put_cause_page, put_cause_after, put_cause_passed}
use Rattle.pm_tree.proofs.put.take_child.Goals as goal

pub take_with_room-requires-clause-parent : goal.take_with_room-requires-clause-parent
take_with_room-requires-clause-parent g c =
    let T = g.P.Pages.tells in
    let a = g.P.Pages.seen c.args.pages.now in
    let b = g.P.Pages.seen c.find_fit.new.pages in
    let fit = subst (IsFitIn b c.args.at c.key.result.now c.args.i) {y = Room} c.in-Room.is c.in_ok-find_fit.ensures.fit in
    subst (λ (k : List ℕ). IsParentAt b c.args.at k c.args.i) c.key.ensures.key
    (parent_of b c.args.at c.key.result.now c.args.i fit.page c.requires.some (below_after a b c.args.at c.requires.meta (numbers_looked T a b 0 c.find_fit.ensures.looks) c.requires.below) fit.in_hand fit.size fit.is.0)

pub take_with_room-requires-clause-space : goal.take_with_room-requires-clause-space
take_with_room-requires-clause-space g c = λ page is.
    let T = g.P.Pages.tells in
    let a = g.P.Pages.seen c.args.pages.now in
    let b = g.P.Pages.seen c.find_fit.new.pages in
    let fit = subst (IsFitIn b c.args.at c.key.result.now c.args.i) {y = Room} c.in-Room.is c.in_ok-find_fit.ensures.fit in
    let same : fit.page ≡ page = cc (fit.in_hand.page, is) in
    subst (λ (q : List ℕ). length (items_of q) < capacity_of (length q)) same fit.is.1

pub returns-in-Room-clause-changes : goal.returns-in-Room-clause-changes
returns-in-Room-clause-changes g c =
    let T = g.P.Pages.tells in
    let a = g.P.Pages.seen c.args.pages.now in
    let b = g.P.Pages.seen c.find_fit.new.pages in
    on_ok_weaker c.take_with_room.result (λ ch. looked_then {G = Unit {0}} T a b (g.P.Pages.seen c.take_with_room.new.pages) 0 1 1 (omega arith) c.requires.meta c.find_fit.ensures.looks ch) c.take_with_room.ensures.changes

pub returns-in-Room-clause-takes : goal.returns-in-Room-clause-takes
returns-in-Room-clause-takes g c =
    let T = g.P.Pages.tells in
    let a = g.P.Pages.seen c.args.pages.now in
    let b = g.P.Pages.seen c.find_fit.new.pages in
    IfOk-weaker c.take_with_room.result _ _ (λ put takes. takes_looked T a b (g.P.Pages.seen c.take_with_room.new.pages) c.args.at c.args.i c.args.part put c.requires.known c.requires.asked c.find_fit.ensures.looks takes) c.take_with_room.ensures.takes

pub returns-in-Room-clause-levels : goal.returns-in-Room-clause-levels
returns-in-Room-clause-levels g c = IfOk-weaker c.take_with_room.result _ _ (λ put h limit lt. h (limit + 1)) c.take_with_room.ensures.levels

pub returns-in-Room-clause-cause : goal.returns-in-Room-clause-cause
returns-in-Room-clause-cause g c = λ cache.
    let T = g.P.Pages.tells in
    let a = g.P.Pages.seen c.args.pages.now in
    let b = g.P.Pages.seen c.find_fit.new.pages in
    let d = g.P.Pages.seen c.take_with_room.new.pages in
    let ch = changes_looked {G = Unit {0}} T a b 0 c.requires.meta c.find_fit.ensures.looks in
    put_cause_after T a b d 0 cache c.take_with_room.result ch.edits (put_cause_take T b d cache c.take_with_room.result c.take_with_room.ensures.cause)

pub take_without_room-requires-clause-parent : goal.take_without_room-requires-clause-parent
take_without_room-requires-clause-parent g c =
    let T = g.P.Pages.tells in
    let a = g.P.Pages.seen c.args.pages.now in
    let b = g.P.Pages.seen c.find_fit.new.pages in
    let fit = subst (IsFitIn b c.args.at c.key.result.now c.args.i) {y = Full} c.in-Full.is c.in_ok-find_fit.ensures.fit in
    subst (λ (k : List ℕ). IsParentAt b c.args.at k c.args.i) c.key.ensures.key
    (parent_of b c.args.at c.key.result.now c.args.i fit.page c.requires.some (below_after a b c.args.at c.requires.meta (numbers_looked T a b 0 c.find_fit.ensures.looks) c.requires.below) fit.in_hand fit.size fit.is.0)

pub take_without_room-requires-clause-full : goal.take_without_room-requires-clause-full
take_without_room-requires-clause-full g c = λ page is.
    let T = g.P.Pages.tells in
    let a = g.P.Pages.seen c.args.pages.now in
    let b = g.P.Pages.seen c.find_fit.new.pages in
    let fit = subst (IsFitIn b c.args.at c.key.result.now c.args.i) {y = Full} c.in-Full.is c.in_ok-find_fit.ensures.fit in
    let same : fit.page ≡ page = cc (fit.in_hand.page, is) in
    subst (λ (q : List ℕ). capacity_of (length q) ≤ length (items_of q)) same fit.is.1

pub returns-in-Full-clause-changes : goal.returns-in-Full-clause-changes
returns-in-Full-clause-changes g c =
    let T = g.P.Pages.tells in
    let a = g.P.Pages.seen c.args.pages.now in
    let b = g.P.Pages.seen c.find_fit.new.pages in
    on_ok_weaker c.take_without_room.result (λ ch. looked_then {G = Unit {0}} T a b (g.P.Pages.seen c.take_without_room.new.pages) 0 1 1 (omega arith) c.requires.meta c.find_fit.ensures.looks ch) c.take_without_room.ensures.changes

pub returns-in-Full-clause-takes : goal.returns-in-Full-clause-takes
returns-in-Full-clause-takes g c =
    let T = g.P.Pages.tells in
    let a = g.P.Pages.seen c.args.pages.now in
    let b = g.P.Pages.seen c.find_fit.new.pages in
    IfOk-weaker c.take_without_room.result _ _ (λ put takes. takes_looked T a b (g.P.Pages.seen c.take_without_room.new.pages) c.args.at c.args.i c.args.part put c.requires.known c.requires.asked c.find_fit.ensures.looks takes) c.take_without_room.ensures.takes

pub returns-in-Full-clause-levels : goal.returns-in-Full-clause-levels
returns-in-Full-clause-levels g c = IfOk-weaker c.take_without_room.result _ _ (λ put h limit lt. h limit lt) c.take_without_room.ensures.levels

pub returns-in-Full-clause-cause : goal.returns-in-Full-clause-cause
returns-in-Full-clause-cause g c = λ cache.
    let T = g.P.Pages.tells in
    let a = g.P.Pages.seen c.args.pages.now in
    let b = g.P.Pages.seen c.find_fit.new.pages in
    let d = g.P.Pages.seen c.take_without_room.new.pages in
    let ch = changes_looked {G = Unit {0}} T a b 0 c.requires.meta c.find_fit.ensures.looks in
    put_cause_after T a b d 0 cache c.take_without_room.result ch.edits (put_cause_take T b d cache c.take_without_room.result c.take_without_room.ensures.cause)

pub returns-in-Wrong-clause-cause : goal.returns-in-Wrong-clause-cause
returns-in-Wrong-clause-cause g c = λ cache.
    let T = g.P.Pages.tells in
    let a = g.P.Pages.seen c.args.pages.now in
    let b = g.P.Pages.seen c.find_fit.new.pages in
    let fit = subst (IsFitIn b c.args.at c.key.result.now c.args.i) {y = Wrong} c.in-Wrong.is c.in_ok-find_fit.ensures.fit in
    record {
      failed = λ e. absurd (cc e);
      bad = λ id e.
          let is : c.new.result ≡ id = cc e in
          record {
            between = a;
            most = 0;
            edits = edits_looked T a a (λ j. IsTrue (a.asked j)) 0 (looks_at_none T a);
            fault = inr (inr (inr (inl (record { at = c.args.at; name = sym is ∙ c.new.ensures ∙ ap (λ n. page_id n c.args.at) c.part.ensures; page = fit.page; in_hand = fit.in_hand; key = c.key.result.now; place = c.args.i; no_place = fit.is }))));
          };
    }

pub returns-in_err-find_fit-clause-cause : goal.returns-in_err-find_fit-clause-cause
returns-in_err-find_fit-clause-cause g c = λ cache.
    let T = g.P.Pages.tells in
    let a = g.P.Pages.seen c.args.pages.now in
    let b = g.P.Pages.seen c.find_fit.new.pages in
    let p = err_from_is_err_and c.from_residual.result c.from_residual.ensures.1 in
    put_cause_passed T a b cache c.find_fit.result c.from_residual.result c.in_err-find_fit.field-0.0 p.0 c.in_err-find_fit.was p.1 p.2 (put_cause_page T a b cache c.args.at c.find_fit.result c.find_fit.ensures.cause)

pub returns-in-Room-clause-sound : goal.returns-in-Room-clause-sound
returns-in-Room-clause-sound g c = λ may. c.take_with_room.ensures.sound (may_take_looked g.P.Pages.tells (g.P.Pages.seen c.args.pages.now) (g.P.Pages.seen c.find_fit.new.pages) 0 c.find_fit.ensures.looks may.take)

pub returns-in-Full-clause-sound : goal.returns-in-Full-clause-sound
returns-in-Full-clause-sound g c = λ may. c.take_without_room.ensures.sound (may_take_looked g.P.Pages.tells (g.P.Pages.seen c.args.pages.now) (g.P.Pages.seen c.find_fit.new.pages) 0 c.find_fit.ensures.looks may.take)

pub returns-in-Wrong-clause-sound : goal.returns-in-Wrong-clause-sound
returns-in-Wrong-clause-sound g c = λ may id e.
    let T = g.P.Pages.tells in
    let b = g.P.Pages.seen c.find_fit.new.pages in
    let fit = subst (IsFitIn b c.args.at c.key.result.now c.args.i) {y = Wrong} c.in-Wrong.is c.in_ok-find_fit.ensures.fit in
    let here = c.find_fit.ensures.looks.pages c.args.at (inl may.take.told) ∙ may.here in
    let same : may.page ≡ fit.page = cc (here, fit.in_hand.page) in
    fit.is (subst (λ (q : List ℕ × List ℕ). IsParent q.0 q.1 c.args.i) {x = (may.page, c.args.part.from)} {y = (fit.page, c.key.result.now)} (λ z. (same z, sym c.key.ensures.key z)) may.parent)

pub returns-in_err-find_fit-clause-sound : goal.returns-in_err-find_fit-clause-sound
returns-in_err-find_fit-clause-sound g c = λ may id e.
    let T = g.P.Pages.tells in
    let a = g.P.Pages.seen c.args.pages.now in
    let p = err_from_is_err_and c.from_residual.result c.from_residual.ensures.1 in
    let bad = c.find_fit.ensures.cause.bad id (bad_passed c.find_fit.result c.from_residual.result c.in_err-find_fit.field-0.0 p.0 c.in_err-find_fit.was p.1 p.2 id e) in
    sound_not_bad T a c.args.at id may.take.told may.take.take.sound (below_count a c.args.at c.requires.meta c.requires.below) bad
