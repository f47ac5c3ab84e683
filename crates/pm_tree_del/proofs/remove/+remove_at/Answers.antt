use Rattle.std.specs.Prelude.{IsTrue}
use Rattle.std.proofs.Common.{◌≡◌, ◌+◌, ◌-◌, ◌*◌, subst, sym, ap, ◌∙◌, inl, inr, arith}
use Rattle.std.proofs.lemmas.Result.{IfOk-weaker, on_ok_weaker, err_from_is_err_and}
use Rattle.pm_types.specs.Ids.{page_id}
use Rattle.pm_meta.specs.declared.slots.MetaSlot.TheVariants.{Pages}
use Rattle.pm_pages.proofs.EditedPages.{edits_looked, looks_at_none}
use Rattle.pm_pages.proofs.TakenPages.{meta_looked, number_looked}
use Rattle.pm_tree.specs.declared.places.Place.TheVariants.{Held, Gap, Full, Below, Other}
use Rattle.pm_tree.specs.Places.{IsPlace}
use Rattle.pm_tree.specs.Puts.{half_of}
use Rattle.pm_tree.specs.Steps.{IsPath}
use Rattle.pm_tree.proofs.Descents.{path_looked}
use Rattle.pm_tree.proofs.Climbs.{below_count_of, at_place, path_below, names_no_place}
use Rattle.pm_tree_del.proofs.Removing.{changes_looked, changes_then, changes_more, removes_looked, absent_removes, lift_step, remove_cause_disk, remove_cause_page, remove_cause_after, remove_cause_passed}
use Rattle.pm_tree_del.proofs.Removing.{mendable_if}
use Rattle.pm_pages.proofs.SoundPages.{sound_looked, sound_not_bad, no_bad_passed}
use Rattle.pm_tree.proofs.SoundPages.{node_within}
use Rattle.pm_tree.proofs.SoundTrees.{tree_looked, not_other, tree_of_child}
use Rattle.pm_tree_del.proofs.remove.+remove_at.Goals as goal

pub remove_item-requires-clause-item : goal.remove_item-requires-clause-item
remove_item-requires-clause-item g t c =
    let T = g.P.Pages.tells in
    let a = g.P.Pages.seen c.args.pages.now in
    let b = g.P.Pages.seen c.find_place.new.pages in
    let looks = c.find_place.ensures.looks in
    let place = at_place b c.args.count c.args.at c.args.key.now (Held c.in-Held.i c.in-Held.was) (λ e. absurd (cc e)) (subst (IsPlace b c.args.count c.args.at c.args.key.now) {y = Held c.in-Held.i c.in-Held.was} c.in-Held.is c.in_ok-i.ensures.place) in
    record { some = place.1.some; page = place.1.page; in_hand = place.1.in_hand; well_made = place.1.is.well_made; size = place.1.size; item = place.1.is.at.in_range }

pub remove_item-requires-clause-below : goal.remove_item-requires-clause-below
remove_item-requires-clause-below g t c =
    let T = g.P.Pages.tells in
    let a = g.P.Pages.seen c.args.pages.now in
    let b = g.P.Pages.seen c.find_place.new.pages in
    let looks = c.find_place.ensures.looks in
    let number = number_looked T a b 1 Pages c.args.count looks c.requires.count in
    let place = at_place b c.args.count c.args.at c.args.key.now (Held c.in-Held.i c.in-Held.was) (λ e. absurd (cc e)) (subst (IsPlace b c.args.count c.args.at c.args.key.now) {y = Held c.in-Held.i c.in-Held.was} c.in-Held.is c.in_ok-i.ensures.place) in
    below_count_of b c.args.count c.args.at number place.0

pub returns-in-Held-clause-changes : goal.returns-in-Held-clause-changes
returns-in-Held-clause-changes g t c =
    let T = g.P.Pages.tells in
    let a = g.P.Pages.seen c.args.pages.now in
    let b = g.P.Pages.seen c.find_place.new.pages in
    let looks = c.find_place.ensures.looks in
    on_ok_weaker c.remove_item.result (λ ch. changes_then T a b (g.P.Pages.seen c.remove_item.new.pages) 1 0 (2 * c.args.levels - 1) (omega (arith, c.if-levels-eq0.false)) (changes_looked T a b 1 c.requires.meta looks) ch) c.remove_item.ensures.changes

pub returns-in-Held-clause-levels : goal.returns-in-Held-clause-levels
returns-in-Held-clause-levels g t c =
    on_ok_weaker c.remove_item.result (λ ch. omega (arith, c.if-levels-eq0.false)) c.remove_item.ensures.changes

pub returns-in-Held-clause-held : goal.returns-in-Held-clause-held
returns-in-Held-clause-held g t c =
    let T = g.P.Pages.tells in
    let a = g.P.Pages.seen c.args.pages.now in
    let b = g.P.Pages.seen c.find_place.new.pages in
    let looks = c.find_place.ensures.looks in
    let place = at_place b c.args.count c.args.at c.args.key.now (Held c.in-Held.i c.in-Held.was) (λ e. absurd (cc e)) (subst (IsPlace b c.args.count c.args.at c.args.key.now) {y = Held c.in-Held.i c.in-Held.was} c.in-Held.is c.in_ok-i.ensures.place) in
    on_ok_weaker c.remove_item.result (λ ch. record { some = place.1.some; known = ch.edits.known c.args.at place.1.in_hand.known; asked = ch.edits.asked c.args.at place.1.in_hand.asked }) c.remove_item.ensures.changes

pub returns-in-Held-clause-removes : goal.returns-in-Held-clause-removes
returns-in-Held-clause-removes g t c =
    let T = g.P.Pages.tells in
    let a = g.P.Pages.seen c.args.pages.now in
    let b = g.P.Pages.seen c.find_place.new.pages in
    let looks = c.find_place.ensures.looks in
    let place = at_place b c.args.count c.args.at c.args.key.now (Held c.in-Held.i c.in-Held.was) (λ e. absurd (cc e)) (subst (IsPlace b c.args.count c.args.at c.args.key.now) {y = Held c.in-Held.i c.in-Held.was} c.in-Held.is c.in_ok-i.ensures.place) in
    IfOk-weaker c.remove_item.result _ _ (λ removal h told. removes_looked T a b (g.P.Pages.seen c.remove_item.new.pages) 1 c.args.levels c.args.at c.args.key.now removal told looks (h told c.args.key.now place.1 c.args.levels)) c.remove_item.ensures.removes

pub returns-in-Held-clause-cause : goal.returns-in-Held-clause-cause
returns-in-Held-clause-cause g t c =
    let T = g.P.Pages.tells in
    let a = g.P.Pages.seen c.args.pages.now in
    let b = g.P.Pages.seen c.find_place.new.pages in
    let looks = c.find_place.ensures.looks in
    let d = g.P.Pages.seen c.remove_item.new.pages in
    let ch = changes_looked T a b 1 c.requires.meta looks in
    remove_cause_after T a b d 1 c.args.cache c.remove_item.result ch.edits (remove_cause_disk T b d c.args.cache c.remove_item.result c.remove_item.ensures.cause)

pub returns-in-Gap-clause-changes : goal.returns-in-Gap-clause-changes
returns-in-Gap-clause-changes g t c =
    let T = g.P.Pages.tells in
    let a = g.P.Pages.seen c.args.pages.now in
    let b = g.P.Pages.seen c.find_place.new.pages in
    let looks = c.find_place.ensures.looks in
    changes_more T a b 1 (2 * c.args.levels - 1) (omega (arith, c.if-levels-eq0.false)) (changes_looked T a b 1 c.requires.meta looks)

pub returns-in-Gap-clause-held : goal.returns-in-Gap-clause-held
returns-in-Gap-clause-held g t c =
    let T = g.P.Pages.tells in
    let a = g.P.Pages.seen c.args.pages.now in
    let b = g.P.Pages.seen c.find_place.new.pages in
    let looks = c.find_place.ensures.looks in
    let place = at_place b c.args.count c.args.at c.args.key.now (Gap c.in-Gap.field-0) (λ e. absurd (cc e)) (subst (IsPlace b c.args.count c.args.at c.args.key.now) {y = Gap c.in-Gap.field-0} c.in-Gap.is c.in_ok-i.ensures.place) in
    record { some = place.1.some; known = place.1.in_hand.known; asked = place.1.in_hand.asked }

pub returns-in-Gap-clause-removes : goal.returns-in-Gap-clause-removes
returns-in-Gap-clause-removes g t c =
    let T = g.P.Pages.tells in
    let a = g.P.Pages.seen c.args.pages.now in
    let b = g.P.Pages.seen c.find_place.new.pages in
    let looks = c.find_place.ensures.looks in
    let number = number_looked T a b 1 Pages c.args.count looks c.requires.count in
    let place = at_place b c.args.count c.args.at c.args.key.now (Gap c.in-Gap.field-0) (λ e. absurd (cc e)) (subst (IsPlace b c.args.count c.args.at c.args.key.now) {y = Gap c.in-Gap.field-0} c.in-Gap.is c.in_ok-i.ensures.place) in
    λ told. removes_looked T a b b 1 c.args.levels c.args.at c.args.key.now _ told looks (absent_removes T b c.args.at c.in-Gap.field-0 c.args.key.now (half_of b.page_size) c.args.levels (meta_looked T a b 1 looks c.requires.meta) (below_count_of b c.args.count c.args.at number place.0) place.1.page place.1.in_hand place.1.size place.1.is.0)

pub returns-in-Full-clause-changes : goal.returns-in-Full-clause-changes
returns-in-Full-clause-changes g t c =
    let T = g.P.Pages.tells in
    let a = g.P.Pages.seen c.args.pages.now in
    let b = g.P.Pages.seen c.find_place.new.pages in
    let looks = c.find_place.ensures.looks in
    changes_more T a b 1 (2 * c.args.levels - 1) (omega (arith, c.if-levels-eq0.false)) (changes_looked T a b 1 c.requires.meta looks)

pub returns-in-Full-clause-held : goal.returns-in-Full-clause-held
returns-in-Full-clause-held g t c =
    let T = g.P.Pages.tells in
    let a = g.P.Pages.seen c.args.pages.now in
    let b = g.P.Pages.seen c.find_place.new.pages in
    let looks = c.find_place.ensures.looks in
    let place = at_place b c.args.count c.args.at c.args.key.now (Full c.in-Full.field-0) (λ e. absurd (cc e)) (subst (IsPlace b c.args.count c.args.at c.args.key.now) {y = Full c.in-Full.field-0} c.in-Full.is c.in_ok-i.ensures.place) in
    record { some = place.1.some; known = place.1.in_hand.known; asked = place.1.in_hand.asked }

pub returns-in-Full-clause-removes : goal.returns-in-Full-clause-removes
returns-in-Full-clause-removes g t c =
    let T = g.P.Pages.tells in
    let a = g.P.Pages.seen c.args.pages.now in
    let b = g.P.Pages.seen c.find_place.new.pages in
    let looks = c.find_place.ensures.looks in
    let number = number_looked T a b 1 Pages c.args.count looks c.requires.count in
    let place = at_place b c.args.count c.args.at c.args.key.now (Full c.in-Full.field-0) (λ e. absurd (cc e)) (subst (IsPlace b c.args.count c.args.at c.args.key.now) {y = Full c.in-Full.field-0} c.in-Full.is c.in_ok-i.ensures.place) in
    λ told. removes_looked T a b b 1 c.args.levels c.args.at c.args.key.now _ told looks (absent_removes T b c.args.at c.in-Full.field-0 c.args.key.now (half_of b.page_size) c.args.levels (meta_looked T a b 1 looks c.requires.meta) (below_count_of b c.args.count c.args.at number place.0) place.1.page place.1.in_hand place.1.size place.1.is.0)

pub remove_at-requires : goal.remove_at-requires
remove_at-requires g t c = λ κs le.
    let T = g.P.Pages.tells in
    let a = g.P.Pages.seen c.args.pages.now in
    let b = g.P.Pages.seen c.find_place.new.pages in
    let looks = c.find_place.ensures.looks in
    let place = at_place b c.args.count c.args.at c.args.key.now (Below c.in-Below.i c.in-Below.child) (λ e. absurd (cc e)) (subst (IsPlace b c.args.count c.args.at c.args.key.now) {y = Below c.in-Below.i c.in-Below.child} c.in-Below.is c.in_ok-i.ensures.place) in
    let path = path_looked T a b 1 c.args.cache (8 - c.args.levels) c.args.from c.args.at looks c.requires.path in
    let e : 8 - c.args.levels + 1 ≡ 8 - (c.args.levels - 1) = omega (arith, c.if-levels-eq0.false, c.requires.levels) in (
      omega (arith, c.if-levels-eq0.false, c.decreases),
      (
        le,
        (
          g.met.P.Pages.kept_ready c.args.pages.now c.find_place.new.pages c.find_place.ensures.kept c.requires.ready,
          (
            meta_looked T a b 1 looks c.requires.meta,
            (
              omega (arith, looks.spare, c.requires.room, c.if-levels-eq0.false),
              (
                c.find_place.ensures.readable,
                (
                  number_looked T a b 1 Pages c.args.count looks c.requires.count,
                  (
                    omega (arith, c.requires.levels),
                    subst (λ n. IsPath b c.args.cache n c.args.at c.in-Below.child) e (path_below b c.args.cache (8 - c.args.levels) c.args.from c.args.at c.in-Below.child c.in-Below.i c.args.key.now path place.1),
                  ),
                ),
              ),
            ),
          ),
        ),
      ),
    )

pub lift-requires-clause-room : goal.lift-requires-clause-room
lift-requires-clause-room g t c =
    let T = g.P.Pages.tells in
    let a = g.P.Pages.seen c.args.pages.now in
    let b = g.P.Pages.seen c.find_place.new.pages in
    let looks = c.find_place.ensures.looks in
    let changes = c.in_ok-removal-in-Below.ensures.changes in
    omega (arith, changes.edits.spare, looks.spare, c.requires.room, c.in_ok-removal-in-Below.ensures.levels)

pub lift-requires-clause-some : goal.lift-requires-clause-some
lift-requires-clause-some g t c =
    let T = g.P.Pages.tells in
    let a = g.P.Pages.seen c.args.pages.now in
    let b = g.P.Pages.seen c.find_place.new.pages in
    let looks = c.find_place.ensures.looks in
    let place = at_place b c.args.count c.args.at c.args.key.now (Below c.in-Below.i c.in-Below.child) (λ e. absurd (cc e)) (subst (IsPlace b c.args.count c.args.at c.args.key.now) {y = Below c.in-Below.i c.in-Below.child} c.in-Below.is c.in_ok-i.ensures.place) in
    place.1.some

pub lift-requires-clause-known : goal.lift-requires-clause-known
lift-requires-clause-known g t c =
    let T = g.P.Pages.tells in
    let a = g.P.Pages.seen c.args.pages.now in
    let b = g.P.Pages.seen c.find_place.new.pages in
    let looks = c.find_place.ensures.looks in
    let place = at_place b c.args.count c.args.at c.args.key.now (Below c.in-Below.i c.in-Below.child) (λ e. absurd (cc e)) (subst (IsPlace b c.args.count c.args.at c.args.key.now) {y = Below c.in-Below.i c.in-Below.child} c.in-Below.is c.in_ok-i.ensures.place) in
    let changes = c.in_ok-removal-in-Below.ensures.changes in
    changes.edits.known c.args.at place.1.in_hand.known

pub lift-requires-clause-asked : goal.lift-requires-clause-asked
lift-requires-clause-asked g t c =
    let T = g.P.Pages.tells in
    let a = g.P.Pages.seen c.args.pages.now in
    let b = g.P.Pages.seen c.find_place.new.pages in
    let looks = c.find_place.ensures.looks in
    let place = at_place b c.args.count c.args.at c.args.key.now (Below c.in-Below.i c.in-Below.child) (λ e. absurd (cc e)) (subst (IsPlace b c.args.count c.args.at c.args.key.now) {y = Below c.in-Below.i c.in-Below.child} c.in-Below.is c.in_ok-i.ensures.place) in
    let changes = c.in_ok-removal-in-Below.ensures.changes in
    changes.edits.asked c.args.at place.1.in_hand.asked

pub lift-requires-clause-child : goal.lift-requires-clause-child
lift-requires-clause-child g t c =
    c.in_ok-removal-in-Below.ensures.held.asked

pub lift-requires-clause-count : goal.lift-requires-clause-count
lift-requires-clause-count g t c =
    let T = g.P.Pages.tells in
    let a = g.P.Pages.seen c.args.pages.now in
    let b = g.P.Pages.seen c.find_place.new.pages in
    let looks = c.find_place.ensures.looks in
    let number = number_looked T a b 1 Pages c.args.count looks c.requires.count in
    let changes = c.in_ok-removal-in-Below.ensures.changes in
    changes.numbers.others Pages tt (λ e. cc e) c.args.count number

pub returns-in_ok-removal-in-Below-clause-changes : goal.returns-in_ok-removal-in-Below-clause-changes
returns-in_ok-removal-in-Below-clause-changes g t c =
    let T = g.P.Pages.tells in
    let a = g.P.Pages.seen c.args.pages.now in
    let b = g.P.Pages.seen c.find_place.new.pages in
    let looks = c.find_place.ensures.looks in
    let d = g.P.Pages.seen c.remove_at.new.pages in
    let changes = c.in_ok-removal-in-Below.ensures.changes in
    let e = g.P.Pages.seen c.lift.new.pages in
    on_ok_weaker c.lift.result (λ x. changes_then T a b e 1 (2 * (c.args.levels - 1) - 1 + 1) (2 * c.args.levels - 1) (omega (arith, c.in_ok-removal-in-Below.ensures.levels)) (changes_looked T a b 1 c.requires.meta looks)
    (changes_then T b d e (2 * (c.args.levels - 1) - 1) 1 (2 * (c.args.levels - 1) - 1 + 1) (omega arith) changes x)) c.lift.ensures.changes

pub returns-in_ok-removal-in-Below-clause-levels : goal.returns-in_ok-removal-in-Below-clause-levels
returns-in_ok-removal-in-Below-clause-levels g t c =
    on_ok_weaker c.lift.result (λ x. omega (arith, c.if-levels-eq0.false)) c.lift.ensures.changes

pub returns-in_ok-removal-in-Below-clause-held : goal.returns-in_ok-removal-in-Below-clause-held
returns-in_ok-removal-in-Below-clause-held g t c =
    let T = g.P.Pages.tells in
    let a = g.P.Pages.seen c.args.pages.now in
    let b = g.P.Pages.seen c.find_place.new.pages in
    let looks = c.find_place.ensures.looks in
    let place = at_place b c.args.count c.args.at c.args.key.now (Below c.in-Below.i c.in-Below.child) (λ e. absurd (cc e)) (subst (IsPlace b c.args.count c.args.at c.args.key.now) {y = Below c.in-Below.i c.in-Below.child} c.in-Below.is c.in_ok-i.ensures.place) in
    let changes = c.in_ok-removal-in-Below.ensures.changes in
    on_ok_weaker c.lift.result (λ x. record { some = place.1.some; known = x.edits.known c.args.at (changes.edits.known c.args.at place.1.in_hand.known); asked = x.edits.asked c.args.at (changes.edits.asked c.args.at place.1.in_hand.asked) }) c.lift.ensures.changes

pub returns-in_ok-removal-in-Below-clause-removes : goal.returns-in_ok-removal-in-Below-clause-removes
returns-in_ok-removal-in-Below-clause-removes g t c =
    let T = g.P.Pages.tells in
    let a = g.P.Pages.seen c.args.pages.now in
    let b = g.P.Pages.seen c.find_place.new.pages in
    let looks = c.find_place.ensures.looks in
    let number = number_looked T a b 1 Pages c.args.count looks c.requires.count in
    let place = at_place b c.args.count c.args.at c.args.key.now (Below c.in-Below.i c.in-Below.child) (λ e. absurd (cc e)) (subst (IsPlace b c.args.count c.args.at c.args.key.now) {y = Below c.in-Below.i c.in-Below.child} c.in-Below.is c.in_ok-i.ensures.place) in
    let d = g.P.Pages.seen c.remove_at.new.pages in
    let changes = c.in_ok-removal-in-Below.ensures.changes in
    let e = g.P.Pages.seen c.lift.new.pages in
    IfOk-weaker c.lift.result _ _ (λ lifted lifts told. removes_looked T a b e 1 c.args.levels c.args.at c.args.key.now lifted told looks
    (lift_step T b d e c.args.count c.args.at c.in-Below.i c.in-Below.child c.args.levels c.args.key.now (2 * (c.args.levels - 1) - 1) told (meta_looked T a b 1 looks c.requires.meta) c.find_place.ensures.readable place.1 number place.0
    (omega (arith, c.if-levels-eq0.false)) changes c.remove_at.ensures.readable c.in_ok-removal-in-Below.removal lifted (c.in_ok-removal-in-Below.ensures.removes told) lifts)) c.lift.ensures.lifts

pub returns-in_ok-removal-in-Below-clause-cause : goal.returns-in_ok-removal-in-Below-clause-cause
returns-in_ok-removal-in-Below-clause-cause g t c =
    let T = g.P.Pages.tells in
    let a = g.P.Pages.seen c.args.pages.now in
    let b = g.P.Pages.seen c.find_place.new.pages in
    let looks = c.find_place.ensures.looks in
    let d = g.P.Pages.seen c.remove_at.new.pages in
    let changes = c.in_ok-removal-in-Below.ensures.changes in
    let e = g.P.Pages.seen c.lift.new.pages in
    let x = changes_looked T a b 1 c.requires.meta looks in
    remove_cause_after T a b e 1 c.args.cache c.lift.result x.edits (remove_cause_after T b d e (2 * (c.args.levels - 1) - 1) c.args.cache c.lift.result changes.edits (c.lift.ensures.cause c.args.cache))

pub returns-in_err-removal-in-Below-clause-cause : goal.returns-in_err-removal-in-Below-clause-cause
returns-in_err-removal-in-Below-clause-cause g t c =
    let T = g.P.Pages.tells in
    let a = g.P.Pages.seen c.args.pages.now in
    let b = g.P.Pages.seen c.find_place.new.pages in
    let looks = c.find_place.ensures.looks in
    let d = g.P.Pages.seen c.remove_at.new.pages in
    let x = changes_looked T a b 1 c.requires.meta looks in
    let p = err_from_is_err_and c.from_residual-in_err-removal-in-Below.result c.from_residual-in_err-removal-in-Below.ensures.1 in
    remove_cause_passed T a d c.args.cache c.remove_at.result c.from_residual-in_err-removal-in-Below.result c.in_err-removal-in-Below.field-0.0 p.0 c.in_err-removal-in-Below.was p.1 p.2 (remove_cause_after T a b d 1 c.args.cache c.remove_at.result x.edits c.remove_at.ensures.cause)

pub returns-in_err-i-clause-cause : goal.returns-in_err-i-clause-cause
returns-in_err-i-clause-cause g t c =
    let T = g.P.Pages.tells in
    let a = g.P.Pages.seen c.args.pages.now in
    let b = g.P.Pages.seen c.find_place.new.pages in
    let looks = c.find_place.ensures.looks in
    let p = err_from_is_err_and c.from_residual.result c.from_residual.ensures.1 in
    remove_cause_passed T a b c.args.cache c.find_place.result c.from_residual.result c.in_err-i.field-0.0 p.0 c.in_err-i.was p.1 p.2 (remove_cause_page T a b c.args.cache c.args.at c.find_place.result c.find_place.ensures.cause)

pub returns-in-Other-clause-cause : goal.returns-in-Other-clause-cause
returns-in-Other-clause-cause g t c =
    let T = g.P.Pages.tells in
    let a = g.P.Pages.seen c.args.pages.now in
    let b = g.P.Pages.seen c.find_place.new.pages in
    let looks = c.find_place.ensures.looks in
    let number = number_looked T a b 1 Pages c.args.count looks c.requires.count in
    let look = subst (IsPlace b c.args.count c.args.at c.args.key.now) {y = Other} c.in-Other.is c.in_ok-i.ensures.place in
    let path = path_looked T a b 1 c.args.cache (8 - c.args.levels) c.args.from c.args.at looks c.requires.path in
    record {
      failed = λ e. absurd (cc e);
      bad = λ id e.
          let is : c.new-in-Other.result ≡ id = cc e in
          record {
            between = a;
            most = 0;
            edits = edits_looked T a a (λ j. IsTrue (a.asked j)) 0 (looks_at_none T a);
            fault = inr (inr (inr (inl (names_no_place b c.args.cache (8 - c.args.levels) c.args.from c.args.at c.args.count c.args.key.now id (sym is ∙ c.new-in-Other.ensures ∙ ap (λ n. page_id n c.args.from) c.part-in-Other.ensures) path number look))));
          };
    }

pub returns-then-levels-eq0-clause-cause : goal.returns-then-levels-eq0-clause-cause
returns-then-levels-eq0-clause-cause g t c =
    let T = g.P.Pages.tells in
    let a = g.P.Pages.seen c.args.pages.now in
    let e : 8 - c.args.levels ≡ 8 = omega (arith, c.if-levels-eq0.true) in
    record {
      failed = λ e. absurd (cc e);
      bad = λ id err.
          let is : c.new.result ≡ id = cc err in
          record {
            between = a;
            most = 0;
            edits = edits_looked T a a (λ j. IsTrue (a.asked j)) 0 (looks_at_none T a);
            fault = inr (inr (inr (inr (record { from = c.args.from; at = c.args.at; name = sym is ∙ c.new.ensures ∙ ap (λ n. page_id n c.args.from) c.part.ensures; path = subst (λ n. IsPath a c.args.cache n c.args.from c.args.at) e c.requires.path }))));
          };
    }

pub returns-then-levels-eq0-clause-sound : goal.returns-then-levels-eq0-clause-sound
returns-then-levels-eq0-clause-sound g t c = λ told sound tree id h. omega (arith, tree.few, c.if-levels-eq0.true)

pub returns-in_err-i-clause-sound : goal.returns-in_err-i-clause-sound
returns-in_err-i-clause-sound g t c = λ told sound tree.
    let T = g.P.Pages.tells in
    let a = g.P.Pages.seen c.args.pages.now in
    let p = err_from_is_err_and c.from_residual.result c.from_residual.ensures.1 in
    no_bad_passed c.find_place.result c.from_residual.result c.in_err-i.field-0.0 p.0 c.in_err-i.was p.1 p.2
    (λ id h. sound_not_bad T a c.args.at id told sound (node_within a tree.height tree.least c.args.at c.requires.readable c.requires.meta tree.tree).1 (c.find_place.ensures.cause.bad id h))

pub returns-in-Held-clause-sound : goal.returns-in-Held-clause-sound
returns-in-Held-clause-sound g t c = λ told sound tree id h. c.remove_item.ensures.cause.not_bad id h

pub returns-in-Other-clause-sound : goal.returns-in-Other-clause-sound
returns-in-Other-clause-sound g t c = λ told sound tree id h.
    let T = g.P.Pages.tells in
    let a = g.P.Pages.seen c.args.pages.now in
    let b = g.P.Pages.seen c.find_place.new.pages in
    let looks = c.find_place.ensures.looks in
    let number = number_looked T a b 1 Pages c.args.count looks c.requires.count in
    let look = subst (IsPlace b c.args.count c.args.at c.args.key.now) {y = Other} c.in-Other.is c.in_ok-i.ensures.place in
    not_other b c.args.count c.args.levels c.args.at c.args.key.now c.find_place.ensures.readable (meta_looked T a b 1 looks c.requires.meta) number (tree_looked T a b 1 c.args.levels c.args.at told looks tree) look

pub returns-in_err-removal-in-Below-clause-sound : goal.returns-in_err-removal-in-Below-clause-sound
returns-in_err-removal-in-Below-clause-sound g t c = λ told sound tree.
    let T = g.P.Pages.tells in
    let a = g.P.Pages.seen c.args.pages.now in
    let b = g.P.Pages.seen c.find_place.new.pages in
    let looks = c.find_place.ensures.looks in
    let number = number_looked T a b 1 Pages c.args.count looks c.requires.count in
    let place = at_place b c.args.count c.args.at c.args.key.now (Below c.in-Below.i c.in-Below.child) (λ e. absurd (cc e)) (subst (IsPlace b c.args.count c.args.at c.args.key.now) {y = Below c.in-Below.i c.in-Below.child} c.in-Below.is c.in_ok-i.ensures.place) in
    let p = err_from_is_err_and c.from_residual-in_err-removal-in-Below.result c.from_residual-in_err-removal-in-Below.ensures.1 in
    no_bad_passed c.remove_at.result c.from_residual-in_err-removal-in-Below.result c.in_err-removal-in-Below.field-0.0 p.0 c.in_err-removal-in-Below.was p.1 p.2
    (c.remove_at.ensures.sound told (sound_looked T a b 1 told looks sound)
    (tree_of_child T b c.args.count c.args.at c.in-Below.i c.in-Below.child c.args.levels c.args.key.now told (meta_looked T a b 1 looks c.requires.meta) c.find_place.ensures.readable place.1 number place.0 (tree_looked T a b 1 c.args.levels c.args.at told looks tree)))

pub returns-in_ok-removal-in-Below-clause-sound : goal.returns-in_ok-removal-in-Below-clause-sound
returns-in_ok-removal-in-Below-clause-sound g t c = λ told sound tree.
    let T = g.P.Pages.tells in
    let a = g.P.Pages.seen c.args.pages.now in
    let b = g.P.Pages.seen c.find_place.new.pages in
    let looks = c.find_place.ensures.looks in
    let number = number_looked T a b 1 Pages c.args.count looks c.requires.count in
    let place = at_place b c.args.count c.args.at c.args.key.now (Below c.in-Below.i c.in-Below.child) (λ e. absurd (cc e)) (subst (IsPlace b c.args.count c.args.at c.args.key.now) {y = Below c.in-Below.i c.in-Below.child} c.in-Below.is c.in_ok-i.ensures.place) in
    let d = g.P.Pages.seen c.remove_at.new.pages in
    let changes = c.in_ok-removal-in-Below.ensures.changes in
    let e = g.P.Pages.seen c.lift.new.pages in
    let sound_d = changes.sound told (sound_looked T a b 1 told looks sound) in
    c.lift.ensures.sound told sound_d
    (mendable_if T b d e c.args.count c.args.at c.in-Below.i c.in-Below.child c.args.levels c.args.key.now (2 * (c.args.levels - 1) - 1) told (meta_looked T a b 1 looks c.requires.meta) c.find_place.ensures.readable place.1 number place.0
    (omega (arith, c.if-levels-eq0.false)) changes c.remove_at.ensures.readable (tree_looked T a b 1 c.args.levels c.args.at told looks tree) c.in_ok-removal-in-Below.removal (c.in_ok-removal-in-Below.ensures.removes told) sound_d)
