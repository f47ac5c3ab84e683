use Rattle.std.proofs.Common.{◌≡◌, ◌+◌, ◌-◌, ◌*◌, subst, sym, ap, ◌∙◌, inl, inr, arith}
use Rattle.std.specs.Prelude.{IsTrue, Some}
use Rattle.std.proofs.lemmas.Result.{IfOk-weaker, on_ok_weaker, err_from_is_err_and}
use Rattle.pm_types.specs.Ids.{page_id}
use Rattle.pm_meta.specs.declared.slots.MetaSlot.TheVariants.{Pages}
use Rattle.pm_pages.proofs.EditedPages.{edits_looked, looks_at_none}
use Rattle.pm_pages.proofs.TakenPages.{meta_looked, number_looked}
use Rattle.pm_tree.specs.declared.places.Place.TheVariants.{Held, Gap, Full, Below, Other}
use Rattle.pm_tree.specs.Places.{IsPlace}
use Rattle.pm_tree.specs.Puts.{HasLevels, PutsFor, half_of}
use Rattle.pm_tree.specs.Steps.{IsPath}
use Rattle.pm_tree.proofs.Descents.{path_looked}
use Rattle.pm_btpage.specs.Stored.{IsLink}
use Rattle.pm_pages.proofs.StoredPages.{stored_looked}
use Rattle.pm_tree.proofs.Climbs.{page_after, page_then, changes_looked, changes_then, link_then, below_count_of, below_after, at_place, full_leaf, path_below, puts_looked, lift_step, levels_more, names_no_place, put_cause_take, put_cause_disk, put_cause_page, put_cause_after, put_cause_passed}
use Rattle.pm_pages.proofs.PassingLooks.{bad_passed, passes_looked}
use Rattle.pm_tree.proofs.SoundLooks.{answers_not_bad, answers_end}
use Rattle.pm_pages.proofs.SoundPages.{sound_not_bad}
use Rattle.pm_tree.proofs.SoundPages.{node_within}
use Rattle.pm_tree.proofs.SoundTrees.{tree_looked, not_other}
use Rattle.pm_pages.proofs.SpareRoom.{may_take, can_take_looked}
use Rattle.pm_tree.proofs.GrownTrees.{either, kept_takes, grow_below, takes_place}
use Rattle.pm_tree.proofs.SoundPuts.{no_gap, child_has, place_is_node}
use Rattle.pm_tree.proofs.put.+put_at.Goals as goal

pub set_item-requires-clause-item : goal.set_item-requires-clause-item
set_item-requires-clause-item g t c =
    let T = g.P.Pages.tells in
    let a = g.P.Pages.seen c.args.pages.now in
    let b = g.P.Pages.seen c.find_place.new.pages in
    let looks = c.find_place.ensures.looks in
    let place = at_place b c.args.count c.args.at c.args.key.now (Held c.in-Held.i c.in-Held.was) (λ e. absurd (cc e)) (subst (IsPlace b c.args.count c.args.at c.args.key.now) {y = Held c.in-Held.i c.in-Held.was} c.in-Held.is c.in_ok-i.ensures.place) in
    place.1

pub set_item-requires-clause-below : goal.set_item-requires-clause-below
set_item-requires-clause-below g t c =
    let T = g.P.Pages.tells in
    let a = g.P.Pages.seen c.args.pages.now in
    let b = g.P.Pages.seen c.find_place.new.pages in
    let looks = c.find_place.ensures.looks in
    let number = number_looked T a b 1 Pages c.args.count looks c.requires.count in
    let place = at_place b c.args.count c.args.at c.args.key.now (Held c.in-Held.i c.in-Held.was) (λ e. absurd (cc e)) (subst (IsPlace b c.args.count c.args.at c.args.key.now) {y = Held c.in-Held.i c.in-Held.was} c.in-Held.is c.in_ok-i.ensures.place) in
    below_count_of b c.args.count c.args.at number place.0

pub returns-in-Held-clause-changes : goal.returns-in-Held-clause-changes
returns-in-Held-clause-changes g t c =
    let T = g.P.Pages.tells in
    let a = g.P.Pages.seen c.args.pages.now in
    let b = g.P.Pages.seen c.find_place.new.pages in
    let looks = c.find_place.ensures.looks in
    on_ok_weaker c.set_item.result (λ ch. link_then T a b (g.P.Pages.seen c.set_item.new.pages) 1 0 (2 * c.args.levels) c.args.word (omega (arith, c.if-levels-eq0.false)) c.requires.meta looks ch) c.set_item.ensures.changes

pub returns-in-Held-clause-puts : goal.returns-in-Held-clause-puts
returns-in-Held-clause-puts g t c =
    let T = g.P.Pages.tells in
    let a = g.P.Pages.seen c.args.pages.now in
    let b = g.P.Pages.seen c.find_place.new.pages in
    let looks = c.find_place.ensures.looks in
    IfOk-weaker c.set_item.result _ _ (λ put h told. puts_looked T a b (g.P.Pages.seen c.set_item.new.pages) 1 c.args.levels c.args.at c.args.key.now c.args.word put told looks (h told c.args.levels)) c.set_item.ensures.puts

pub returns-in-Held-clause-levels : goal.returns-in-Held-clause-levels
returns-in-Held-clause-levels g t c =
    IfOk-weaker c.set_item.result _ _ (λ put h. levels_more 1 put c.args.levels (omega (arith, c.if-levels-eq0.false)) h) c.set_item.ensures.levels

pub returns-in-Held-clause-cause : goal.returns-in-Held-clause-cause
returns-in-Held-clause-cause g t c =
    let T = g.P.Pages.tells in
    let a = g.P.Pages.seen c.args.pages.now in
    let b = g.P.Pages.seen c.find_place.new.pages in
    let looks = c.find_place.ensures.looks in
    let d = g.P.Pages.seen c.set_item.new.pages in
    let ch = changes_looked {G = Unit {0}} T a b 1 c.requires.meta looks in
    put_cause_after T a b d 1 c.args.cache c.set_item.result ch.edits (put_cause_disk T b d c.args.cache c.set_item.result c.set_item.ensures.cause)

pub add_item-requires-clause-item : goal.add_item-requires-clause-item
add_item-requires-clause-item g t c =
    let T = g.P.Pages.tells in
    let a = g.P.Pages.seen c.args.pages.now in
    let b = g.P.Pages.seen c.find_place.new.pages in
    let looks = c.find_place.ensures.looks in
    let place = at_place b c.args.count c.args.at c.args.key.now (Gap c.in-Gap.i) (λ e. absurd (cc e)) (subst (IsPlace b c.args.count c.args.at c.args.key.now) {y = Gap c.in-Gap.i} c.in-Gap.is c.in_ok-i.ensures.place) in
    place.1

pub add_item-requires-clause-below : goal.add_item-requires-clause-below
add_item-requires-clause-below g t c =
    let T = g.P.Pages.tells in
    let a = g.P.Pages.seen c.args.pages.now in
    let b = g.P.Pages.seen c.find_place.new.pages in
    let looks = c.find_place.ensures.looks in
    let number = number_looked T a b 1 Pages c.args.count looks c.requires.count in
    let place = at_place b c.args.count c.args.at c.args.key.now (Gap c.in-Gap.i) (λ e. absurd (cc e)) (subst (IsPlace b c.args.count c.args.at c.args.key.now) {y = Gap c.in-Gap.i} c.in-Gap.is c.in_ok-i.ensures.place) in
    below_count_of b c.args.count c.args.at number place.0

pub returns-in-Gap-clause-changes : goal.returns-in-Gap-clause-changes
returns-in-Gap-clause-changes g t c =
    let T = g.P.Pages.tells in
    let a = g.P.Pages.seen c.args.pages.now in
    let b = g.P.Pages.seen c.find_place.new.pages in
    let looks = c.find_place.ensures.looks in
    on_ok_weaker c.add_item.result (λ ch. link_then T a b (g.P.Pages.seen c.add_item.new.pages) 1 0 (2 * c.args.levels) c.args.word (omega (arith, c.if-levels-eq0.false)) c.requires.meta looks ch) c.add_item.ensures.changes

pub returns-in-Gap-clause-puts : goal.returns-in-Gap-clause-puts
returns-in-Gap-clause-puts g t c =
    let T = g.P.Pages.tells in
    let a = g.P.Pages.seen c.args.pages.now in
    let b = g.P.Pages.seen c.find_place.new.pages in
    let looks = c.find_place.ensures.looks in
    IfOk-weaker c.add_item.result _ _ (λ put h told. puts_looked T a b (g.P.Pages.seen c.add_item.new.pages) 1 c.args.levels c.args.at c.args.key.now c.args.word put told looks (h told c.args.levels)) c.add_item.ensures.puts

pub returns-in-Gap-clause-levels : goal.returns-in-Gap-clause-levels
returns-in-Gap-clause-levels g t c =
    IfOk-weaker c.add_item.result _ _ (λ put h. levels_more 1 put c.args.levels (omega (arith, c.if-levels-eq0.false)) h) c.add_item.ensures.levels

pub returns-in-Gap-clause-cause : goal.returns-in-Gap-clause-cause
returns-in-Gap-clause-cause g t c =
    let T = g.P.Pages.tells in
    let a = g.P.Pages.seen c.args.pages.now in
    let b = g.P.Pages.seen c.find_place.new.pages in
    let looks = c.find_place.ensures.looks in
    let d = g.P.Pages.seen c.add_item.new.pages in
    let ch = changes_looked {G = Unit {0}} T a b 1 c.requires.meta looks in
    put_cause_after T a b d 1 c.args.cache c.add_item.result ch.edits (put_cause_disk T b d c.args.cache c.add_item.result c.add_item.ensures.cause)

pub split_leaf-requires-clause-leaf : goal.split_leaf-requires-clause-leaf
split_leaf-requires-clause-leaf g t c =
    let T = g.P.Pages.tells in
    let a = g.P.Pages.seen c.args.pages.now in
    let b = g.P.Pages.seen c.find_place.new.pages in
    let looks = c.find_place.ensures.looks in
    let number = number_looked T a b 1 Pages c.args.count looks c.requires.count in
    let place = at_place b c.args.count c.args.at c.args.key.now (Full c.in-Full.i) (λ e. absurd (cc e)) (subst (IsPlace b c.args.count c.args.at c.args.key.now) {y = Full c.in-Full.i} c.in-Full.is c.in_ok-i.ensures.place) in
    full_leaf b c.args.at c.args.key.now c.in-Full.i (below_count_of b c.args.count c.args.at number place.0) place.1

pub returns-in-Full-clause-changes : goal.returns-in-Full-clause-changes
returns-in-Full-clause-changes g t c =
    let T = g.P.Pages.tells in
    let a = g.P.Pages.seen c.args.pages.now in
    let b = g.P.Pages.seen c.find_place.new.pages in
    let looks = c.find_place.ensures.looks in
    on_ok_weaker c.split_leaf.result (λ ch. link_then T a b (g.P.Pages.seen c.split_leaf.new.pages) 1 1 (2 * c.args.levels) c.args.word (omega (arith, c.if-levels-eq0.false)) c.requires.meta looks ch) c.split_leaf.ensures.changes

pub returns-in-Full-clause-puts : goal.returns-in-Full-clause-puts
returns-in-Full-clause-puts g t c =
    let T = g.P.Pages.tells in
    let a = g.P.Pages.seen c.args.pages.now in
    let b = g.P.Pages.seen c.find_place.new.pages in
    let looks = c.find_place.ensures.looks in
    IfOk-weaker c.split_leaf.result _ _ (λ put h told. puts_looked T a b (g.P.Pages.seen c.split_leaf.new.pages) 1 c.args.levels c.args.at c.args.key.now c.args.word put told looks (h told c.args.levels)) c.split_leaf.ensures.puts

pub returns-in-Full-clause-levels : goal.returns-in-Full-clause-levels
returns-in-Full-clause-levels g t c =
    IfOk-weaker c.split_leaf.result _ _ (λ put h. levels_more 1 put c.args.levels (omega (arith, c.if-levels-eq0.false)) h) c.split_leaf.ensures.levels

pub returns-in-Full-clause-cause : goal.returns-in-Full-clause-cause
returns-in-Full-clause-cause g t c =
    let T = g.P.Pages.tells in
    let a = g.P.Pages.seen c.args.pages.now in
    let b = g.P.Pages.seen c.find_place.new.pages in
    let looks = c.find_place.ensures.looks in
    let d = g.P.Pages.seen c.split_leaf.new.pages in
    let ch = changes_looked {G = Unit {0}} T a b 1 c.requires.meta looks in
    put_cause_after T a b d 1 c.args.cache c.split_leaf.result ch.edits (put_cause_take T b d c.args.cache c.split_leaf.result c.split_leaf.ensures.cause)

pub put_at-requires : goal.put_at-requires
put_at-requires g t c = λ κs le.
    let T = g.P.Pages.tells in
    let a = g.P.Pages.seen c.args.pages.now in
    let b = g.P.Pages.seen c.find_place.new.pages in
    let looks = c.find_place.ensures.looks in
    let place = at_place b c.args.count c.args.at c.args.key.now (Below c.in-Below.i c.in-Below.child) (λ e. absurd (cc e)) (subst (IsPlace b c.args.count c.args.at c.args.key.now) {y = Below c.in-Below.i c.in-Below.child} c.in-Below.is c.in_ok-i.ensures.place) in
    let path = path_looked T a b 1 c.args.cache (8 - c.args.levels) c.args.from c.args.at looks c.requires.path in
    let e : 8 - c.args.levels + 1 ≡ 8 - (c.args.levels - 1) = omega (arith, c.if-levels-eq0.false, c.requires.levels) in (
      omega (arith, c.if-levels-eq0.false, c.decreases),
      (
        le,
        (
          g.met.P.Pages.kept_ready c.args.pages.now c.find_place.new.pages c.find_place.ensures.kept c.requires.ready,
          (
            meta_looked T a b 1 looks c.requires.meta,
            (
              omega (arith, looks.spare, c.requires.room, c.if-levels-eq0.false),
              (
                c.find_place.ensures.readable,
                (
                  c.requires.key,
                  (
                    number_looked T a b 1 Pages c.args.count looks c.requires.count,
                    (
                      omega (arith, c.requires.levels),
                      subst (λ n. IsPath b c.args.cache n c.args.at c.in-Below.child) e (path_below b c.args.cache (8 - c.args.levels) c.args.from c.args.at c.in-Below.child c.in-Below.i c.args.key.now path place.1),
                    ),
                  ),
                ),
              ),
            ),
          ),
        ),
      ),
    )

pub lift-requires-clause-known : goal.lift-requires-clause-known
lift-requires-clause-known g t c =
    let T = g.P.Pages.tells in
    let a = g.P.Pages.seen c.args.pages.now in
    let b = g.P.Pages.seen c.find_place.new.pages in
    let looks = c.find_place.ensures.looks in
    let place = at_place b c.args.count c.args.at c.args.key.now (Below c.in-Below.i c.in-Below.child) (λ e. absurd (cc e)) (subst (IsPlace b c.args.count c.args.at c.args.key.now) {y = Below c.in-Below.i c.in-Below.child} c.in-Below.is c.in_ok-i.ensures.place) in
    let changes = c.in_ok-put-in-Below.ensures.changes in
    changes.edits.known c.args.at place.1.in_hand.known

pub lift-requires-clause-asked : goal.lift-requires-clause-asked
lift-requires-clause-asked g t c =
    let T = g.P.Pages.tells in
    let a = g.P.Pages.seen c.args.pages.now in
    let b = g.P.Pages.seen c.find_place.new.pages in
    let looks = c.find_place.ensures.looks in
    let place = at_place b c.args.count c.args.at c.args.key.now (Below c.in-Below.i c.in-Below.child) (λ e. absurd (cc e)) (subst (IsPlace b c.args.count c.args.at c.args.key.now) {y = Below c.in-Below.i c.in-Below.child} c.in-Below.is c.in_ok-i.ensures.place) in
    let changes = c.in_ok-put-in-Below.ensures.changes in
    changes.edits.asked c.args.at place.1.in_hand.asked

pub lift-requires-clause-some : goal.lift-requires-clause-some
lift-requires-clause-some g t c =
    let T = g.P.Pages.tells in
    let a = g.P.Pages.seen c.args.pages.now in
    let b = g.P.Pages.seen c.find_place.new.pages in
    let looks = c.find_place.ensures.looks in
    let place = at_place b c.args.count c.args.at c.args.key.now (Below c.in-Below.i c.in-Below.child) (λ e. absurd (cc e)) (subst (IsPlace b c.args.count c.args.at c.args.key.now) {y = Below c.in-Below.i c.in-Below.child} c.in-Below.is c.in_ok-i.ensures.place) in
    place.1.some

pub lift-requires-clause-room : goal.lift-requires-clause-room
lift-requires-clause-room g t c =
    let T = g.P.Pages.tells in
    let a = g.P.Pages.seen c.args.pages.now in
    let b = g.P.Pages.seen c.find_place.new.pages in
    let looks = c.find_place.ensures.looks in
    let changes = c.in_ok-put-in-Below.ensures.changes in
    omega (arith, changes.edits.spare, looks.spare, c.requires.room, c.if-levels-eq0.false)

pub lift-requires-clause-below : goal.lift-requires-clause-below
lift-requires-clause-below g t c =
    let T = g.P.Pages.tells in
    let a = g.P.Pages.seen c.args.pages.now in
    let b = g.P.Pages.seen c.find_place.new.pages in
    let looks = c.find_place.ensures.looks in
    let number = number_looked T a b 1 Pages c.args.count looks c.requires.count in
    let place = at_place b c.args.count c.args.at c.args.key.now (Below c.in-Below.i c.in-Below.child) (λ e. absurd (cc e)) (subst (IsPlace b c.args.count c.args.at c.args.key.now) {y = Below c.in-Below.i c.in-Below.child} c.in-Below.is c.in_ok-i.ensures.place) in
    let d = g.P.Pages.seen c.put_at.new.pages in
    let changes = c.in_ok-put-in-Below.ensures.changes in
    below_after b d c.args.at (meta_looked T a b 1 looks c.requires.meta) changes.numbers (below_count_of b c.args.count c.args.at number place.0)

pub lift-requires-clause-levels : goal.lift-requires-clause-levels
lift-requires-clause-levels g t c = levels_more (c.args.levels - 1) c.in_ok-put-in-Below.put 8 (omega (arith, c.requires.levels)) c.in_ok-put-in-Below.ensures.levels

pub returns-in_ok-put-in-Below-clause-changes : goal.returns-in_ok-put-in-Below-clause-changes
returns-in_ok-put-in-Below-clause-changes g t c =
    let T = g.P.Pages.tells in
    let a = g.P.Pages.seen c.args.pages.now in
    let b = g.P.Pages.seen c.find_place.new.pages in
    let looks = c.find_place.ensures.looks in
    let d = g.P.Pages.seen c.put_at.new.pages in
    let changes = c.in_ok-put-in-Below.ensures.changes in
    let e = g.P.Pages.seen c.lift.new.pages in
    on_ok_weaker c.lift.result (λ ch. link_then T a b e 1 (2 * (c.args.levels - 1) + 1) (2 * c.args.levels) c.args.word (omega (arith, c.if-levels-eq0.false)) c.requires.meta looks
    (changes_then T b d e (2 * (c.args.levels - 1)) 1 (2 * (c.args.levels - 1) + 1) (omega arith) (λ link. link) (λ link. tt) changes ch)) c.lift.ensures.changes

pub returns-in_ok-put-in-Below-clause-puts : goal.returns-in_ok-put-in-Below-clause-puts
returns-in_ok-put-in-Below-clause-puts g t c =
    let T = g.P.Pages.tells in
    let a = g.P.Pages.seen c.args.pages.now in
    let b = g.P.Pages.seen c.find_place.new.pages in
    let looks = c.find_place.ensures.looks in
    let number = number_looked T a b 1 Pages c.args.count looks c.requires.count in
    let place = at_place b c.args.count c.args.at c.args.key.now (Below c.in-Below.i c.in-Below.child) (λ e. absurd (cc e)) (subst (IsPlace b c.args.count c.args.at c.args.key.now) {y = Below c.in-Below.i c.in-Below.child} c.in-Below.is c.in_ok-i.ensures.place) in
    let d = g.P.Pages.seen c.put_at.new.pages in
    let changes = c.in_ok-put-in-Below.ensures.changes in
    let e = g.P.Pages.seen c.lift.new.pages in
    IfOk-weaker c.lift.result _ _ (λ put lifts told. puts_looked T a b e 1 c.args.levels c.args.at c.args.key.now c.args.word put told looks
    (lift_step T b d e c.args.at c.in-Below.i c.in-Below.child c.args.levels (2 * (c.args.levels - 1)) c.args.key.now c.args.word told (meta_looked T a b 1 looks c.requires.meta) place.1 (below_count_of b c.args.count c.args.at number place.0)
    (omega (arith, c.if-levels-eq0.false)) changes c.put_at.ensures.readable c.in_ok-put-in-Below.put put (c.in_ok-put-in-Below.ensures.puts told) lifts)) c.lift.ensures.lifts

pub returns-in_ok-put-in-Below-clause-levels : goal.returns-in_ok-put-in-Below-clause-levels
returns-in_ok-put-in-Below-clause-levels g t c =
    let e : c.args.levels - 1 + 1 ≡ c.args.levels = omega (arith, c.if-levels-eq0.false) in
    IfOk-weaker c.lift.result _ _ (λ put h. subst (λ n. HasLevels n put) e (h (c.args.levels - 1) c.in_ok-put-in-Below.ensures.levels)) c.lift.ensures.levels

pub returns-in_ok-put-in-Below-clause-cause : goal.returns-in_ok-put-in-Below-clause-cause
returns-in_ok-put-in-Below-clause-cause g t c =
    let T = g.P.Pages.tells in
    let a = g.P.Pages.seen c.args.pages.now in
    let b = g.P.Pages.seen c.find_place.new.pages in
    let looks = c.find_place.ensures.looks in
    let d = g.P.Pages.seen c.put_at.new.pages in
    let changes = c.in_ok-put-in-Below.ensures.changes in
    let e = g.P.Pages.seen c.lift.new.pages in
    let ch = changes_looked {G = Unit {0}} T a b 1 c.requires.meta looks in
    put_cause_after T a b e 1 c.args.cache c.lift.result ch.edits (put_cause_after T b d e (2 * (c.args.levels - 1)) c.args.cache c.lift.result changes.edits (c.lift.ensures.cause c.args.cache))

pub returns-in_err-put-in-Below-clause-cause : goal.returns-in_err-put-in-Below-clause-cause
returns-in_err-put-in-Below-clause-cause g t c =
    let T = g.P.Pages.tells in
    let a = g.P.Pages.seen c.args.pages.now in
    let b = g.P.Pages.seen c.find_place.new.pages in
    let looks = c.find_place.ensures.looks in
    let d = g.P.Pages.seen c.put_at.new.pages in
    let ch = changes_looked {G = Unit {0}} T a b 1 c.requires.meta looks in
    let p = err_from_is_err_and c.from_residual-in_err-put-in-Below.result c.from_residual-in_err-put-in-Below.ensures.1 in
    put_cause_passed T a d c.args.cache c.put_at.result c.from_residual-in_err-put-in-Below.result c.in_err-put-in-Below.field-0.0 p.0 c.in_err-put-in-Below.was p.1 p.2 (put_cause_after T a b d 1 c.args.cache c.put_at.result ch.edits c.put_at.ensures.cause)

pub returns-in_err-i-clause-cause : goal.returns-in_err-i-clause-cause
returns-in_err-i-clause-cause g t c =
    let T = g.P.Pages.tells in
    let a = g.P.Pages.seen c.args.pages.now in
    let b = g.P.Pages.seen c.find_place.new.pages in
    let looks = c.find_place.ensures.looks in
    let p = err_from_is_err_and c.from_residual.result c.from_residual.ensures.1 in
    put_cause_passed T a b c.args.cache c.find_place.result c.from_residual.result c.in_err-i.field-0.0 p.0 c.in_err-i.was p.1 p.2 (put_cause_page T a b c.args.cache c.args.at c.find_place.result c.find_place.ensures.cause)

pub returns-in-Other-clause-cause : goal.returns-in-Other-clause-cause
returns-in-Other-clause-cause g t c =
    let T = g.P.Pages.tells in
    let a = g.P.Pages.seen c.args.pages.now in
    let b = g.P.Pages.seen c.find_place.new.pages in
    let looks = c.find_place.ensures.looks in
    let number = number_looked T a b 1 Pages c.args.count looks c.requires.count in
    let look = subst (IsPlace b c.args.count c.args.at c.args.key.now) {y = Other} c.in-Other.is c.in_ok-i.ensures.place in
    let path = path_looked T a b 1 c.args.cache (8 - c.args.levels) c.args.from c.args.at looks c.requires.path in
    record {
      failed = λ e. absurd (cc e);
      bad = λ id e.
          let is : c.new-in-Other.result ≡ id = cc e in
          record {
            between = a;
            most = 0;
            edits = edits_looked T a a (λ j. IsTrue (a.asked j)) 0 (looks_at_none T a);
            fault = inr (inr (inr (inr (inl (names_no_place b c.args.cache (8 - c.args.levels) c.args.from c.args.at c.args.count c.args.key.now id (sym is ∙ c.new-in-Other.ensures ∙ ap (λ n. page_id n c.args.from) c.part-in-Other.ensures) path number look)))));
          };
    }

pub returns-then-levels-eq0-clause-cause : goal.returns-then-levels-eq0-clause-cause
returns-then-levels-eq0-clause-cause g t c =
    let T = g.P.Pages.tells in
    let a = g.P.Pages.seen c.args.pages.now in
    let e : 8 - c.args.levels ≡ 8 = omega (arith, c.if-levels-eq0.true) in
    record {
      failed = λ e. absurd (cc e);
      bad = λ id err.
          let is : c.new.result ≡ id = cc err in
          record {
            between = a;
            most = 0;
            edits = edits_looked T a a (λ j. IsTrue (a.asked j)) 0 (looks_at_none T a);
            fault = inr (inr (inr (inr (inr (record { from = c.args.from; at = c.args.at; name = sym is ∙ c.new.ensures ∙ ap (λ n. page_id n c.args.from) c.part.ensures; path = subst (λ n. IsPath a c.args.cache n c.args.from c.args.at) e c.requires.path })))));
          };
    }

-- where the key is there
pub returns-then-levels-eq0-clause-sound : goal.returns-then-levels-eq0-clause-sound
returns-then-levels-eq0-clause-sound g t c = λ may id e. either may
    (λ f.
    let told = f.told in
    let all = f.all in
    let held = f.held in
    let answers = f.answers in
    answers_end (g.P.Pages.seen c.args.pages.now) c.args.levels c.args.at c.args.key.now (Some held) c.if-levels-eq0.true answers)
    (λ n. omega (arith, n.tree.few, c.if-levels-eq0.true))

pub returns-in_err-i-clause-sound : goal.returns-in_err-i-clause-sound
returns-in_err-i-clause-sound g t c = λ may id e. either may
    (λ f.
    let told = f.told in
    let all = f.all in
    let held = f.held in
    let answers = f.answers in
    let T = g.P.Pages.tells in
    let a = g.P.Pages.seen c.args.pages.now in
    let p = err_from_is_err_and c.from_residual.result c.from_residual.ensures.1 in
    let bad = c.find_place.ensures.cause.bad id (bad_passed c.find_place.result c.from_residual.result c.in_err-i.field-0.0 p.0 c.in_err-i.was p.1 p.2 id e) in
    answers_not_bad T a a 0 c.args.levels c.args.at c.args.key.now (Some held) id told all (looks_at_none T a) answers bad)
    (λ n.
    let p = err_from_is_err_and c.from_residual.result c.from_residual.ensures.1 in
    let bad = c.find_place.ensures.cause.bad id (bad_passed c.find_place.result c.from_residual.result c.in_err-i.field-0.0 p.0 c.in_err-i.was p.1 p.2 id e) in
    let a = g.P.Pages.seen c.args.pages.now in
    sound_not_bad g.P.Pages.tells a c.args.at id n.told n.take.sound (node_within a n.tree.height n.tree.least c.args.at c.requires.readable c.requires.meta n.tree.tree).1 bad)

pub returns-in-Held-clause-sound : goal.returns-in-Held-clause-sound
returns-in-Held-clause-sound g t c = λ may id e. either may
    (λ f.
    let told = f.told in
    let all = f.all in
    let held = f.held in
    let answers = f.answers in
    c.set_item.ensures.cause.not_bad id e)
    (λ n. c.set_item.ensures.cause.not_bad id e)

pub returns-in-Gap-clause-keeps : goal.returns-in-Gap-clause-keeps
returns-in-Gap-clause-keeps g t c = λ told held answers.
    let T = g.P.Pages.tells in
    let a = g.P.Pages.seen c.args.pages.now in
    let b = g.P.Pages.seen c.find_place.new.pages in
    let looks = c.find_place.ensures.looks in
    let number = number_looked T a b 1 Pages c.args.count looks c.requires.count in
    let found = at_place b c.args.count c.args.at c.args.key.now (Gap c.in-Gap.i) (λ e. absurd (cc e)) (subst (IsPlace b c.args.count c.args.at c.args.key.now) {y = (Gap c.in-Gap.i)} c.in-Gap.is c.in_ok-i.ensures.place) in
    absurd (no_gap T a b 1 c.args.count c.args.at c.args.levels c.in-Gap.i held c.args.key.now found.1.page told looks number found.0 found.1.in_hand found.1.is.0 answers)

pub returns-in-Gap-clause-sound : goal.returns-in-Gap-clause-sound
returns-in-Gap-clause-sound g t c = λ may id e. either may
    (λ f.
    let told = f.told in
    let all = f.all in
    let held = f.held in
    let answers = f.answers in
    c.add_item.ensures.cause.not_bad id e)
    (λ n. c.add_item.ensures.cause.not_bad id e)

pub returns-in-Full-clause-keeps : goal.returns-in-Full-clause-keeps
returns-in-Full-clause-keeps g t c = λ told held answers.
    let T = g.P.Pages.tells in
    let a = g.P.Pages.seen c.args.pages.now in
    let b = g.P.Pages.seen c.find_place.new.pages in
    let looks = c.find_place.ensures.looks in
    let number = number_looked T a b 1 Pages c.args.count looks c.requires.count in
    let found = at_place b c.args.count c.args.at c.args.key.now (Full c.in-Full.i) (λ e. absurd (cc e)) (subst (IsPlace b c.args.count c.args.at c.args.key.now) {y = (Full c.in-Full.i)} c.in-Full.is c.in_ok-i.ensures.place) in
    absurd (no_gap T a b 1 c.args.count c.args.at c.args.levels c.in-Full.i held c.args.key.now found.1.page told looks number found.0 found.1.in_hand found.1.is.0 answers)

pub returns-in-Full-clause-sound : goal.returns-in-Full-clause-sound
returns-in-Full-clause-sound g t c = λ may id e. either may
    (λ f.
    let told = f.told in
    let all = f.all in
    let held = f.held in
    let answers = f.answers in
    let T = g.P.Pages.tells in
    let a = g.P.Pages.seen c.args.pages.now in
    let b = g.P.Pages.seen c.find_place.new.pages in
    let looks = c.find_place.ensures.looks in
    let number = number_looked T a b 1 Pages c.args.count looks c.requires.count in
    let found = at_place b c.args.count c.args.at c.args.key.now (Full c.in-Full.i) (λ e. absurd (cc e)) (subst (IsPlace b c.args.count c.args.at c.args.key.now) {y = (Full c.in-Full.i)} c.in-Full.is c.in_ok-i.ensures.place) in
    no_gap T a b 1 c.args.count c.args.at c.args.levels c.in-Full.i held c.args.key.now found.1.page told looks number found.0 found.1.in_hand found.1.is.0 answers)
    (λ n.
    let T = g.P.Pages.tells in
    let a = g.P.Pages.seen c.args.pages.now in
    let b = g.P.Pages.seen c.find_place.new.pages in
    c.split_leaf.ensures.sound (may_take T b n.limit (2 * c.args.levels) n.told n.small (omega (arith, c.if-levels-eq0.false)) (can_take_looked T a b 1 n.told c.find_place.ensures.looks n.limit (2 * c.args.levels) n.take)) id e)

pub returns-in_err-put-in-Below-clause-sound : goal.returns-in_err-put-in-Below-clause-sound
returns-in_err-put-in-Below-clause-sound g t c = λ may id e. either may
    (λ f.
    let told = f.told in
    let all = f.all in
    let held = f.held in
    let answers = f.answers in
    let T = g.P.Pages.tells in
    let a = g.P.Pages.seen c.args.pages.now in
    let b = g.P.Pages.seen c.find_place.new.pages in
    let looks = c.find_place.ensures.looks in
    let number = number_looked T a b 1 Pages c.args.count looks c.requires.count in
    let found = at_place b c.args.count c.args.at c.args.key.now (Below c.in-Below.i c.in-Below.child) (λ e. absurd (cc e)) (subst (IsPlace b c.args.count c.args.at c.args.key.now) {y = (Below c.in-Below.i c.in-Below.child)} c.in-Below.is c.in_ok-i.ensures.place) in
    let below = child_has T a b 1 c.args.count c.args.at c.args.levels c.in-Below.i c.in-Below.child held c.args.key.now told looks number found.0 found.1 answers in
    let p = err_from_is_err_and c.from_residual-in_err-put-in-Below.result c.from_residual-in_err-put-in-Below.ensures.1 in
    c.put_at.ensures.sound (inl (record { told = told; all = passes_looked T a b 1 told looks all; held = held; answers = below })) id
    (bad_passed c.put_at.result c.from_residual-in_err-put-in-Below.result c.in_err-put-in-Below.field-0.0 p.0 c.in_err-put-in-Below.was p.1 p.2 id e))
    (λ n.
    let T = g.P.Pages.tells in
    let a = g.P.Pages.seen c.args.pages.now in
    let b = g.P.Pages.seen c.find_place.new.pages in
    let looks = c.find_place.ensures.looks in
    let number = number_looked T a b 1 Pages c.args.count looks c.requires.count in
    let found = at_place b c.args.count c.args.at c.args.key.now (Below c.in-Below.i c.in-Below.child) (λ e. absurd (cc e)) (subst (IsPlace b c.args.count c.args.at c.args.key.now) {y = (Below c.in-Below.i c.in-Below.child)} c.in-Below.is c.in_ok-i.ensures.place) in
    let p = err_from_is_err_and c.from_residual-in_err-put-in-Below.result c.from_residual-in_err-put-in-Below.ensures.1 in
    let grow = grow_below T a b 1 c.args.count c.args.at c.in-Below.i c.in-Below.child c.args.levels c.args.key.now looks (meta_looked T a b 1 looks c.requires.meta) c.find_place.ensures.readable found.1 number found.0 n in
    c.put_at.ensures.sound (inr grow) id (bad_passed c.put_at.result c.from_residual-in_err-put-in-Below.result c.in_err-put-in-Below.field-0.0 p.0 c.in_err-put-in-Below.was p.1 p.2 id e))

pub returns-in_ok-put-in-Below-clause-keeps : goal.returns-in_ok-put-in-Below-clause-keeps
returns-in_ok-put-in-Below-clause-keeps g t c = λ told held answers.
    let T = g.P.Pages.tells in
    let a = g.P.Pages.seen c.args.pages.now in
    let b = g.P.Pages.seen c.find_place.new.pages in
    let looks = c.find_place.ensures.looks in
    let number = number_looked T a b 1 Pages c.args.count looks c.requires.count in
    let found = at_place b c.args.count c.args.at c.args.key.now (Below c.in-Below.i c.in-Below.child) (λ e. absurd (cc e)) (subst (IsPlace b c.args.count c.args.at c.args.key.now) {y = (Below c.in-Below.i c.in-Below.child)} c.in-Below.is c.in_ok-i.ensures.place) in
    let below = c.in_ok-put-in-Below.ensures.keeps told held (child_has T a b 1 c.args.count c.args.at c.args.levels c.in-Below.i c.in-Below.child held c.args.key.now told looks number found.0 found.1 answers) in
    IfOk-weaker c.lift.result _ _ (λ put keeps. page_then a b (g.P.Pages.seen c.put_at.new.pages) (g.P.Pages.seen c.lift.new.pages) (IsLink b.part c.args.word) (IsLink a.part c.args.word) c.in_ok-put-in-Below.put put
    (subst (λ n. IsLink n c.args.word) (sym looks.same.part)) (stored_looked T a b 1 told looks) below keeps) (c.lift.ensures.keeps below.kept)

pub returns-in_ok-put-in-Below-clause-sound : goal.returns-in_ok-put-in-Below-clause-sound
returns-in_ok-put-in-Below-clause-sound g t c = λ may id e. either may
    (λ f.
    let told = f.told in
    let all = f.all in
    let held = f.held in
    let answers = f.answers in
    let T = g.P.Pages.tells in
    let a = g.P.Pages.seen c.args.pages.now in
    let b = g.P.Pages.seen c.find_place.new.pages in
    let looks = c.find_place.ensures.looks in
    let number = number_looked T a b 1 Pages c.args.count looks c.requires.count in
    let found = at_place b c.args.count c.args.at c.args.key.now (Below c.in-Below.i c.in-Below.child) (λ e. absurd (cc e)) (subst (IsPlace b c.args.count c.args.at c.args.key.now) {y = (Below c.in-Below.i c.in-Below.child)} c.in-Below.is c.in_ok-i.ensures.place) in
    c.lift.ensures.sound (kept_takes g.P.Pages.tells (g.P.Pages.seen c.put_at.new.pages) c.args.at c.in-Below.i c.in_ok-put-in-Below.put (c.in_ok-put-in-Below.ensures.keeps told held (child_has T a b 1 c.args.count c.args.at c.args.levels c.in-Below.i c.in-Below.child held c.args.key.now told looks number found.0 found.1 answers)).kept) id e)
    (λ n.
    let T = g.P.Pages.tells in
    let a = g.P.Pages.seen c.args.pages.now in
    let b = g.P.Pages.seen c.find_place.new.pages in
    let looks = c.find_place.ensures.looks in
    let number = number_looked T a b 1 Pages c.args.count looks c.requires.count in
    let found = at_place b c.args.count c.args.at c.args.key.now (Below c.in-Below.i c.in-Below.child) (λ e. absurd (cc e)) (subst (IsPlace b c.args.count c.args.at c.args.key.now) {y = (Below c.in-Below.i c.in-Below.child)} c.in-Below.is c.in_ok-i.ensures.place) in
    c.lift.ensures.sound (λ part is. takes_place T a b (g.P.Pages.seen c.put_at.new.pages) 1 c.args.count c.args.at c.in-Below.i c.in-Below.child c.args.levels c.args.word c.args.key.now part looks (meta_looked T a b 1 looks c.requires.meta)
    found.1 number found.0 (omega (arith, c.if-levels-eq0.false)) n c.put_at.ensures.readable c.in_ok-put-in-Below.ensures.changes
    (subst (PutsFor b.pages (g.P.Pages.seen c.put_at.new.pages).pages (half_of b.page_size) (c.args.levels - 1) c.in-Below.child c.args.key.now c.args.word) is (c.in_ok-put-in-Below.ensures.puts n.told))) id e)

pub returns-in-Other-clause-sound : goal.returns-in-Other-clause-sound
returns-in-Other-clause-sound g t c = λ may id e. either may
    (λ f.
    let told = f.told in
    let all = f.all in
    let held = f.held in
    let answers = f.answers in
    let T = g.P.Pages.tells in
    let a = g.P.Pages.seen c.args.pages.now in
    let b = g.P.Pages.seen c.find_place.new.pages in
    let looks = c.find_place.ensures.looks in
    let number = number_looked T a b 1 Pages c.args.count looks c.requires.count in
    place_is_node T a b 1 c.args.count c.args.levels c.args.at held c.args.key.now told all looks number answers (subst (IsPlace b c.args.count c.args.at c.args.key.now) {y = Other} c.in-Other.is c.in_ok-i.ensures.place))
    (λ n.
    let T = g.P.Pages.tells in
    let a = g.P.Pages.seen c.args.pages.now in
    let b = g.P.Pages.seen c.find_place.new.pages in
    let looks = c.find_place.ensures.looks in
    let number = number_looked T a b 1 Pages c.args.count looks c.requires.count in
    not_other b c.args.count c.args.levels c.args.at c.args.key.now c.find_place.ensures.readable (meta_looked T a b 1 looks c.requires.meta) number (tree_looked T a b 1 c.args.levels c.args.at n.told looks n.tree)
    (subst (IsPlace b c.args.count c.args.at c.args.key.now) {y = Other} c.in-Other.is c.in_ok-i.ensures.place))

pub returns-in-Held-clause-keeps : goal.returns-in-Held-clause-keeps
returns-in-Held-clause-keeps g t c = λ told held answers.
    let T = g.P.Pages.tells in
    let a = g.P.Pages.seen c.args.pages.now in
    let b = g.P.Pages.seen c.find_place.new.pages in
    let looks = c.find_place.ensures.looks in
    IfOk-weaker c.set_item.result _ _ (λ put keeps. page_after a b (g.P.Pages.seen c.set_item.new.pages) (IsLink b.part c.args.word) (IsLink a.part c.args.word) put
    (subst (λ n. IsLink n c.args.word) (sym looks.same.part)) (stored_looked T a b 1 told looks) (keeps told)) c.set_item.ensures.keeps
