use Rattle.pm_pages.proofs.EditedPages.{looks_at_none}
use Rattle.pm_pages.proofs.PassingLooks.{bad_passed, passes_looked}
use Rattle.pm_tree.proofs.SoundLooks.{answers_not_bad, answers_end}
use Rattle.pm_tree.proofs.SoundPuts.{no_gap, child_has, place_is_node}
use Rattle.std.proofs.Common.{◌≡◌, ◌+◌, ◌-◌, refl, subst, ap, ◌∙◌, inl, inr, arith}
use Rattle.std.specs.Prelude.{Some}
use Rattle.std.proofs.lemmas.Result.{on_ok_weaker, err_from_is_err_and}
use Rattle.pm_types.specs.Ids.{page_id}
use Rattle.pm_meta.specs.declared.slots.MetaSlot.TheVariants.{Pages}
use Rattle.pm_pages.proofs.TakenPages.{meta_looked, number_looked}
use Rattle.pm_tree.specs.declared.places.Place.TheVariants.{Held, Gap, Full, Below, Other}
use Rattle.pm_tree.specs.declared.put.Put.TheVariants.{Kept}
use Rattle.pm_tree.specs.declared.edits.Edit.TheVariants.{Word}
use Rattle.pm_tree.specs.Places.{IsPlace}
use Rattle.pm_tree.specs.Puts.{half_of}
use Rattle.pm_btpage.specs.IndexPages.{index_of}
use Rattle.pm_tree.proofs.StoredNodes.{word_stored, link_word}
use Rattle.pm_tree.proofs.LeafChanges.{leaf_says, changes_leaf, set_puts}
use Rattle.pm_tree.proofs.Climbs.{link_then, below_count_of, at_place, puts_looked, lift_step}
use Rattle.pm_free.proofs.PlacedPages.{both_ok}
use Rattle.pm_part.proofs.Relinked.{word_edited}
use Rattle.pm_part.specs.Ways.{IsWay}
use Rattle.pm_part.specs.Faults.{IsFaultOfRelink}
use Rattle.pm_part.proofs.KeyWays.{way_looked, way_below, leads_to_none, bad_on_way}
use Rattle.pm_part.proofs.PartCauses.{cause_looked, cause_disk, cause_page, cause_passed, cause_named}
use Rattle.pm_part.proofs.relinking.+relink_at.Goals as goal

pub set_item-requires-clause-takes : goal.set_item-requires-clause-takes
set_item-requires-clause-takes g t c =
    let T = g.P.Pages.tells in
    let a = g.P.Pages.seen c.args.pages.now in
    let b = g.P.Pages.seen c.find_place.new.pages in
    let count = c.args.count in
    let at = c.args.at in
    let key = c.args.key.now in
    let levels = c.args.levels in
    let looks = c.find_place.ensures.looks in
    let is_place = subst (IsPlace b count at key) {y = Held c.in-Held.i c.in-Held._was} c.in-Held.is c.in_ok-i.ensures.place in
    let place = at_place b count at key (Held c.in-Held.i c.in-Held._was) (λ e. absurd (cc e)) is_place in
    record { some = place.1.some; page = place.1.page; in_hand = place.1.in_hand; well_made = place.1.is.well_made; size = place.1.size; fits = place.1.is.at.in_range }

pub returns-in-Held-clause-changes : goal.returns-in-Held-clause-changes
returns-in-Held-clause-changes g t c =
    let T = g.P.Pages.tells in
    let a = g.P.Pages.seen c.args.pages.now in
    let b = g.P.Pages.seen c.find_place.new.pages in
    let count = c.args.count in
    let at = c.args.at in
    let key = c.args.key.now in
    let levels = c.args.levels in
    let looks = c.find_place.ensures.looks in
    let is_place = subst (IsPlace b count at key) {y = Held c.in-Held.i c.in-Held._was} c.in-Held.is c.in_ok-i.ensures.place in
    let place = at_place b count at key (Held c.in-Held.i c.in-Held._was) (λ e. absurd (cc e)) is_place in
    let d = g.P.Pages.seen c.set_item.new.pages in
    let number = number_looked T a b 1 Pages count looks c.requires.count in
    on_ok_weaker c.set_item.result (λ edited. link_then T a b d 1 0 levels c.args.word (omega (arith, c.if-levels-eq0.false)) c.requires.meta looks
    (changes_leaf T b d at key (Word c.in-Held.i c.args.word) place.1.page place.1.some (meta_looked T a b 1 looks c.requires.meta) (below_count_of b count at number place.0) place.1.in_hand place.1.is.well_made place.1.size c.set_item.ensures.edits (word_edited b d at c.in-Held.i c.args.word key edited)
    (λ link stored. word_stored b.part at c.in-Held.i c.args.word (index_of place.1.page) (link_word b.part (index_of place.1.page).leaf c.args.word (leaf_says place.1.page place.1.is.kind) link) stored))) c.set_item.ensures.edited

pub returns-in-Held-clause-links : goal.returns-in-Held-clause-links
returns-in-Held-clause-links g t c =
    let T = g.P.Pages.tells in
    let a = g.P.Pages.seen c.args.pages.now in
    let b = g.P.Pages.seen c.find_place.new.pages in
    let count = c.args.count in
    let at = c.args.at in
    let key = c.args.key.now in
    let levels = c.args.levels in
    let looks = c.find_place.ensures.looks in
    let number = number_looked T a b 1 Pages count looks c.requires.count in
    let is_place = subst (IsPlace b count at key) {y = Held c.in-Held.i c.in-Held._was} c.in-Held.is c.in_ok-i.ensures.place in
    let place = at_place b count at key (Held c.in-Held.i c.in-Held._was) (λ e. absurd (cc e)) is_place in
    let d = g.P.Pages.seen c.set_item.new.pages in
    on_ok_weaker c.set_item.result (λ edited told. (
      c.in-Held._was,
      puts_looked T a b d 1 levels at key c.args.word (Kept (Some c.in-Held._was)) told looks
          (set_puts T b d at c.in-Held.i c.in-Held._was key c.args.word (half_of b.page_size) told c.find_place.ensures.readable (meta_looked T a b 1 looks c.requires.meta) (below_count_of b count at number place.0) place.1 c.set_item.ensures.edits (word_edited b d at c.in-Held.i c.args.word key edited) levels),
    )) c.set_item.ensures.edited

pub returns-in-Held-clause-some : goal.returns-in-Held-clause-some
returns-in-Held-clause-some g t c =
    let T = g.P.Pages.tells in
    let a = g.P.Pages.seen c.args.pages.now in
    let b = g.P.Pages.seen c.find_place.new.pages in
    let count = c.args.count in
    let at = c.args.at in
    let key = c.args.key.now in
    let levels = c.args.levels in
    let looks = c.find_place.ensures.looks in
    let is_place = subst (IsPlace b count at key) {y = Held c.in-Held.i c.in-Held._was} c.in-Held.is c.in_ok-i.ensures.place in
    let place = at_place b count at key (Held c.in-Held.i c.in-Held._was) (λ e. absurd (cc e)) is_place in
    on_ok_weaker c.set_item.result (λ edited. place.1.some) c.set_item.ensures.edited

pub returns-in-Held-clause-cause : goal.returns-in-Held-clause-cause
returns-in-Held-clause-cause g t c =
    let T = g.P.Pages.tells in
    let a = g.P.Pages.seen c.args.pages.now in
    let b = g.P.Pages.seen c.find_place.new.pages in
    let count = c.args.count in
    let at = c.args.at in
    let key = c.args.key.now in
    let levels = c.args.levels in
    let looks = c.find_place.ensures.looks in
    let d = g.P.Pages.seen c.set_item.new.pages in
    cause_looked T a b d 1 (IsFaultOfRelink T d c.args.cache c.args.key.now) c.set_item.result looks (cause_disk T b d (IsFaultOfRelink T d c.args.cache c.args.key.now) c.set_item.result c.set_item.ensures.cause)

pub relink_at-requires : goal.relink_at-requires
relink_at-requires g t c = λ κs le.
    let T = g.P.Pages.tells in
    let a = g.P.Pages.seen c.args.pages.now in
    let b = g.P.Pages.seen c.find_place.new.pages in
    let count = c.args.count in
    let at = c.args.at in
    let key = c.args.key.now in
    let levels = c.args.levels in
    let looks = c.find_place.ensures.looks in
    let is_place = subst (IsPlace b count at key) {y = Below c.in-Below._i c.in-Below.child} c.in-Below.is c.in_ok-i.ensures.place in
    let place = at_place b count at key (Below c.in-Below._i c.in-Below.child) (λ e. absurd (cc e)) is_place in
    let way = way_looked T a b 1 c.args.cache key (8 - levels) c.args.from at looks c.requires.way in
    let e : 8 - levels + 1 ≡ 8 - (levels - 1) = omega (arith, c.if-levels-eq0.false, c.requires.levels) in (
      omega (arith, c.if-levels-eq0.false, c.decreases),
      (
        le,
        (
          g.met.P.Pages.kept_ready c.args.pages.now c.find_place.new.pages c.find_place.ensures.kept c.requires.ready,
          (
            meta_looked T a b 1 looks c.requires.meta,
            (
              omega (arith, looks.spare, c.requires.room, c.if-levels-eq0.false),
              (
                c.find_place.ensures.readable,
                (
                  number_looked T a b 1 Pages count looks c.requires.count,
                  (
                    omega (arith, c.requires.levels),
                    subst (λ n. IsWay b c.args.cache key n at c.in-Below.child) e (way_below b c.args.cache key (8 - levels) c.args.from at c.in-Below.child c.in-Below._i way place.1),
                  ),
                ),
              ),
            ),
          ),
        ),
      ),
    )

pub returns-in-Below-clause-changes : goal.returns-in-Below-clause-changes
returns-in-Below-clause-changes g t c =
    let T = g.P.Pages.tells in
    let a = g.P.Pages.seen c.args.pages.now in
    let b = g.P.Pages.seen c.find_place.new.pages in
    let count = c.args.count in
    let at = c.args.at in
    let key = c.args.key.now in
    let levels = c.args.levels in
    let looks = c.find_place.ensures.looks in
    let d = g.P.Pages.seen c.relink_at.new.pages in
    on_ok_weaker c.relink_at.result (λ ch. link_then T a b d 1 (levels - 1) levels c.args.word (omega (arith, c.if-levels-eq0.false)) c.requires.meta looks ch) c.relink_at.ensures.changes

pub returns-in-Below-clause-links : goal.returns-in-Below-clause-links
returns-in-Below-clause-links g t c =
    let T = g.P.Pages.tells in
    let a = g.P.Pages.seen c.args.pages.now in
    let b = g.P.Pages.seen c.find_place.new.pages in
    let count = c.args.count in
    let at = c.args.at in
    let key = c.args.key.now in
    let levels = c.args.levels in
    let looks = c.find_place.ensures.looks in
    let number = number_looked T a b 1 Pages count looks c.requires.count in
    let is_place = subst (IsPlace b count at key) {y = Below c.in-Below._i c.in-Below.child} c.in-Below.is c.in_ok-i.ensures.place in
    let place = at_place b count at key (Below c.in-Below._i c.in-Below.child) (λ e. absurd (cc e)) is_place in
    let d = g.P.Pages.seen c.relink_at.new.pages in
    on_ok_weaker c.relink_at.result (λ both told.
    let h = both.1 told in (
      h.0,
      puts_looked T a b d 1 levels at key c.args.word (Kept (Some h.0)) told looks
          (lift_step T b d d at c.in-Below._i c.in-Below.child levels (levels - 1) key c.args.word told (meta_looked T a b 1 looks c.requires.meta) place.1 (below_count_of b count at number place.0)
          (omega (arith, c.if-levels-eq0.false)) both.0 c.relink_at.ensures.readable (Kept (Some h.0)) (Kept (Some h.0)) h.1 (refl, λ j. refl)),
    )) (both_ok c.relink_at.result _ _ c.relink_at.ensures.changes c.relink_at.ensures.links)

pub returns-in-Below-clause-some : goal.returns-in-Below-clause-some
returns-in-Below-clause-some g t c =
    let T = g.P.Pages.tells in
    let a = g.P.Pages.seen c.args.pages.now in
    let b = g.P.Pages.seen c.find_place.new.pages in
    let count = c.args.count in
    let at = c.args.at in
    let key = c.args.key.now in
    let levels = c.args.levels in
    let looks = c.find_place.ensures.looks in
    let is_place = subst (IsPlace b count at key) {y = Below c.in-Below._i c.in-Below.child} c.in-Below.is c.in_ok-i.ensures.place in
    let place = at_place b count at key (Below c.in-Below._i c.in-Below.child) (λ e. absurd (cc e)) is_place in
    on_ok_weaker c.relink_at.result (λ some. place.1.some) c.relink_at.ensures.some

pub returns-in-Below-clause-cause : goal.returns-in-Below-clause-cause
returns-in-Below-clause-cause g t c =
    let T = g.P.Pages.tells in
    let a = g.P.Pages.seen c.args.pages.now in
    let b = g.P.Pages.seen c.find_place.new.pages in
    let count = c.args.count in
    let at = c.args.at in
    let key = c.args.key.now in
    let levels = c.args.levels in
    let looks = c.find_place.ensures.looks in
    let d = g.P.Pages.seen c.relink_at.new.pages in
    cause_looked T a b d 1 (IsFaultOfRelink T d c.args.cache c.args.key.now) c.relink_at.result looks c.relink_at.ensures.cause

pub returns-in-Gap-clause-cause : goal.returns-in-Gap-clause-cause
returns-in-Gap-clause-cause g t c =
    let T = g.P.Pages.tells in
    let a = g.P.Pages.seen c.args.pages.now in
    let b = g.P.Pages.seen c.find_place.new.pages in
    let count = c.args.count in
    let at = c.args.at in
    let key = c.args.key.now in
    let levels = c.args.levels in
    let looks = c.find_place.ensures.looks in
    let is_place = subst (IsPlace b count at key) {y = Gap c.in-Gap._i} c.in-Gap.is c.in_ok-i.ensures.place in
    let place = at_place b count at key (Gap c.in-Gap._i) (λ e. absurd (cc e)) is_place in
    let way = way_looked T a b 1 c.args.cache key (8 - levels) c.args.from at looks c.requires.way in
    cause_named T a b (IsFaultOfRelink T b c.args.cache c.args.key.now) c.new-in-Gap.result _ refl (inr (record {
      leaf = at;
      name = c.new-in-Gap.ensures ∙ ap (λ n. page_id n at) c.part-in-Gap.ensures;
      reached = record { levels = 8 - levels; from = c.args.from; way = way };
      item = c.in-Gap._i;
      place = inl place.1;
    }))

pub returns-in-Full-clause-cause : goal.returns-in-Full-clause-cause
returns-in-Full-clause-cause g t c =
    let T = g.P.Pages.tells in
    let a = g.P.Pages.seen c.args.pages.now in
    let b = g.P.Pages.seen c.find_place.new.pages in
    let count = c.args.count in
    let at = c.args.at in
    let key = c.args.key.now in
    let levels = c.args.levels in
    let looks = c.find_place.ensures.looks in
    let is_place = subst (IsPlace b count at key) {y = Full c.in-Full._i} c.in-Full.is c.in_ok-i.ensures.place in
    let place = at_place b count at key (Full c.in-Full._i) (λ e. absurd (cc e)) is_place in
    let way = way_looked T a b 1 c.args.cache key (8 - levels) c.args.from at looks c.requires.way in
    cause_named T a b (IsFaultOfRelink T b c.args.cache c.args.key.now) c.new-in-Full.result _ refl (inr (record {
      leaf = at;
      name = c.new-in-Full.ensures ∙ ap (λ n. page_id n at) c.part-in-Full.ensures;
      reached = record { levels = 8 - levels; from = c.args.from; way = way };
      item = c.in-Full._i;
      place = inr place.1;
    }))

pub returns-in-Other-clause-cause : goal.returns-in-Other-clause-cause
returns-in-Other-clause-cause g t c =
    let T = g.P.Pages.tells in
    let a = g.P.Pages.seen c.args.pages.now in
    let b = g.P.Pages.seen c.find_place.new.pages in
    let count = c.args.count in
    let at = c.args.at in
    let key = c.args.key.now in
    let levels = c.args.levels in
    let looks = c.find_place.ensures.looks in
    let number = number_looked T a b 1 Pages count looks c.requires.count in
    let is_place = subst (IsPlace b count at key) {y = Other} c.in-Other.is c.in_ok-i.ensures.place in
    let way = way_looked T a b 1 c.args.cache key (8 - levels) c.args.from at looks c.requires.way in
    cause_named T a b (IsFaultOfRelink T b c.args.cache c.args.key.now) c.new-in-Other.result _ refl
    (inl (inr (inl (leads_to_none b c.args.cache key (8 - levels) c.args.from at count c.new-in-Other.result (c.new-in-Other.ensures ∙ ap (λ n. page_id n c.args.from) c.part-in-Other.ensures) way number is_place))))

pub returns-then-levels-eq0-clause-cause : goal.returns-then-levels-eq0-clause-cause
returns-then-levels-eq0-clause-cause g t c =
    let T = g.P.Pages.tells in
    let a = g.P.Pages.seen c.args.pages.now in
    let e : 8 - c.args.levels ≡ 8 = omega (arith, c.if-levels-eq0.true) in
    cause_named T a a (IsFaultOfRelink T a c.args.cache c.args.key.now) c.new.result _ refl (inl (inr (inr (record {
      from = c.args.from;
      at = c.args.at;
      name = c.new.ensures ∙ ap (λ n. page_id n c.args.from) c.part.ensures;
      way = subst (λ n. IsWay a c.args.cache c.args.key.now n c.args.from c.args.at) e c.requires.way;
    }))))

pub returns-in_err-i-clause-cause : goal.returns-in_err-i-clause-cause
returns-in_err-i-clause-cause g t c =
    let T = g.P.Pages.tells in
    let a = g.P.Pages.seen c.args.pages.now in
    let b = g.P.Pages.seen c.find_place.new.pages in
    let p = err_from_is_err_and c.from_residual.result c.from_residual.ensures.1 in
    cause_passed T a b (IsFaultOfRelink T b c.args.cache c.args.key.now) c.find_place.result c.from_residual.result c.in_err-i.field-0.0 p.0 c.in_err-i.was p.1 p.2
    (cause_page T a b (IsFaultOfRelink T b c.args.cache c.args.key.now) c.args.at c.find_place.result (λ id bad. inl (inl (bad_on_way T a a b 0 1 c.args.cache c.args.key.now (8 - c.args.levels) c.args.from c.args.at id (looks_at_none T a) c.find_place.ensures.looks c.requires.way bad))) c.find_place.ensures.cause)

pub returns-then-levels-eq0-clause-sound : goal.returns-then-levels-eq0-clause-sound
returns-then-levels-eq0-clause-sound g t c = λ finds id e. answers_end (g.P.Pages.seen c.args.pages.now) c.args.levels c.args.at c.args.key.now (Some finds.held) c.if-levels-eq0.true finds.answers

pub returns-in_err-i-clause-sound : goal.returns-in_err-i-clause-sound
returns-in_err-i-clause-sound g t c = λ finds id e.
    let T = g.P.Pages.tells in
    let a = g.P.Pages.seen c.args.pages.now in
    let p = err_from_is_err_and c.from_residual.result c.from_residual.ensures.1 in
    let bad = c.find_place.ensures.cause.bad id (bad_passed c.find_place.result c.from_residual.result c.in_err-i.field-0.0 p.0 c.in_err-i.was p.1 p.2 id e) in
    answers_not_bad T a a 0 c.args.levels c.args.at c.args.key.now (Some finds.held) id finds.told finds.all (looks_at_none T a) finds.answers bad

pub returns-in-Held-clause-sound : goal.returns-in-Held-clause-sound
returns-in-Held-clause-sound g t c = λ finds. c.set_item.ensures.cause.not_bad

pub returns-in-Gap-clause-sound : goal.returns-in-Gap-clause-sound
returns-in-Gap-clause-sound g t c = λ finds id e.
    let T = g.P.Pages.tells in
    let a = g.P.Pages.seen c.args.pages.now in
    let b = g.P.Pages.seen c.find_place.new.pages in
    let looks = c.find_place.ensures.looks in
    let number = number_looked T a b 1 Pages c.args.count looks c.requires.count in
    let found = at_place b c.args.count c.args.at c.args.key.now (Gap c.in-Gap._i) (λ e. absurd (cc e)) (subst (IsPlace b c.args.count c.args.at c.args.key.now) {y = Gap c.in-Gap._i} c.in-Gap.is c.in_ok-i.ensures.place) in
    no_gap T a b 1 c.args.count c.args.at c.args.levels c.in-Gap._i finds.held c.args.key.now found.1.page finds.told looks number found.0 found.1.in_hand found.1.is.0 finds.answers

pub returns-in-Full-clause-sound : goal.returns-in-Full-clause-sound
returns-in-Full-clause-sound g t c = λ finds id e.
    let T = g.P.Pages.tells in
    let a = g.P.Pages.seen c.args.pages.now in
    let b = g.P.Pages.seen c.find_place.new.pages in
    let looks = c.find_place.ensures.looks in
    let number = number_looked T a b 1 Pages c.args.count looks c.requires.count in
    let found = at_place b c.args.count c.args.at c.args.key.now (Full c.in-Full._i) (λ e. absurd (cc e)) (subst (IsPlace b c.args.count c.args.at c.args.key.now) {y = Full c.in-Full._i} c.in-Full.is c.in_ok-i.ensures.place) in
    no_gap T a b 1 c.args.count c.args.at c.args.levels c.in-Full._i finds.held c.args.key.now found.1.page finds.told looks number found.0 found.1.in_hand found.1.is.0 finds.answers

pub returns-in-Below-clause-sound : goal.returns-in-Below-clause-sound
returns-in-Below-clause-sound g t c = λ finds.
    let T = g.P.Pages.tells in
    let a = g.P.Pages.seen c.args.pages.now in
    let b = g.P.Pages.seen c.find_place.new.pages in
    let looks = c.find_place.ensures.looks in
    let number = number_looked T a b 1 Pages c.args.count looks c.requires.count in
    let found = at_place b c.args.count c.args.at c.args.key.now (Below c.in-Below._i c.in-Below.child) (λ e. absurd (cc e)) (subst (IsPlace b c.args.count c.args.at c.args.key.now) {y = Below c.in-Below._i c.in-Below.child} c.in-Below.is c.in_ok-i.ensures.place) in
    c.relink_at.ensures.sound (record {
      told = finds.told;
      all = passes_looked T a b 1 finds.told looks finds.all;
      held = finds.held;
      answers = child_has T a b 1 c.args.count c.args.at c.args.levels c.in-Below._i c.in-Below.child finds.held c.args.key.now finds.told looks number found.0 found.1 finds.answers;
    })

pub returns-in-Other-clause-sound : goal.returns-in-Other-clause-sound
returns-in-Other-clause-sound g t c = λ finds id e.
    let T = g.P.Pages.tells in
    let a = g.P.Pages.seen c.args.pages.now in
    let b = g.P.Pages.seen c.find_place.new.pages in
    let looks = c.find_place.ensures.looks in
    let number = number_looked T a b 1 Pages c.args.count looks c.requires.count in
    place_is_node T a b 1 c.args.count c.args.levels c.args.at finds.held c.args.key.now finds.told finds.all looks number finds.answers (subst (IsPlace b c.args.count c.args.at c.args.key.now) {y = Other} c.in-Other.is c.in_ok-i.ensures.place)
