use Rattle.std.proofs.Common.{◌≡◌, ◌+◌, ◌-◌, Some, None, arith, sym, ap, subst, ◌∙◌, inl, inr}
use Rattle.std.proofs.lemmas.Result.{err_from_is_err_and}
use Rattle.pm_types.specs.Ids.{page_id}
use Rattle.pm_meta.specs.declared.slots.MetaSlot.TheVariants.{Pages}
use Rattle.pm_pages.proofs.EditedPages.{looks_then, looks_at_none}
use Rattle.pm_pages.proofs.TakenPages.{number_looked, meta_looked}
use Rattle.pm_tree.specs.declared.places.Place.TheVariants.{Held, Gap, Full, Below, Other}
use Rattle.pm_tree.specs.Places.{IsPlace}
use Rattle.pm_tree.specs.Indexes.{AnswersFrom}
use Rattle.pm_tree.proofs.Climbs.{at_place, below_count_of}
use Rattle.pm_tree.proofs.Descents.{word_answers, child_answers}
use Rattle.pm_pages.proofs.PassingLooks.{bad_passed}
use Rattle.pm_tree.proofs.SoundLooks.{answers_not_bad, answers_are_nodes, answers_end}
use Rattle.pm_part.specs.Ways.{IsWay}
use Rattle.pm_part.proofs.KeyWays.{way_looked, way_below, leads_to_none, bad_on_way_cause, way_cause_passed}
use Rattle.pm_part.proofs.Looks.{look_at}
use Rattle.pm_part.proofs.entries.descend.Goals as goal

pub returns-in-Held-clause-entry : goal.returns-in-Held-clause-entry
returns-in-Held-clause-entry g c =
    let T = g.P.Pages.tells in
    let a = g.P.Pages.seen c.args.pages.now in
    let b = g.P.Pages.seen c.levels.pages in
    let d = g.P.Pages.seen c.find_place.new.pages in
    let count = c.in_ok-count.count in
    let at = c.levels.at in
    let key = c.args.key.now in
    let level = c.levels._level in
    let looks = looks_then T a b d level 1 c.levels.invariant.looks c.find_place.ensures.looks in
    let number = number_looked T b d 1 Pages count c.find_place.ensures.looks c.levels.invariant.number in
    let way = way_looked T b d 1 c.args.cache key level c.levels.from at c.find_place.ensures.looks c.levels.invariant.way in
    let is_place = subst (IsPlace d count at key) {y = Held c.in-Held.item c.in-Held.word} c.in-Held.is c.in_ok-item.ensures.place in
    let look = look_at d count at key (Held c.in-Held.item c.in-Held.word) is_place in
    let place = at_place d count at key (Held c.in-Held.item c.in-Held.word) (λ e. absurd (cc e)) is_place in
    record {
      meta = meta_looked T a d (level + 1) looks c.requires.meta;
      reached = record { levels = level; from = c.levels.from; way = way };
      below = below_count_of d count at number place.0;
      place = place.1;
    }

pub returns-in-Held-clause-gets : goal.returns-in-Held-clause-gets
returns-in-Held-clause-gets g c = λ t word answers.
    let T = g.P.Pages.tells in
    let a = g.P.Pages.seen c.args.pages.now in
    let b = g.P.Pages.seen c.levels.pages in
    let d = g.P.Pages.seen c.find_place.new.pages in
    let count = c.in_ok-count.count in
    let at = c.levels.at in
    let key = c.args.key.now in
    let level = c.levels._level in
    let looks = looks_then T a b d level 1 c.levels.invariant.looks c.find_place.ensures.looks in
    let number = number_looked T b d 1 Pages count c.find_place.ensures.looks c.levels.invariant.number in
    let way = way_looked T b d 1 c.args.cache key level c.levels.from at c.find_place.ensures.looks c.levels.invariant.way in
    let is_place = subst (IsPlace d count at key) {y = Held c.in-Held.item c.in-Held.word} c.in-Held.is c.in_ok-item.ensures.place in
    let look = look_at d count at key (Held c.in-Held.item c.in-Held.word) is_place in
    word_answers T a d (level + 1) count at (8 - level) key (Some c.in-Held.word) word t looks number look (c.levels.invariant.answers t word answers)

pub returns-in-Gap-clause-gets : goal.returns-in-Gap-clause-gets
returns-in-Gap-clause-gets g c = λ t word answers.
    let T = g.P.Pages.tells in
    let a = g.P.Pages.seen c.args.pages.now in
    let b = g.P.Pages.seen c.levels.pages in
    let d = g.P.Pages.seen c.find_place.new.pages in
    let count = c.in_ok-count.count in
    let at = c.levels.at in
    let key = c.args.key.now in
    let level = c.levels._level in
    let looks = looks_then T a b d level 1 c.levels.invariant.looks c.find_place.ensures.looks in
    let number = number_looked T b d 1 Pages count c.find_place.ensures.looks c.levels.invariant.number in
    let way = way_looked T b d 1 c.args.cache key level c.levels.from at c.find_place.ensures.looks c.levels.invariant.way in
    let is_place = subst (IsPlace d count at key) {y = Gap c.in-Gap.field-0} c.in-Gap.is c.in_ok-item.ensures.place in
    let look = look_at d count at key (Gap c.in-Gap.field-0) is_place in
    word_answers T a d (level + 1) count at (8 - level) key None word t looks number look (c.levels.invariant.answers t word answers)

pub returns-in-Full-clause-gets : goal.returns-in-Full-clause-gets
returns-in-Full-clause-gets g c = λ t word answers.
    let T = g.P.Pages.tells in
    let a = g.P.Pages.seen c.args.pages.now in
    let b = g.P.Pages.seen c.levels.pages in
    let d = g.P.Pages.seen c.find_place.new.pages in
    let count = c.in_ok-count.count in
    let at = c.levels.at in
    let key = c.args.key.now in
    let level = c.levels._level in
    let looks = looks_then T a b d level 1 c.levels.invariant.looks c.find_place.ensures.looks in
    let number = number_looked T b d 1 Pages count c.find_place.ensures.looks c.levels.invariant.number in
    let way = way_looked T b d 1 c.args.cache key level c.levels.from at c.find_place.ensures.looks c.levels.invariant.way in
    let is_place = subst (IsPlace d count at key) {y = Full c.in-Full.field-0} c.in-Full.is c.in_ok-item.ensures.place in
    let look = look_at d count at key (Full c.in-Full.field-0) is_place in
    word_answers T a d (level + 1) count at (8 - level) key None word t looks number look (c.levels.invariant.answers t word answers)

pub returns-in-Other-clause-cause : goal.returns-in-Other-clause-cause
returns-in-Other-clause-cause g c =
    let T = g.P.Pages.tells in
    let a = g.P.Pages.seen c.args.pages.now in
    let b = g.P.Pages.seen c.levels.pages in
    let d = g.P.Pages.seen c.find_place.new.pages in
    let count = c.in_ok-count.count in
    let at = c.levels.at in
    let key = c.args.key.now in
    let level = c.levels._level in
    let looks = looks_then T a b d level 1 c.levels.invariant.looks c.find_place.ensures.looks in
    let number = number_looked T b d 1 Pages count c.find_place.ensures.looks c.levels.invariant.number in
    let way = way_looked T b d 1 c.args.cache key level c.levels.from at c.find_place.ensures.looks c.levels.invariant.way in
    let is_place = subst (IsPlace d count at key) {y = Other} c.in-Other.is c.in_ok-item.ensures.place in
    let look = look_at d count at key (Other) is_place in
    record {
      failed = λ e. absurd (cc e);
      bad = λ id e.
          let is : c.new.result ≡ id = cc e in
          inr (inl (leads_to_none d c.args.cache key level c.levels.from at count id (sym is ∙ c.new.ensures ∙ ap (λ n. page_id n c.levels.from) c.part.ensures) way number is_place));
    }

pub returns-in-Other-clause-sound : goal.returns-in-Other-clause-sound
returns-in-Other-clause-sound g c = λ t all word answers id e.
    let T = g.P.Pages.tells in
    let a = g.P.Pages.seen c.args.pages.now in
    let b = g.P.Pages.seen c.levels.pages in
    let d = g.P.Pages.seen c.find_place.new.pages in
    let count = c.in_ok-count.count in
    let at = c.levels.at in
    let key = c.args.key.now in
    let level = c.levels._level in
    let looks = looks_then T a b d level 1 c.levels.invariant.looks c.find_place.ensures.looks in
    let number = number_looked T b d 1 Pages count c.find_place.ensures.looks c.levels.invariant.number in
    let way = way_looked T b d 1 c.args.cache key level c.levels.from at c.find_place.ensures.looks c.levels.invariant.way in
    let is_place = subst (IsPlace d count at key) {y = Other} c.in-Other.is c.in_ok-item.ensures.place in
    let look = look_at d count at key (Other) is_place in
    answers_are_nodes T a d (level + 1) count (8 - level) at key word t all looks number (c.levels.invariant.answers t word answers) look

pub levels-preserved : goal.levels-preserved
levels-preserved g c =
    let T = g.P.Pages.tells in
    let a = g.P.Pages.seen c.args.pages.now in
    let b = g.P.Pages.seen c.levels.pages in
    let d = g.P.Pages.seen c.find_place.new.pages in
    let count = c.in_ok-count.count in
    let at = c.levels.at in
    let key = c.args.key.now in
    let level = c.levels._level in
    let looks = looks_then T a b d level 1 c.levels.invariant.looks c.find_place.ensures.looks in
    let number = number_looked T b d 1 Pages count c.find_place.ensures.looks c.levels.invariant.number in
    let way = way_looked T b d 1 c.args.cache key level c.levels.from at c.find_place.ensures.looks c.levels.invariant.way in
    let is_place = subst (IsPlace d count at key) {y = Below c.in-Below.field-0 c.in-Below.child} c.in-Below.is c.in_ok-item.ensures.place in
    let look = look_at d count at key (Below c.in-Below.field-0 c.in-Below.child) is_place in
    let place = at_place d count at key (Below c.in-Below.field-0 c.in-Below.child) (λ e. absurd (cc e)) is_place in
    let less : 8 - level - 1 ≡ 8 - (level + 1) = omega arith in
    record {
      kept = g.met.P.Pages.kept_then c.args.pages.now c.levels.pages c.find_place.new.pages c.levels.invariant.kept c.find_place.ensures.kept;
      looks = looks;
      readable = c.find_place.ensures.readable;
      way = way_below d c.args.cache key level c.levels.from at c.in-Below.child c.in-Below.field-0 way place.1;
      number = number;
      answers = λ t word answers. subst (λ n. AnswersFrom a.pages key n c.in-Below.child word) less
          (child_answers T a d (level + 1) count at (8 - level) c.in-Below.child key word t looks number look (c.levels.invariant.answers t word answers));
    }

pub returns-clause-cause : goal.returns-clause-cause
returns-clause-cause g c =
    let b = g.P.Pages.seen c.levels.pages in
    let last : c.levels._level ≡ 8 = omega arith in
    record {
      failed = λ e. absurd (cc e);
      bad = λ id e.
          let is : c.new-2.result ≡ id = cc e in
          inr (inr (record { from = c.levels.from; at = c.levels.at; name = sym is ∙ c.new-2.ensures ∙ ap (λ n. page_id n c.levels.from) c.part-2.ensures; way = subst (λ n. IsWay b c.args.cache c.args.key.now n c.levels.from c.levels.at) last c.levels.invariant.way }));
    }

pub returns-in_err-item-clause-cause : goal.returns-in_err-item-clause-cause
returns-in_err-item-clause-cause g c =
    let T = g.P.Pages.tells in
    let a = g.P.Pages.seen c.args.pages.now in
    let b = g.P.Pages.seen c.levels.pages in
    let d = g.P.Pages.seen c.find_place.new.pages in
    let level = c.levels._level in
    let p = err_from_is_err_and c.from_residual-in_err-item.result c.from_residual-in_err-item.ensures.1 in
    way_cause_passed T a b d level c.args.cache c.args.key.now c.find_place.result c.from_residual-in_err-item.result c.in_err-item.field-0.0 p.0 c.in_err-item.was p.1 p.2 c.levels.invariant.looks
    (bad_on_way_cause T b d 1 c.args.cache c.args.key.now level c.levels.from c.levels.at c.find_place.result c.find_place.ensures.looks c.levels.invariant.way c.find_place.ensures.cause)

pub returns-in_err-count-clause-cause : goal.returns-in_err-count-clause-cause
returns-in_err-count-clause-cause g c =
    let T = g.P.Pages.tells in
    let a = g.P.Pages.seen c.args.pages.now in
    let b = g.P.Pages.seen c.number.new.pages in
    let p = err_from_is_err_and c.from_residual.result c.from_residual.ensures.1 in
    way_cause_passed T a a b 0 c.args.cache c.args.key.now c.number.result c.from_residual.result c.in_err-count.field-0.0 p.0 c.in_err-count.was p.1 p.2 (looks_at_none T a)
    (record { failed = c.number.ensures.cause.failed; bad = λ id e. absurd (c.number.ensures.cause.not_bad id e) })

pub returns-in_err-count-clause-sound : goal.returns-in_err-count-clause-sound
returns-in_err-count-clause-sound g c = λ t all word answers id e.
    let p = err_from_is_err_and c.from_residual.result c.from_residual.ensures.1 in
    c.number.ensures.cause.not_bad id (bad_passed c.number.result c.from_residual.result c.in_err-count.field-0.0 p.0 c.in_err-count.was p.1 p.2 id e)

pub returns-in_err-item-clause-sound : goal.returns-in_err-item-clause-sound
returns-in_err-item-clause-sound g c = λ t all word answers id e.
    let T = g.P.Pages.tells in
    let a = g.P.Pages.seen c.args.pages.now in
    let b = g.P.Pages.seen c.levels.pages in
    let p = err_from_is_err_and c.from_residual-in_err-item.result c.from_residual-in_err-item.ensures.1 in
    let bad = c.find_place.ensures.cause.bad id (bad_passed c.find_place.result c.from_residual-in_err-item.result c.in_err-item.field-0.0 p.0 c.in_err-item.was p.1 p.2 id e) in
    answers_not_bad T a b c.levels._level (8 - c.levels._level) c.levels.at c.args.key.now word id t all c.levels.invariant.looks (c.levels.invariant.answers t word answers) bad

pub returns-clause-sound : goal.returns-clause-sound
returns-clause-sound g c = λ t all word answers id e.
    answers_end (g.P.Pages.seen c.args.pages.now) (8 - c.levels._level) c.levels.at c.args.key.now word (omega arith) (c.levels.invariant.answers t word answers)
