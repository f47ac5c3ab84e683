use Rattle.std.proofs.Common.{refl, subst, sym, inl, inr, arith}
use Rattle.std.proofs.lemmas.Result.{IfOk-weaker, err_from_is_err_and}
use Rattle.pm_meta.specs.declared.slots.MetaSlot.TheVariants.{Root}
use Rattle.pm_pages.proofs.TakenPages.{number_looked, meta_looked}
use Rattle.pm_tree.specs.declared.put.Put.TheVariants.{Kept, Split}
use Rattle.std.specs.Prelude.{Some}
use Rattle.pm_tree.specs.Maps.{get_in}
use Rattle.pm_tree.specs.Indexes.{AnswersFrom}
use Rattle.pm_tree.specs.Puts.{IsKept, HasLevels, PutsFor, half_of}
use Rattle.pm_tree.specs.Roots.{PutsIndex}
use Rattle.pm_tree.proofs.Climbs.{changes_looked, link_then, puts_looked, put_cause_disk, put_cause_after, put_cause_passed}
use Rattle.pm_tree.proofs.IndexPuts.{keeps_height, grows_height, changes_root, changes_same_root, tree_cause, grow_cause}
use Rattle.pm_btpage.specs.Stored.{IsLink}
use Rattle.pm_tree.proofs.StoredNodes.{top_root}
use Rattle.pm_pages.proofs.StoredPages.{stored_looked}
use Rattle.pm_pages.proofs.ToldPages.{pages_told}
use Rattle.pm_tree.proofs.Descents.{index_answers}
use Rattle.pm_pages.proofs.PassingLooks.{bad_passed, passes_looked}
use Rattle.pm_tree.proofs.SoundPuts.{held_word}
use Rattle.pm_tree.proofs.GrownTrees.{may_grow_root, may_put_looked, may_take_root, not_tall}
use Rattle.pm_tree.proofs.roots.put_below.Goals as goal

pub put_at-requires-clause-path : goal.put_at-requires-clause-path
put_at-requires-clause-path g c =
    let T = g.P.Pages.tells in
    let a = g.P.Pages.seen c.args.pages.now in
    (refl, number_looked T a (g.P.Pages.seen c.number.new.pages) 0 (Root c.args.cache) c.args.root c.number.ensures.looks c.requires.root)

pub returns-in-Kept-clause-changes : goal.returns-in-Kept-clause-changes
returns-in-Kept-clause-changes g c =
    let T = g.P.Pages.tells in
    let a = g.P.Pages.seen c.args.pages.now in
    let b = g.P.Pages.seen c.number.new.pages in
    let d = g.P.Pages.seen c.put_at.new.pages in
    let all = link_then T a b d 0 16 16 c.args.link.0 (omega arith) c.requires.meta c.number.ensures.looks c.in_ok-put.ensures.changes in
    changes_same_root T a d c.args.cache 16 17 (omega arith) all

pub returns-in-Kept-clause-puts : goal.returns-in-Kept-clause-puts
returns-in-Kept-clause-puts g c = λ t height nodes items index.
    let T = g.P.Pages.tells in
    let a = g.P.Pages.seen c.args.pages.now in
    let b = g.P.Pages.seen c.number.new.pages in
    let d = g.P.Pages.seen c.put_at.new.pages in
    let all = link_then T a b d 0 16 16 c.args.link.0 (omega arith) c.requires.meta c.number.ensures.looks c.in_ok-put.ensures.changes in
    let puts = puts_looked T a b d 0 8 c.args.root c.args.key.now c.args.link.0 c.in_ok-put.put t c.number.ensures.looks (c.in_ok-put.ensures.puts t) in
    let kept = subst (PutsFor a.pages d.pages (half_of a.page_size) 8 c.args.root c.args.key.now c.args.link.0) {y = Kept c.in-Kept.was} c.in-Kept.is puts in
    subst (PutsIndex a.pages d.pages c.args.cache nodes items c.args.key.now c.args.link.0) (sym c.link_of.ensures)
    (keeps_height T a d c.args.cache c.args.root c.args.key.now c.args.link.0 16 t c.requires.meta c.requires.cache c.requires.root c.requires.some all c.in-Kept.was kept height nodes items index)

pub grow-requires-clause-levels : goal.grow-requires-clause-levels
grow-requires-clause-levels g c = (subst (HasLevels 8) {y = Split c.in-Split.part} c.in-Split.is c.in_ok-put.ensures.levels).0

pub grow-requires-clause-room : goal.grow-requires-clause-room
grow-requires-clause-room g c =
    let T = g.P.Pages.tells in
    let a = g.P.Pages.seen c.args.pages.now in
    let b = g.P.Pages.seen c.number.new.pages in
    let d = g.P.Pages.seen c.put_at.new.pages in
    let all = link_then T a b d 0 16 16 c.args.link.0 (omega arith) c.requires.meta c.number.ensures.looks c.in_ok-put.ensures.changes in
    omega (arith, all.edits.spare, c.requires.room)

pub returns-in-Split-clause-changes : goal.returns-in-Split-clause-changes
returns-in-Split-clause-changes g c =
    let T = g.P.Pages.tells in
    let a = g.P.Pages.seen c.args.pages.now in
    let b = g.P.Pages.seen c.number.new.pages in
    let d = g.P.Pages.seen c.put_at.new.pages in
    let all = link_then T a b d 0 16 16 c.args.link.0 (omega arith) c.requires.meta c.number.ensures.looks c.in_ok-put.ensures.changes in
    let e = g.P.Pages.seen c.grow.new.pages in
    let right = (subst (HasLevels 8) {y = Split c.in-Split.part} c.in-Split.is c.in_ok-put.ensures.levels).1 in
    IfOk-weaker c.grow.result _ _ (λ was grows. changes_root T a d e c.args.cache 16 17 _ c.in-Split.part.from _ (omega arith) (λ link. link) all grows.2.makes
    (λ link small. top_root T d e c.args.cache c.args.root c.in-Split.part c.requires.some right small grows.2)) c.grow.ensures.grows

pub returns-in-Split-clause-puts : goal.returns-in-Split-clause-puts
returns-in-Split-clause-puts g c =
    let T = g.P.Pages.tells in
    let a = g.P.Pages.seen c.args.pages.now in
    let b = g.P.Pages.seen c.number.new.pages in
    let d = g.P.Pages.seen c.put_at.new.pages in
    let all = link_then T a b d 0 16 16 c.args.link.0 (omega arith) c.requires.meta c.number.ensures.looks c.in_ok-put.ensures.changes in
    let e = g.P.Pages.seen c.grow.new.pages in
    IfOk-weaker c.grow.result _ _ (λ was grows t height nodes items index.
    let puts = puts_looked T a b d 0 8 c.args.root c.args.key.now c.args.link.0 c.in_ok-put.put t c.number.ensures.looks (c.in_ok-put.ensures.puts t) in
    let split = subst (PutsFor a.pages d.pages (half_of a.page_size) 8 c.args.root c.args.key.now c.args.link.0) {y = Split c.in-Split.part} c.in-Split.is puts in
    subst (PutsIndex a.pages e.pages c.args.cache nodes items c.args.key.now c.args.link.0) (sym grows.0)
    (grows_height T a d e c.args.cache c.args.root c.args.key.now c.args.link.0 16 t c.requires.meta c.requires.cache c.requires.root c.requires.some all c.in-Split.part c.put_at.ensures.readable split grows.1 grows.2 height nodes items index)) c.grow.ensures.grows

pub returns-in-Split-clause-cause : goal.returns-in-Split-clause-cause
returns-in-Split-clause-cause g c =
    let T = g.P.Pages.tells in
    let a = g.P.Pages.seen c.args.pages.now in
    let b = g.P.Pages.seen c.number.new.pages in
    let d = g.P.Pages.seen c.put_at.new.pages in
    let all = link_then T a b d 0 16 16 c.args.link.0 (omega arith) c.requires.meta c.number.ensures.looks c.in_ok-put.ensures.changes in
    let e = g.P.Pages.seen c.grow.new.pages in
    grow_cause T a d e c.args.cache c.args.root c.args.key.now c.args.link.0 16 c.in-Split.part c.grow.result c.requires.root c.requires.some all
    (λ t. subst (PutsFor a.pages d.pages (half_of a.page_size) 8 c.args.root c.args.key.now c.args.link.0) {y = Split c.in-Split.part} c.in-Split.is
    (puts_looked T a b d 0 8 c.args.root c.args.key.now c.args.link.0 c.in_ok-put.put t c.number.ensures.looks (c.in_ok-put.ensures.puts t))) c.grow.ensures.cause

pub returns-in_err-count-clause-cause : goal.returns-in_err-count-clause-cause
returns-in_err-count-clause-cause g c =
    let T = g.P.Pages.tells in
    let a = g.P.Pages.seen c.args.pages.now in
    let b = g.P.Pages.seen c.number.new.pages in
    let p = err_from_is_err_and c.from_residual.result c.from_residual.ensures.1 in
    tree_cause T a b c.args.cache c.from_residual.result (put_cause_passed T a b c.args.cache c.number.result c.from_residual.result c.in_err-count.field-0.0 p.0 c.in_err-count.was p.1 p.2 (put_cause_disk T a b c.args.cache c.number.result c.number.ensures.cause))

pub returns-in_err-put-clause-cause : goal.returns-in_err-put-clause-cause
returns-in_err-put-clause-cause g c =
    let T = g.P.Pages.tells in
    let a = g.P.Pages.seen c.args.pages.now in
    let b = g.P.Pages.seen c.number.new.pages in
    let d = g.P.Pages.seen c.put_at.new.pages in
    let ch = changes_looked {G = Unit {0}} T a b 0 c.requires.meta c.number.ensures.looks in
    let p = err_from_is_err_and c.from_residual-in_err-put.result c.from_residual-in_err-put.ensures.1 in
    tree_cause T a d c.args.cache c.from_residual-in_err-put.result (put_cause_passed T a d c.args.cache c.put_at.result c.from_residual-in_err-put.result c.in_err-put.field-0.0 p.0 c.in_err-put.was p.1 p.2 (put_cause_after T a b d 0 c.args.cache c.put_at.result ch.edits c.put_at.ensures.cause))

-- where the key is there
pub returns-in_err-count-clause-sound : goal.returns-in_err-count-clause-sound
returns-in_err-count-clause-sound g c = λ t all height nodes items index held there id e.
    let p = err_from_is_err_and c.from_residual.result c.from_residual.ensures.1 in
    c.number.ensures.cause.not_bad id (bad_passed c.number.result c.from_residual.result c.in_err-count.field-0.0 p.0 c.in_err-count.was p.1 p.2 id e)

pub returns-in_err-put-clause-sound : goal.returns-in_err-put-clause-sound
returns-in_err-put-clause-sound g c = λ t all height nodes items index held there id e.
    let T = g.P.Pages.tells in
    let a = g.P.Pages.seen c.args.pages.now in
    let b = g.P.Pages.seen c.number.new.pages in
    let word = held_word (get_in items c.args.key.now) held there in
    let answers : AnswersFrom b.pages c.args.key.now 8 c.args.root (Some word.0) = subst (AnswersFrom b.pages c.args.key.now 8 c.args.root) word.1
    (index_answers a.pages b.pages c.args.root height nodes items c.args.key.now (pages_told T a b 0 t c.number.ensures.looks) c.requires.some index) in
    let p = err_from_is_err_and c.from_residual-in_err-put.result c.from_residual-in_err-put.ensures.1 in
    c.put_at.ensures.sound (inl (record { told = t; all = passes_looked T a b 0 t c.number.ensures.looks all; held = word.0; answers = answers })) id
    (bad_passed c.put_at.result c.from_residual-in_err-put.result c.in_err-put.field-0.0 p.0 c.in_err-put.was p.1 p.2 id e)

pub returns-in-Split-clause-sound : goal.returns-in-Split-clause-sound
returns-in-Split-clause-sound g c = λ t all height nodes items index held there id e.
    let T = g.P.Pages.tells in
    let a = g.P.Pages.seen c.args.pages.now in
    let b = g.P.Pages.seen c.number.new.pages in
    let word = held_word (get_in items c.args.key.now) held there in
    let answers : AnswersFrom b.pages c.args.key.now 8 c.args.root (Some word.0) = subst (AnswersFrom b.pages c.args.key.now 8 c.args.root) word.1
    (index_answers a.pages b.pages c.args.root height nodes items c.args.key.now (pages_told T a b 0 t c.number.ensures.looks) c.requires.some index) in
    subst IsKept {y = Split c.in-Split.part} c.in-Split.is (c.in_ok-put.ensures.keeps t word.0 answers).kept

-- where pages can be taken
pub returns-in_err-count-clause-sound_with_room : goal.returns-in_err-count-clause-sound_with_room
returns-in_err-count-clause-sound_with_room g c = λ may id e.
    let p = err_from_is_err_and c.from_residual.result c.from_residual.ensures.1 in
    c.number.ensures.cause.not_bad id (bad_passed c.number.result c.from_residual.result c.in_err-count.field-0.0 p.0 c.in_err-count.was p.1 p.2 id e)

pub returns-in_err-put-clause-sound_with_room : goal.returns-in_err-put-clause-sound_with_room
returns-in_err-put-clause-sound_with_room g c = λ may id e.
    let p = err_from_is_err_and c.from_residual-in_err-put.result c.from_residual-in_err-put.ensures.1 in
    c.put_at.ensures.sound (inr (may_grow_root g.P.Pages.tells (g.P.Pages.seen c.args.pages.now) (g.P.Pages.seen c.number.new.pages) 0 c.args.root c.requires.some c.number.ensures.looks may)) id
    (bad_passed c.put_at.result c.from_residual-in_err-put.result c.in_err-put.field-0.0 p.0 c.in_err-put.was p.1 p.2 id e)

pub returns-in-Split-clause-sound_with_room : goal.returns-in-Split-clause-sound_with_room
returns-in-Split-clause-sound_with_room g c = λ may.
    let T = g.P.Pages.tells in
    let a = g.P.Pages.seen c.args.pages.now in
    let b = g.P.Pages.seen c.number.new.pages in
    let d = g.P.Pages.seen c.put_at.new.pages in
    let puts : PutsFor b.pages d.pages (half_of b.page_size) 8 c.args.root c.args.key.now c.args.link.0 (Split c.in-Split.part) =
    subst (PutsFor b.pages d.pages (half_of b.page_size) 8 c.args.root c.args.key.now c.args.link.0) {y = Split c.in-Split.part} c.in-Split.is (c.in_ok-put.ensures.puts may.told) in
    c.grow.ensures.sound (not_tall T b d c.args.root c.args.key.now c.args.link.0 c.in-Split.part c.requires.some c.number.ensures.readable (meta_looked T a b 0 c.number.ensures.looks c.requires.meta) (may_put_looked T a b 0 c.args.root c.number.ensures.looks may) puts)
    (may_take_root T a b d 0 c.args.root c.number.ensures.looks c.in_ok-put.ensures.changes may)

-- where the key is there, and pages pass
pub returns-in-Kept-clause-passes : goal.returns-in-Kept-clause-passes
returns-in-Kept-clause-passes g c = λ t height nodes items index held there link stored.
    let T = g.P.Pages.tells in
    let a = g.P.Pages.seen c.args.pages.now in
    let b = g.P.Pages.seen c.number.new.pages in
    let looks = c.number.ensures.looks in
    let word = held_word (get_in items c.args.key.now) held there in
    let answers : AnswersFrom b.pages c.args.key.now 8 c.args.root (Some word.0) = subst (AnswersFrom b.pages c.args.key.now 8 c.args.root) word.1
    (index_answers a.pages b.pages c.args.root height nodes items c.args.key.now (pages_told T a b 0 t looks) c.requires.some index) in
    (c.in_ok-put.ensures.keeps t word.0 answers).passes (subst (λ n. IsLink n c.args.link.0) (sym looks.same.part) link) (stored_looked T a b 0 t looks stored)

pub returns-in-Split-clause-passes : goal.returns-in-Split-clause-passes
returns-in-Split-clause-passes g c =
    let T = g.P.Pages.tells in
    let a = g.P.Pages.seen c.args.pages.now in
    let b = g.P.Pages.seen c.number.new.pages in
    IfOk-weaker c.grow.result _ _ (λ was grows t height nodes items index held there link stored.
    let word = held_word (get_in items c.args.key.now) held there in
    let answers : AnswersFrom b.pages c.args.key.now 8 c.args.root (Some word.0) = subst (AnswersFrom b.pages c.args.key.now 8 c.args.root) word.1
    (index_answers a.pages b.pages c.args.root height nodes items c.args.key.now (pages_told T a b 0 t c.number.ensures.looks) c.requires.some index) in
    absurd (subst IsKept {y = Split c.in-Split.part} c.in-Split.is (c.in_ok-put.ensures.keeps t word.0 answers).kept)) c.grow.ensures.grows
