use Rattle.std.proofs.Common.{refl, subst, arith}
use Rattle.std.proofs.lemmas.Result.{err_from_is_err_and}
use Rattle.pm_types.specs.PageSizes.{IsPageSize}
use Rattle.pm_meta.specs.declared.slots.MetaSlot.TheVariants.{Root, Pages}
use Rattle.pm_pages.proofs.TakenPages.{number_looked}
use Rattle.pm_tree.specs.Puts.{half_of}
use Rattle.pm_tree_del.specs.declared.remove.Removal.TheVariants.{Absent, Kept, Small}
use Rattle.pm_tree_del.specs.Removes.{RemovesFor}
use Rattle.pm_tree_del.proofs.Removing.{changes_looked, changes_then, removes_looked, remove_cause_disk, remove_cause_after, remove_cause_passed}
use Rattle.pm_tree_del.proofs.Settled.{root_changed, root_then}
use Rattle.pm_tree_del.proofs.IndexCalls.{absent_height, kept_height, settled_height}
use Rattle.pm_pages.proofs.SoundPages.{sound_looked, no_bad_passed}
use Rattle.pm_tree.proofs.SoundTrees.{tree_looked, index_tree}
use Rattle.pm_tree_del.proofs.SoundRemovals.{small_tree}
use Rattle.pm_tree_del.proofs.roots.remove_below.Goals as goal

pub remove_at-requires-clause-path : goal.remove_at-requires-clause-path
remove_at-requires-clause-path g c =
    let T = g.P.Pages.tells in
    let a = g.P.Pages.seen c.args.pages.now in
    let b = g.P.Pages.seen c.number.new.pages in
    (refl, number_looked T a b 0 (Root c.args.cache) c.args.root c.number.ensures.looks c.requires.root)

pub remove_at-requires-clause-room : goal.remove_at-requires-clause-room
remove_at-requires-clause-room g c =
    let T = g.P.Pages.tells in
    let a = g.P.Pages.seen c.args.pages.now in
    let b = g.P.Pages.seen c.number.new.pages in
    omega (arith, c.number.ensures.looks.spare, c.requires.room)

pub returns-in-Absent-clause-changes : goal.returns-in-Absent-clause-changes
returns-in-Absent-clause-changes g c =
    let T = g.P.Pages.tells in
    let a = g.P.Pages.seen c.args.pages.now in
    let b = g.P.Pages.seen c.number.new.pages in
    let d = g.P.Pages.seen c.remove_at.new.pages in
    let all = changes_then T a b d 0 15 15 (omega arith) (changes_looked T a b 0 c.requires.meta c.number.ensures.looks) c.in_ok-remove_at.ensures.changes in
    root_changed T a d c.args.cache 15 all

pub returns-in-Kept-clause-changes : goal.returns-in-Kept-clause-changes
returns-in-Kept-clause-changes g c =
    let T = g.P.Pages.tells in
    let a = g.P.Pages.seen c.args.pages.now in
    let b = g.P.Pages.seen c.number.new.pages in
    let d = g.P.Pages.seen c.remove_at.new.pages in
    let all = changes_then T a b d 0 15 15 (omega arith) (changes_looked T a b 0 c.requires.meta c.number.ensures.looks) c.in_ok-remove_at.ensures.changes in
    root_changed T a d c.args.cache 15 all

pub returns-in-Absent-clause-removes : goal.returns-in-Absent-clause-removes
returns-in-Absent-clause-removes g c = λ t height nodes items index.
    let T = g.P.Pages.tells in
    let a = g.P.Pages.seen c.args.pages.now in
    let b = g.P.Pages.seen c.number.new.pages in
    let d = g.P.Pages.seen c.remove_at.new.pages in
    let all = changes_then T a b d 0 15 15 (omega arith) (changes_looked T a b 0 c.requires.meta c.number.ensures.looks) c.in_ok-remove_at.ensures.changes in
    let removes = removes_looked T a b d 0 8 c.args.root c.args.key.now c.in_ok-remove_at.field-0 t c.number.ensures.looks (c.in_ok-remove_at.ensures.removes t) in
    let is = subst (RemovesFor a.pages d.pages (half_of a.page_size) 8 c.args.root c.args.key.now) {y = Absent} c.in-Absent.is removes in
    absent_height T a d d c.args.cache c.args.root c.args.key.now t c.requires.meta c.requires.cache c.requires.root c.requires.some 15 all c.remove_at.ensures.readable (subst IsPageSize c.page_size-size.ensures.size c.page_size-size.ensures.page_size) is height nodes items index

pub returns-in-Kept-clause-removes : goal.returns-in-Kept-clause-removes
returns-in-Kept-clause-removes g c = λ t height nodes items index.
    let T = g.P.Pages.tells in
    let a = g.P.Pages.seen c.args.pages.now in
    let b = g.P.Pages.seen c.number.new.pages in
    let d = g.P.Pages.seen c.remove_at.new.pages in
    let all = changes_then T a b d 0 15 15 (omega arith) (changes_looked T a b 0 c.requires.meta c.number.ensures.looks) c.in_ok-remove_at.ensures.changes in
    let removes = removes_looked T a b d 0 8 c.args.root c.args.key.now c.in_ok-remove_at.field-0 t c.number.ensures.looks (c.in_ok-remove_at.ensures.removes t) in
    let is = subst (RemovesFor a.pages d.pages (half_of a.page_size) 8 c.args.root c.args.key.now) {y = Kept c.in-Kept.was} c.in-Kept.is removes in
    kept_height T a d d c.args.cache c.args.root c.args.key.now t c.requires.meta c.requires.cache c.requires.root c.requires.some 15 all c.remove_at.ensures.readable (subst IsPageSize c.page_size-size.ensures.size c.page_size-size.ensures.page_size) c.in-Kept.was is height nodes items index

pub settle-requires-clause-held : goal.settle-requires-clause-held
settle-requires-clause-held g c =
    c.in_ok-remove_at.ensures.held

pub settle-requires-clause-root : goal.settle-requires-clause-root
settle-requires-clause-root g c =
    let T = g.P.Pages.tells in
    let a = g.P.Pages.seen c.args.pages.now in
    let b = g.P.Pages.seen c.number.new.pages in
    let d = g.P.Pages.seen c.remove_at.new.pages in
    let all = changes_then T a b d 0 15 15 (omega arith) (changes_looked T a b 0 c.requires.meta c.number.ensures.looks) c.in_ok-remove_at.ensures.changes in
    all.numbers.others (Root c.args.cache) c.requires.cache (λ e. cc e) c.args.root c.requires.root

pub settle-requires-clause-count : goal.settle-requires-clause-count
settle-requires-clause-count g c =
    let T = g.P.Pages.tells in
    let a = g.P.Pages.seen c.args.pages.now in
    let b = g.P.Pages.seen c.number.new.pages in
    let d = g.P.Pages.seen c.remove_at.new.pages in
    let all = changes_then T a b d 0 15 15 (omega arith) (changes_looked T a b 0 c.requires.meta c.number.ensures.looks) c.in_ok-remove_at.ensures.changes in
    c.in_ok-remove_at.ensures.changes.numbers.others Pages tt (λ e. cc e) c.in_ok-count.count c.in_ok-count.ensures.number

pub returns-in_ok-settle-in-Small-clause-changes : goal.returns-in_ok-settle-in-Small-clause-changes
returns-in_ok-settle-in-Small-clause-changes g c =
    let T = g.P.Pages.tells in
    let a = g.P.Pages.seen c.args.pages.now in
    let b = g.P.Pages.seen c.number.new.pages in
    let d = g.P.Pages.seen c.remove_at.new.pages in
    let all = changes_then T a b d 0 15 15 (omega arith) (changes_looked T a b 0 c.requires.meta c.number.ensures.looks) c.in_ok-remove_at.ensures.changes in
    let e = g.P.Pages.seen c.settle.new.pages in
    root_then T a d e c.args.cache 15 0 15 (omega arith) (root_changed T a d c.args.cache 15 all) c.in_ok-settle-in-Small.ensures.changes

pub returns-in_ok-settle-in-Small-clause-removes : goal.returns-in_ok-settle-in-Small-clause-removes
returns-in_ok-settle-in-Small-clause-removes g c = λ t height nodes items index.
    let T = g.P.Pages.tells in
    let a = g.P.Pages.seen c.args.pages.now in
    let b = g.P.Pages.seen c.number.new.pages in
    let d = g.P.Pages.seen c.remove_at.new.pages in
    let all = changes_then T a b d 0 15 15 (omega arith) (changes_looked T a b 0 c.requires.meta c.number.ensures.looks) c.in_ok-remove_at.ensures.changes in
    let e = g.P.Pages.seen c.settle.new.pages in
    let removes = removes_looked T a b d 0 8 c.args.root c.args.key.now c.in_ok-remove_at.field-0 t c.number.ensures.looks (c.in_ok-remove_at.ensures.removes t) in
    let is = subst (RemovesFor a.pages d.pages (half_of a.page_size) 8 c.args.root c.args.key.now) {y = Small c.in-Small.was} c.in-Small.is removes in
    settled_height T a d e c.args.cache c.args.root c.args.key.now t c.requires.meta c.requires.cache c.requires.root c.requires.some 15 all c.remove_at.ensures.readable (subst IsPageSize c.page_size-size.ensures.size c.page_size-size.ensures.page_size) c.in-Small.was is c.in_ok-settle-in-Small.ensures.changes c.in_ok-settle-in-Small.ensures.settles height nodes items index

pub returns-in_err-settle-in-Small-clause-cause : goal.returns-in_err-settle-in-Small-clause-cause
returns-in_err-settle-in-Small-clause-cause g c =
    let T = g.P.Pages.tells in
    let a = g.P.Pages.seen c.args.pages.now in
    let b = g.P.Pages.seen c.number.new.pages in
    let d = g.P.Pages.seen c.remove_at.new.pages in
    let all = changes_then T a b d 0 15 15 (omega arith) (changes_looked T a b 0 c.requires.meta c.number.ensures.looks) c.in_ok-remove_at.ensures.changes in
    let e = g.P.Pages.seen c.settle.new.pages in
    let p = err_from_is_err_and c.from_residual-in_err-settle-in-Small.result c.from_residual-in_err-settle-in-Small.ensures.1 in
    remove_cause_passed T a e c.args.cache c.settle.result c.from_residual-in_err-settle-in-Small.result c.in_err-settle-in-Small.field-0.0 p.0 c.in_err-settle-in-Small.was p.1 p.2 (remove_cause_after T a d e 15 c.args.cache c.settle.result all.edits c.settle.ensures.cause)

pub returns-in_err-count-clause-cause : goal.returns-in_err-count-clause-cause
returns-in_err-count-clause-cause g c =
    let T = g.P.Pages.tells in
    let a = g.P.Pages.seen c.args.pages.now in
    let b = g.P.Pages.seen c.number.new.pages in
    let p = err_from_is_err_and c.from_residual.result c.from_residual.ensures.1 in
    remove_cause_passed T a b c.args.cache c.number.result c.from_residual.result c.in_err-count.field-0.0 p.0 c.in_err-count.was p.1 p.2 (remove_cause_disk T a b c.args.cache c.number.result c.number.ensures.cause)

pub returns-in_err-remove_at-clause-cause : goal.returns-in_err-remove_at-clause-cause
returns-in_err-remove_at-clause-cause g c =
    let T = g.P.Pages.tells in
    let a = g.P.Pages.seen c.args.pages.now in
    let b = g.P.Pages.seen c.number.new.pages in
    let d = g.P.Pages.seen c.remove_at.new.pages in
    let x = changes_looked T a b 0 c.requires.meta c.number.ensures.looks in
    let p = err_from_is_err_and c.from_residual-in_err-remove_at.result c.from_residual-in_err-remove_at.ensures.1 in
    remove_cause_passed T a d c.args.cache c.remove_at.result c.from_residual-in_err-remove_at.result c.in_err-remove_at.field-0.0 p.0 c.in_err-remove_at.was p.1 p.2 (remove_cause_after T a b d 0 c.args.cache c.remove_at.result x.edits c.remove_at.ensures.cause)

pub returns-in_err-count-clause-sound : goal.returns-in_err-count-clause-sound
returns-in_err-count-clause-sound g c = λ t sound height nodes items index.
    let p = err_from_is_err_and c.from_residual.result c.from_residual.ensures.1 in
    no_bad_passed c.number.result c.from_residual.result c.in_err-count.field-0.0 p.0 c.in_err-count.was p.1 p.2 (λ id h. c.number.ensures.cause.not_bad id h)

pub returns-in_err-remove_at-clause-sound : goal.returns-in_err-remove_at-clause-sound
returns-in_err-remove_at-clause-sound g c = λ t sound height nodes items index.
    let T = g.P.Pages.tells in
    let a = g.P.Pages.seen c.args.pages.now in
    let b = g.P.Pages.seen c.number.new.pages in
    let looks = c.number.ensures.looks in
    let p = err_from_is_err_and c.from_residual-in_err-remove_at.result c.from_residual-in_err-remove_at.ensures.1 in
    let tree = index_tree a c.args.root (subst IsPageSize c.page_size-size.ensures.size c.page_size-size.ensures.page_size) c.requires.some height nodes items index in
    no_bad_passed c.remove_at.result c.from_residual-in_err-remove_at.result c.in_err-remove_at.field-0.0 p.0 c.in_err-remove_at.was p.1 p.2 (c.remove_at.ensures.sound t (sound_looked T a b 0 t looks sound) (tree_looked T a b 0 8 c.args.root t looks tree))

pub returns-in_err-settle-in-Small-clause-sound : goal.returns-in_err-settle-in-Small-clause-sound
returns-in_err-settle-in-Small-clause-sound g c = λ t sound height nodes items index.
    let T = g.P.Pages.tells in
    let a = g.P.Pages.seen c.args.pages.now in
    let b = g.P.Pages.seen c.number.new.pages in
    let d = g.P.Pages.seen c.remove_at.new.pages in
    let looks = c.number.ensures.looks in
    let p = err_from_is_err_and c.from_residual-in_err-settle-in-Small.result c.from_residual-in_err-settle-in-Small.ensures.1 in
    let removes = removes_looked T a b d 0 8 c.args.root c.args.key.now c.in_ok-remove_at.field-0 t looks (c.in_ok-remove_at.ensures.removes t) in
    let is = subst (RemovesFor a.pages d.pages (half_of a.page_size) 8 c.args.root c.args.key.now) {y = Small c.in-Small.was} c.in-Small.is removes in
    let tree = small_tree a d c.args.root c.in-Small.was c.args.key.now height nodes items (subst IsPageSize c.page_size-size.ensures.size c.page_size-size.ensures.page_size) c.requires.some index is in
    no_bad_passed c.settle.result c.from_residual-in_err-settle-in-Small.result c.in_err-settle-in-Small.field-0.0 p.0 c.in_err-settle-in-Small.was p.1 p.2
    (c.settle.ensures.sound t (c.in_ok-remove_at.ensures.changes.sound t (sound_looked T a b 0 t looks sound)) tree.0 tree.1)
