use Rattle.std.proofs.Common.{refl, subst, ap, ◌∙◌, arith}
use Rattle.std.proofs.lemmas.Result.{on_ok_weaker}
use Rattle.pm_types.specs.Ids.{page_id}
use Rattle.pm_meta.specs.declared.slots.MetaSlot.TheVariants.{Root, Pages}
use Rattle.pm_pages.proofs.TakenPages.{number_looked}
use Rattle.pm_tree_del.specs.declared.tops.Top.TheVariants.{Full, Empty, Only, Other}
use Rattle.pm_tree_del.specs.Roots.{IsTopIn}
use Rattle.pm_tree_del.proofs.Settled.{root_looked, changes_replaced, settles_full, settles_empty, settles_only, cause_given, cause_named, root_no_node}
use Rattle.std.proofs.lemmas.Result.{err_from_is_err_and}
use Rattle.pm_pages.proofs.TakenPages.{meta_looked}
use Rattle.pm_pages.proofs.SoundPages.{sound_looked, sound_not_bad, sound_no_gap, no_bad_passed}
use Rattle.pm_tree.proofs.SoundPages.{node_within}
use Rattle.pm_tree.proofs.SoundTrees.{tree_seen, node_kind}
use Rattle.pm_tree_del.proofs.SoundRemovals.{only_within}
use Rattle.pm_pages.proofs.ToldPages.{number_told}
use Rattle.pm_tree_del.proofs.roots.settle.Goals.{then-child-eq0-via-then-child-eq0, then-child-eq0-via-else-child-eq0+then-child-count}
use Rattle.pm_tree_del.proofs.roots.settle.Goals as goal

pub returns-in-Full-clause-changes : goal.returns-in-Full-clause-changes
returns-in-Full-clause-changes g c = root_looked g.P.Pages.tells (g.P.Pages.seen c.args.pages.now) (g.P.Pages.seen c.find_top.new.pages) c.args.cache 0 c.find_top.ensures.looks

pub returns-in-Full-clause-settles : goal.returns-in-Full-clause-settles
returns-in-Full-clause-settles g c =
    let T = g.P.Pages.tells in
    let a = g.P.Pages.seen c.args.pages.now in
    let b = g.P.Pages.seen c.find_top.new.pages in
    settles_full T a b c.args.cache c.args.root c.requires.held.known c.find_top.ensures.looks (subst (IsTopIn b c.args.root) {y = Full} c.in-Full.is c.in_ok-find_top.ensures.top)

pub returns-in-Empty-clause-changes : goal.returns-in-Empty-clause-changes
returns-in-Empty-clause-changes g c =
    let T = g.P.Pages.tells in
    let a = g.P.Pages.seen c.args.pages.now in
    let b = g.P.Pages.seen c.find_top.new.pages in
    let d = g.P.Pages.seen c.replace_root.new.pages in
    on_ok_weaker c.replace_root.result (λ rep. changes_replaced T a b d c.args.cache c.args.root 0 c.requires.meta c.requires.held.asked c.requires.cache c.requires.held.some c.requires.root (λ n is some. omega (arith, some)) c.find_top.ensures.looks rep) c.replace_root.ensures.replaces

pub returns-in-Empty-clause-settles : goal.returns-in-Empty-clause-settles
returns-in-Empty-clause-settles g c =
    let T = g.P.Pages.tells in
    let a = g.P.Pages.seen c.args.pages.now in
    let b = g.P.Pages.seen c.find_top.new.pages in
    let d = g.P.Pages.seen c.replace_root.new.pages in
    on_ok_weaker c.replace_root.result (λ rep. settles_empty T a b d c.args.cache c.args.root c.requires.meta c.requires.held.known c.find_top.ensures.looks (subst (IsTopIn b c.args.root) {y = Empty} c.in-Empty.is c.in_ok-find_top.ensures.top) rep) c.replace_root.ensures.replaces

pub returns-in-Empty-clause-cause : goal.returns-in-Empty-clause-cause
returns-in-Empty-clause-cause g c =
    let T = g.P.Pages.tells in
    let a = g.P.Pages.seen c.args.pages.now in
    let b = g.P.Pages.seen c.find_top.new.pages in
    let d = g.P.Pages.seen c.replace_root.new.pages in
    cause_given T a b d c.args.cache c.args.root c.replace_root.result c.find_top.ensures.looks c.replace_root.ensures.cause

pub returns-in-Other-clause-cause : goal.returns-in-Other-clause-cause
returns-in-Other-clause-cause g c =
    let T = g.P.Pages.tells in
    let a = g.P.Pages.seen c.args.pages.now in
    let b = g.P.Pages.seen c.find_top.new.pages in
    let number = number_looked T a b 0 (Root c.args.cache) c.args.root c.find_top.ensures.looks c.requires.root in
    cause_named T a b c.args.cache c.new-in-Other.result _ refl (root_no_node b c.args.cache c.args.root c.new-in-Other.result (c.new-in-Other.ensures ∙ ap (λ n. page_id n 0) c.part-in-Other.ensures) number (subst (IsTopIn b c.args.root) {y = Other} c.in-Other.is c.in_ok-find_top.ensures.top))

pub returns-else-child-count-clause-changes : goal.returns-else-child-count-clause-changes
returns-else-child-count-clause-changes g c =
    let T = g.P.Pages.tells in
    let a = g.P.Pages.seen c.args.pages.now in
    let b = g.P.Pages.seen c.find_top.new.pages in
    let d = g.P.Pages.seen c.replace_root-in-Only.new.pages in
    on_ok_weaker c.replace_root-in-Only.result (λ rep. changes_replaced T a b d c.args.cache c.args.root c.in-Only.child c.requires.meta c.requires.held.asked c.requires.cache c.requires.held.some c.requires.root
    (λ n is some. omega (arith, number_told a Pages n is, number_told a Pages c.args.count c.requires.count, c.if-child-count.false)) c.find_top.ensures.looks rep) c.replace_root-in-Only.ensures.replaces

pub returns-else-child-count-clause-settles : goal.returns-else-child-count-clause-settles
returns-else-child-count-clause-settles g c =
    let T = g.P.Pages.tells in
    let a = g.P.Pages.seen c.args.pages.now in
    let b = g.P.Pages.seen c.find_top.new.pages in
    let d = g.P.Pages.seen c.replace_root-in-Only.new.pages in
    let child = c.in-Only.child in
    on_ok_weaker c.replace_root-in-Only.result
    (λ rep. settles_only T a b d c.args.cache c.args.root child c.args.count c.requires.meta c.requires.held.known c.find_top.ensures.looks (subst (IsTopIn b c.args.root) {y = Only child} c.in-Only.is c.in_ok-find_top.ensures.top) c.requires.count
    (omega (arith, c.if-child-eq0.false)) (omega (arith, c.if-child-count.false)) rep)
    c.replace_root-in-Only.ensures.replaces

pub returns-in_err-find_top-clause-sound : goal.returns-in_err-find_top-clause-sound
returns-in_err-find_top-clause-sound g c = λ t sound height tree.
    let T = g.P.Pages.tells in
    let a = g.P.Pages.seen c.args.pages.now in
    let p = err_from_is_err_and c.from_residual.result c.from_residual.ensures.1 in
    no_bad_passed c.find_top.result c.from_residual.result c.in_err-find_top.field-0.0 p.0 c.in_err-find_top.was p.1 p.2
    (λ id h. sound_not_bad T a c.args.root id t sound (node_within a height 0 c.args.root c.requires.readable c.requires.meta tree).1 (c.find_top.ensures.cause.bad id h))

pub returns-in-Empty-clause-sound : goal.returns-in-Empty-clause-sound
returns-in-Empty-clause-sound g c = λ t sound height tree id h.
    let T = g.P.Pages.tells in
    let a = g.P.Pages.seen c.args.pages.now in
    let b = g.P.Pages.seen c.find_top.new.pages in
    let looks = c.find_top.ensures.looks in
    let tree_b = tree_seen T a b 0 height 0 c.args.root t looks tree in
    sound_no_gap T b c.args.root id t (sound_looked T a b 0 t looks sound) (node_within b height 0 c.args.root c.find_top.ensures.readable (meta_looked T a b 0 looks c.requires.meta) tree_b).1 (c.replace_root.ensures.cause.bad id h)

pub returns-else-child-count-clause-sound : goal.returns-else-child-count-clause-sound
returns-else-child-count-clause-sound g c = λ t sound height tree id h.
    let T = g.P.Pages.tells in
    let a = g.P.Pages.seen c.args.pages.now in
    let b = g.P.Pages.seen c.find_top.new.pages in
    let looks = c.find_top.ensures.looks in
    let tree_b = tree_seen T a b 0 height 0 c.args.root t looks tree in
    sound_no_gap T b c.args.root id t (sound_looked T a b 0 t looks sound) (node_within b height 0 c.args.root c.find_top.ensures.readable (meta_looked T a b 0 looks c.requires.meta) tree_b).1 (c.replace_root-in-Only.ensures.cause.bad id h)

pub returns-in-Other-clause-sound : goal.returns-in-Other-clause-sound
returns-in-Other-clause-sound g c = λ t sound height tree id h.
    let T = g.P.Pages.tells in
    let a = g.P.Pages.seen c.args.pages.now in
    let b = g.P.Pages.seen c.find_top.new.pages in
    let looks = c.find_top.ensures.looks in
    let tree_b = tree_seen T a b 0 height 0 c.args.root t looks tree in
    let is = subst (IsTopIn b c.args.root) {y = Other} c.in-Other.is c.in_ok-find_top.ensures.top in
    node_kind b height 0 c.args.root is.page (node_within b height 0 c.args.root c.find_top.ensures.readable (meta_looked T a b 0 looks c.requires.meta) tree_b).1 is.in_hand.page tree_b is.is

pub returns-then-child-eq0-clause-sound : goal.returns-then-child-eq0-clause-sound
returns-then-child-eq0-clause-sound g c = λ t sound height tree id h.
    let T = g.P.Pages.tells in
    let a = g.P.Pages.seen c.args.pages.now in
    let b = g.P.Pages.seen c.find_top.new.pages in
    let looks = c.find_top.ensures.looks in
    let tree_b = tree_seen T a b 0 height 0 c.args.root t looks tree in
    let is = subst (IsTopIn b c.args.root) {y = Only c.in-Only.child} c.in-Only.is c.in_ok-find_top.ensures.top in
    let within = only_within b height 0 c.args.root c.in-Only.child c.find_top.ensures.readable (meta_looked T a b 0 looks c.requires.meta) tree_b is in
    let number = number_looked T a b 0 Pages c.args.count looks c.requires.count in
    elim c.then-child-eq0.branch [
      | then-child-eq0-via-then-child-eq0 w ↦ omega (arith, w.if-child-eq0.true, within.0)
      | then-child-eq0-via-else-child-eq0+then-child-count w ↦ omega (arith, w.if-child-count.true, within.1, number_told b Pages c.args.count number)
    ]
