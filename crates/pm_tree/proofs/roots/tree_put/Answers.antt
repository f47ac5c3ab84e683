use Rattle.std.proofs.Common.{◌≡◌, ℕ, ◌+◌, ◌*◌, ◌^◌, ◌<◌, inl, inr, arith, subst, sym, ap, ◌∙◌}
use Rattle.std.proofs.lemmas.Result.{IfOk-weaker, on_ok_weaker, err_from_is_err_and}
use Rattle.pm_meta.specs.declared.slots.MetaSlot.TheVariants.{Root}
use Rattle.pm_pages.specs.Edits.{IsNumberIn}
use Rattle.pm_pages.specs.Rows.{Partition}
use Rattle.pm_pages.specs.Trees.{root_of}
use Rattle.pm_tree.specs.Indexes.{IsIndex}
use Rattle.pm_tree.specs.Roots.{PutsIndex}
use Rattle.pm_pages.proofs.ToldPages.{number_told, pages_told}
use Rattle.pm_tree.proofs.Climbs.{put_cause_disk, put_cause_passed}
use Rattle.pm_tree.proofs.IndexPuts.{root_changes_looked, tree_cause, tree_cause_looked}
use Rattle.pm_pages.proofs.PassingLooks.{bad_passed, passes_looked}
use Rattle.pm_tree.proofs.SoundPuts.{none_held}
use Rattle.pm_pages.proofs.SpareRoom.{may_take, may_take_looked}
use Rattle.pm_tree.proofs.GrownTrees.{can_take_spare, limit_small, may_put_below, may_put_looked}
use Rattle.pm_btpage.specs.Stored.{IsLink}
use Rattle.pm_pages.proofs.StoredPages.{stored_looked}
use Rattle.pm_tree.proofs.StoredPuts.{on_ok_both, passes_room, no_key}
use Rattle.pm_tree.proofs.roots.tree_put.Goals as goal

pub returns-then-root-eq0-clause-changes : goal.returns-then-root-eq0-clause-changes
returns-then-root-eq0-clause-changes g c =
    let T = g.P.Pages.tells in
    let a = g.P.Pages.seen c.args.pages.now in
    let b = g.P.Pages.seen c.number.new.pages in
    let d = g.P.Pages.seen c.plant.new.pages in
    on_ok_weaker c.plant.result (λ ch. root_changes_looked T a b d c.args.cache 17 c.args.link.0 c.requires.meta c.number.ensures.looks ch) c.plant.ensures.changes

pub returns-then-root-eq0-clause-puts : goal.returns-then-root-eq0-clause-puts
returns-then-root-eq0-clause-puts g c =
    let T = g.P.Pages.tells in
    let a = g.P.Pages.seen c.args.pages.now in
    let b = g.P.Pages.seen c.number.new.pages in
    let d = g.P.Pages.seen c.plant.new.pages in
    IfOk-weaker c.plant.result _ _ (λ was puts t height nodes items index.
    let same = pages_told T a b 0 t c.number.ensures.looks in
    let root_told : root_of a.pages c.args.cache ≡ c.in_ok-root.root = ap (λ (q : Partition). root_of q c.args.cache) (sym same) ∙ number_told b (Root c.args.cache) c.in_ok-root.root c.in_ok-root.ensures.number in
    let index_b : IsIndex b.pages 0 height nodes items = subst (λ (q : Partition × ℕ). IsIndex q.0 q.1 height nodes items) {x = (a.pages, root_of a.pages c.args.cache)} {y = (b.pages, 0)} (λ z. (sym same z, (root_told ∙ c.if-root-eq0.true) z)) index in
    subst (λ (q : Partition). PutsIndex q d.pages c.args.cache nodes items c.args.key.now c.args.link.0 was) same (puts t height nodes items index_b)) c.plant.ensures.puts

pub returns-then-root-eq0-clause-cause : goal.returns-then-root-eq0-clause-cause
returns-then-root-eq0-clause-cause g c =
    let T = g.P.Pages.tells in
    let a = g.P.Pages.seen c.args.pages.now in
    let b = g.P.Pages.seen c.number.new.pages in
    let d = g.P.Pages.seen c.plant.new.pages in
    tree_cause_looked T a b d c.args.cache c.plant.result c.requires.meta c.number.ensures.looks c.plant.ensures.cause

pub returns-else-root-eq0-clause-changes : goal.returns-else-root-eq0-clause-changes
returns-else-root-eq0-clause-changes g c =
    let T = g.P.Pages.tells in
    let a = g.P.Pages.seen c.args.pages.now in
    let b = g.P.Pages.seen c.number.new.pages in
    let d = g.P.Pages.seen c.put_below.new.pages in
    on_ok_weaker c.put_below.result (λ ch. root_changes_looked T a b d c.args.cache 17 c.args.link.0 c.requires.meta c.number.ensures.looks ch) c.put_below.ensures.changes

pub returns-else-root-eq0-clause-puts : goal.returns-else-root-eq0-clause-puts
returns-else-root-eq0-clause-puts g c =
    let T = g.P.Pages.tells in
    let a = g.P.Pages.seen c.args.pages.now in
    let b = g.P.Pages.seen c.number.new.pages in
    let d = g.P.Pages.seen c.put_below.new.pages in
    IfOk-weaker c.put_below.result _ _ (λ was puts t height nodes items index.
    let same = pages_told T a b 0 t c.number.ensures.looks in
    let root_told : root_of a.pages c.args.cache ≡ c.in_ok-root.root = ap (λ (q : Partition). root_of q c.args.cache) (sym same) ∙ number_told b (Root c.args.cache) c.in_ok-root.root c.in_ok-root.ensures.number in
    let index_b : IsIndex b.pages c.in_ok-root.root height nodes items = subst (λ (q : Partition × ℕ). IsIndex q.0 q.1 height nodes items) {x = (a.pages, root_of a.pages c.args.cache)} {y = (b.pages, c.in_ok-root.root)} (λ z. (sym same z, (root_told) z)) index in
    subst (λ (q : Partition). PutsIndex q d.pages c.args.cache nodes items c.args.key.now c.args.link.0 was) same (puts t height nodes items index_b)) c.put_below.ensures.puts

pub returns-else-root-eq0-clause-cause : goal.returns-else-root-eq0-clause-cause
returns-else-root-eq0-clause-cause g c =
    let T = g.P.Pages.tells in
    let a = g.P.Pages.seen c.args.pages.now in
    let b = g.P.Pages.seen c.number.new.pages in
    let d = g.P.Pages.seen c.put_below.new.pages in
    tree_cause_looked T a b d c.args.cache c.put_below.result c.requires.meta c.number.ensures.looks c.put_below.ensures.cause

pub returns-in_err-root-clause-cause : goal.returns-in_err-root-clause-cause
returns-in_err-root-clause-cause g c =
    let T = g.P.Pages.tells in
    let a = g.P.Pages.seen c.args.pages.now in
    let b = g.P.Pages.seen c.number.new.pages in
    let p = err_from_is_err_and c.from_residual.result c.from_residual.ensures.1 in
    tree_cause T a b c.args.cache c.from_residual.result (put_cause_passed T a b c.args.cache c.number.result c.from_residual.result c.in_err-root.field-0.0 p.0 c.in_err-root.was p.1 p.2 (put_cause_disk T a b c.args.cache c.number.result c.number.ensures.cause))

pub plant-requires-clause-root : goal.plant-requires-clause-root
plant-requires-clause-root g c =
    subst (IsNumberIn (g.P.Pages.seen c.number.new.pages) (Root c.args.cache)) c.if-root-eq0.true c.in_ok-root.ensures.number

-- where the key is there
pub returns-in_err-root-clause-sound : goal.returns-in_err-root-clause-sound
returns-in_err-root-clause-sound g c = λ t all height nodes items index held there id e.
    let p = err_from_is_err_and c.from_residual.result c.from_residual.ensures.1 in
    c.number.ensures.cause.not_bad id (bad_passed c.number.result c.from_residual.result c.in_err-root.field-0.0 p.0 c.in_err-root.was p.1 p.2 id e)

pub returns-then-root-eq0-clause-sound : goal.returns-then-root-eq0-clause-sound
returns-then-root-eq0-clause-sound g c = λ t all height nodes items index held there id e.
    let T = g.P.Pages.tells in
    let a = g.P.Pages.seen c.args.pages.now in
    let b = g.P.Pages.seen c.number.new.pages in
    let same = pages_told T a b 0 t c.number.ensures.looks in
    let root : root_of a.pages c.args.cache ≡ 0 = ap (λ (q : Partition). root_of q c.args.cache) (sym same) ∙ number_told b (Root c.args.cache) c.in_ok-root.root c.in_ok-root.ensures.number ∙ c.if-root-eq0.true in
    none_held a.pages height nodes items c.args.key.now held (subst (λ n. IsIndex a.pages n height nodes items) root index) there

pub returns-else-root-eq0-clause-sound : goal.returns-else-root-eq0-clause-sound
returns-else-root-eq0-clause-sound g c = λ t all height nodes items index held there id e.
    let T = g.P.Pages.tells in
    let a = g.P.Pages.seen c.args.pages.now in
    let b = g.P.Pages.seen c.number.new.pages in
    let same = pages_told T a b 0 t c.number.ensures.looks in
    let root : root_of a.pages c.args.cache ≡ c.in_ok-root.root = ap (λ (q : Partition). root_of q c.args.cache) (sym same) ∙ number_told b (Root c.args.cache) c.in_ok-root.root c.in_ok-root.ensures.number in
    let index_b : IsIndex b.pages c.in_ok-root.root height nodes items = subst (λ (q : Partition × ℕ). IsIndex q.0 q.1 height nodes items) {x = (a.pages, root_of a.pages c.args.cache)} {y = (b.pages, c.in_ok-root.root)} (λ z. (sym same z, root z)) index in
    c.put_below.ensures.sound t (passes_looked T a b 0 t c.number.ensures.looks all) height nodes items index_b held there id e

-- where pages can be taken
pub returns-in_err-root-clause-sound_with_room : goal.returns-in_err-root-clause-sound_with_room
returns-in_err-root-clause-sound_with_room g c = λ t spare height nodes items index few id e.
    let p = err_from_is_err_and c.from_residual.result c.from_residual.ensures.1 in
    c.number.ensures.cause.not_bad id (bad_passed c.number.result c.from_residual.result c.in_err-root.field-0.0 p.0 c.in_err-root.was p.1 p.2 id e)

pub returns-then-root-eq0-clause-sound_with_room : goal.returns-then-root-eq0-clause-sound_with_room
returns-then-root-eq0-clause-sound_with_room g c = λ t spare height nodes items index few.
    let T = g.P.Pages.tells in
    let a = g.P.Pages.seen c.args.pages.now in
    let b = g.P.Pages.seen c.number.new.pages in
    let take = can_take_spare a 17 c.requires.meta spare in
    c.plant.ensures.sound (may_take_looked T a b 0 c.number.ensures.looks (may_take T a (2 * a.max_rows + 256) 17 t (limit_small a.max_rows spare.rows) (omega arith) take))

pub returns-else-root-eq0-clause-sound_with_room : goal.returns-else-root-eq0-clause-sound_with_room
returns-else-root-eq0-clause-sound_with_room g c = λ t spare height nodes items index few.
    let T = g.P.Pages.tells in
    let a = g.P.Pages.seen c.args.pages.now in
    let b = g.P.Pages.seen c.number.new.pages in
    let same = pages_told T a b 0 t c.number.ensures.looks in
    let root : root_of a.pages c.args.cache ≡ c.in_ok-root.root = ap (λ (q : Partition). root_of q c.args.cache) (sym same) ∙ number_told b (Root c.args.cache) c.in_ok-root.root c.in_ok-root.ensures.number in
    c.put_below.ensures.sound_with_room (may_put_looked T a b 0 c.in_ok-root.root c.number.ensures.looks (may_put_below T a c.in_ok-root.root t c.requires.meta spare height nodes items (subst (λ n. IsIndex a.pages n height nodes items) root index) few))

-- pages pass still
pub returns-then-root-eq0-clause-passes : goal.returns-then-root-eq0-clause-passes
returns-then-root-eq0-clause-passes g c =
    let T = g.P.Pages.tells in
    let a = g.P.Pages.seen c.args.pages.now in
    let b = g.P.Pages.seen c.number.new.pages in
    let d = g.P.Pages.seen c.plant.new.pages in
    let part : a.part < 2 ^ 16 = omega (arith, c.part-part.type_inv, c.part-part.ensures) in
    on_ok_weaker c.plant.result (λ ch t link may.
    let root : root_of a.pages c.args.cache ≡ 0 = ap (λ (q : Partition). root_of q c.args.cache) (sym (pages_told T a b 0 t c.number.ensures.looks)) ∙ number_told b (Root c.args.cache) c.in_ok-root.root c.in_ok-root.ensures.number ∙ c.if-root-eq0.true in
    elim may [
      | inl spare ↦ passes_room T a d c.args.cache c.args.link.0 t part c.requires.meta (root_changes_looked T a b d c.args.cache 17 c.args.link.0 c.requires.meta c.number.ensures.looks ch) link spare
      | inr has ↦ absurd (no_key a.pages c.args.cache c.args.key.now root has.2)
    ]) c.plant.ensures.changes

pub returns-else-root-eq0-clause-passes : goal.returns-else-root-eq0-clause-passes
returns-else-root-eq0-clause-passes g c =
    let T = g.P.Pages.tells in
    let a = g.P.Pages.seen c.args.pages.now in
    let b = g.P.Pages.seen c.number.new.pages in
    let d = g.P.Pages.seen c.put_below.new.pages in
    let looks = c.number.ensures.looks in
    let part : a.part < 2 ^ 16 = omega (arith, c.part-part.type_inv, c.part-part.ensures) in
    on_ok_both c.put_below.result c.put_below.ensures.changes c.put_below.ensures.passes (λ ch passes t link may.
    let same = pages_told T a b 0 t looks in
    let root : root_of a.pages c.args.cache ≡ c.in_ok-root.root = ap (λ (q : Partition). root_of q c.args.cache) (sym same) ∙ number_told b (Root c.args.cache) c.in_ok-root.root c.in_ok-root.ensures.number in
    elim may [
      | inl spare ↦ passes_room T a d c.args.cache c.args.link.0 t part c.requires.meta (root_changes_looked T a b d c.args.cache 17 c.args.link.0 c.requires.meta looks ch) link spare
      | inr has ↦
          let key = has.2 in
          let index_b : IsIndex b.pages c.in_ok-root.root key.height key.nodes key.items = subst (λ (q : Partition × ℕ). IsIndex q.0 q.1 key.height key.nodes key.items) {x = (a.pages, root_of a.pages c.args.cache)} {y = (b.pages, c.in_ok-root.root)} (λ z. (sym same z, root z)) key.index in
          (passes t key.height key.nodes key.items index_b key.held key.is (subst (λ n. IsLink n c.args.link.0) (sym looks.same.part) link)
          (stored_looked T a b 0 t looks (record { all = has.0; rows = has.1; part = part }))).all
    ])
