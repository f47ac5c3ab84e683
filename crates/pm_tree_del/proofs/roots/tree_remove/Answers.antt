use Rattle.std.proofs.Common.{ℕ, ◌^◌, ◌<◌, Option, subst, arith}
use Rattle.std.specs.Prelude.{IfSome, IfNone, IsTrue}
use Rattle.std.proofs.lemmas.Result.{IfOk-weaker, on_ok_weaker, err_from_is_err_and}
use Rattle.pm_meta.specs.declared.slots.MetaSlot.TheVariants.{Root}
use Rattle.pm_pages.specs.Paged.{IsFirstAbsent}
use Rattle.pm_pages.specs.Edits.{IsNumberIn}
use Rattle.pm_pages.proofs.EditedPages.{edits_looked, looks_at_none}
use Rattle.pm_tree_del.proofs.Removing.{remove_cause_page, remove_cause_after, remove_cause_passed}
use Rattle.pm_tree_del.proofs.Settled.{root_looked, root_then, index_looked, none_looked, zero_looked, meta_of}
use Rattle.pm_pages.proofs.PassingLooks.{meta_not_bad, passes_looked}
use Rattle.pm_tree_del.proofs.StoredRemovals.{if_ok_both, count_some, passes_removed}
use Rattle.pm_pages.proofs.SoundPages.{sound_all, sound_looked, no_bad_passed}
use Rattle.pm_tree.proofs.SoundTrees.{index_seen}
use Rattle.pm_tree_del.proofs.roots.tree_remove.Goals as goal

pub returns-in-None-clause-changes : goal.returns-in-None-clause-changes
returns-in-None-clause-changes g c =
    let T = g.P.Pages.tells in
    let a = g.P.Pages.seen c.args.pages.now in
    let b = g.P.Pages.seen c.find_number.new.pages in
    let looks = c.find_number.ensures.looks in
    (let x = root_looked T a b c.args.cache 1 looks in root_then T a b b c.args.cache 1 0 16 (omega arith) x (root_looked T b b c.args.cache 0 (looks_at_none T b)))

pub returns-in-None-clause-removes : goal.returns-in-None-clause-removes
returns-in-None-clause-removes g c = λ t height nodes items index.
    let T = g.P.Pages.tells in
    let a = g.P.Pages.seen c.args.pages.now in
    let b = g.P.Pages.seen c.find_number.new.pages in
    let looks = c.find_number.ensures.looks in
    let absent : IsFirstAbsent T a 0 = subst (λ (o : Option ℕ). IfNone o (IsFirstAbsent T a 0)) c.in-None.is c.in_ok-find_number.ensures.none in
    none_looked T a b c.args.cache 1 c.args.key.now t looks absent height nodes items index

pub returns-then-root-eq0-clause-changes : goal.returns-then-root-eq0-clause-changes
returns-then-root-eq0-clause-changes g c =
    let T = g.P.Pages.tells in
    let a = g.P.Pages.seen c.args.pages.now in
    let b = g.P.Pages.seen c.find_number.new.pages in
    let looks = c.find_number.ensures.looks in
    (let x = root_looked T a b c.args.cache 1 looks in root_then T a b b c.args.cache 1 0 16 (omega arith) x (root_looked T b b c.args.cache 0 (looks_at_none T b)))

pub returns-then-root-eq0-clause-removes : goal.returns-then-root-eq0-clause-removes
returns-then-root-eq0-clause-removes g c = λ t height nodes items index.
    let T = g.P.Pages.tells in
    let a = g.P.Pages.seen c.args.pages.now in
    let b = g.P.Pages.seen c.find_number.new.pages in
    let looks = c.find_number.ensures.looks in
    let number : IsNumberIn b (Root c.args.cache) c.in-Some.root = subst (λ (o : Option ℕ). IfSome o (IsNumberIn b (Root c.args.cache))) c.in-Some.is c.in_ok-find_number.ensures.number in
    zero_looked T a b c.args.cache c.in-Some.root 1 c.args.key.now t looks number c.if-root-eq0.true height nodes items index

pub remove_below-requires-clause-meta : goal.remove_below-requires-clause-meta
remove_below-requires-clause-meta g c =
    let T = g.P.Pages.tells in
    let a = g.P.Pages.seen c.args.pages.now in
    let b = g.P.Pages.seen c.find_number.new.pages in
    let looks = c.find_number.ensures.looks in
    let number : IsNumberIn b (Root c.args.cache) c.in-Some.root = subst (λ (o : Option ℕ). IfSome o (IsNumberIn b (Root c.args.cache))) c.in-Some.is c.in_ok-find_number.ensures.number in
    meta_of b (Root c.args.cache) c.in-Some.root number

pub remove_below-requires-clause-root : goal.remove_below-requires-clause-root
remove_below-requires-clause-root g c =
    let T = g.P.Pages.tells in
    let a = g.P.Pages.seen c.args.pages.now in
    let b = g.P.Pages.seen c.find_number.new.pages in
    let looks = c.find_number.ensures.looks in
    let number : IsNumberIn b (Root c.args.cache) c.in-Some.root = subst (λ (o : Option ℕ). IfSome o (IsNumberIn b (Root c.args.cache))) c.in-Some.is c.in_ok-find_number.ensures.number in
    number

pub returns-else-root-eq0-clause-changes : goal.returns-else-root-eq0-clause-changes
returns-else-root-eq0-clause-changes g c =
    let T = g.P.Pages.tells in
    let a = g.P.Pages.seen c.args.pages.now in
    let b = g.P.Pages.seen c.find_number.new.pages in
    let looks = c.find_number.ensures.looks in
    let d = g.P.Pages.seen c.remove_below.new.pages in
    on_ok_weaker c.remove_below.result (λ x. root_then T a b d c.args.cache 1 15 16 (omega arith) (root_looked T a b c.args.cache 1 looks) x) c.remove_below.ensures.changes

pub returns-else-root-eq0-clause-removes : goal.returns-else-root-eq0-clause-removes
returns-else-root-eq0-clause-removes g c =
    let T = g.P.Pages.tells in
    let a = g.P.Pages.seen c.args.pages.now in
    let b = g.P.Pages.seen c.find_number.new.pages in
    let looks = c.find_number.ensures.looks in
    let number : IsNumberIn b (Root c.args.cache) c.in-Some.root = subst (λ (o : Option ℕ). IfSome o (IsNumberIn b (Root c.args.cache))) c.in-Some.is c.in_ok-find_number.ensures.number in
    let d = g.P.Pages.seen c.remove_below.new.pages in
    IfOk-weaker c.remove_below.result _ _ (λ was removes t height nodes items index. index_looked T a b d c.args.cache c.in-Some.root 1 c.args.key.now t was looks number (removes t) height nodes items index) c.remove_below.ensures.removes

pub returns-else-root-eq0-clause-cause : goal.returns-else-root-eq0-clause-cause
returns-else-root-eq0-clause-cause g c =
    let T = g.P.Pages.tells in
    let a = g.P.Pages.seen c.args.pages.now in
    let b = g.P.Pages.seen c.find_number.new.pages in
    let looks = c.find_number.ensures.looks in
    let d = g.P.Pages.seen c.remove_below.new.pages in
    remove_cause_after T a b d 1 c.args.cache c.remove_below.result (edits_looked T a b (λ j. IsTrue (b.asked j)) 1 looks) c.remove_below.ensures.cause

pub returns-in_err-find_number-clause-cause : goal.returns-in_err-find_number-clause-cause
returns-in_err-find_number-clause-cause g c =
    let T = g.P.Pages.tells in
    let a = g.P.Pages.seen c.args.pages.now in
    let b = g.P.Pages.seen c.find_number.new.pages in
    let looks = c.find_number.ensures.looks in
    let p = err_from_is_err_and c.from_residual.result c.from_residual.ensures.1 in
    remove_cause_passed T a b c.args.cache c.find_number.result c.from_residual.result c.in_err-find_number.field-0.0 p.0 c.in_err-find_number.was p.1 p.2 (remove_cause_page T a b c.args.cache 0 c.find_number.result c.find_number.ensures.cause)

pub returns-in_err-find_number-clause-sound : goal.returns-in_err-find_number-clause-sound
returns-in_err-find_number-clause-sound g c = λ t all height nodes items index.
    let T = g.P.Pages.tells in
    let a = g.P.Pages.seen c.args.pages.now in
    let p = err_from_is_err_and c.from_residual.result c.from_residual.ensures.1 in
    no_bad_passed c.find_number.result c.from_residual.result c.in_err-find_number.field-0.0 p.0 c.in_err-find_number.was p.1 p.2 (λ id h. meta_not_bad T a id t all (c.find_number.ensures.cause.bad id h))

pub returns-else-root-eq0-clause-sound : goal.returns-else-root-eq0-clause-sound
returns-else-root-eq0-clause-sound g c = λ t all height nodes items index.
    let T = g.P.Pages.tells in
    let a = g.P.Pages.seen c.args.pages.now in
    let b = g.P.Pages.seen c.find_number.new.pages in
    let looks = c.find_number.ensures.looks in
    let number : IsNumberIn b (Root c.args.cache) c.in-Some.root = subst (λ (o : Option ℕ). IfSome o (IsNumberIn b (Root c.args.cache))) c.in-Some.is c.in_ok-find_number.ensures.number in
    c.remove_below.ensures.sound t (sound_looked T a b 1 t looks (sound_all a all)) height nodes items (index_seen T a b c.args.cache c.in-Some.root 1 t looks number height nodes items index)

-- pages pass still
pub returns-in-None-clause-passes : goal.returns-in-None-clause-passes
returns-in-None-clause-passes g c = λ t all rows height nodes items index. passes_looked g.P.Pages.tells (g.P.Pages.seen c.args.pages.now) (g.P.Pages.seen c.find_number.new.pages) 1 t c.find_number.ensures.looks all

pub returns-then-root-eq0-clause-passes : goal.returns-then-root-eq0-clause-passes
returns-then-root-eq0-clause-passes g c = λ t all rows height nodes items index. passes_looked g.P.Pages.tells (g.P.Pages.seen c.args.pages.now) (g.P.Pages.seen c.find_number.new.pages) 1 t c.find_number.ensures.looks all

pub returns-else-root-eq0-clause-passes : goal.returns-else-root-eq0-clause-passes
returns-else-root-eq0-clause-passes g c =
    let T = g.P.Pages.tells in
    let a = g.P.Pages.seen c.args.pages.now in
    let b = g.P.Pages.seen c.find_number.new.pages in
    let looks = c.find_number.ensures.looks in
    let number : IsNumberIn b (Root c.args.cache) c.in-Some.root = subst (λ (o : Option ℕ). IfSome o (IsNumberIn b (Root c.args.cache))) c.in-Some.is c.in_ok-find_number.ensures.number in
    let d = g.P.Pages.seen c.remove_below.new.pages in
    let part : b.part < 2 ^ 16 = omega (arith, c.part-part.type_inv, c.part-part.ensures, looks.same.part) in
    if_ok_both c.remove_below.result c.remove_below.ensures.removes c.remove_below.ensures.changes (λ was removes changes t all rows height nodes items index.
    passes_removed T b d c.args.cache 15 nodes items c.args.key.now was t part (omega (arith, rows, looks.same.max_rows)) (count_some b number (passes_looked T a b 1 t looks all)) changes
    (removes t height nodes items (index_seen T a b c.args.cache c.in-Some.root 1 t looks number height nodes items index)) (passes_looked T a b 1 t looks all))
