use Rattle.std.proofs.Common.{◌∙◌}
use Rattle.pm_pages.proofs.EditedPages.{looks_more}
use Rattle.std.proofs.lemmas.Bool.{false≢true}
use Rattle.std.proofs.Common.{sym}
use Rattle.pm_pages.proofs.SoundPages.{no_bad_passed}
use Rattle.pm_tree.specs.Indexes.{as_link}
use Rattle.pm_part.proofs.SoundGets.{names_row, names_looked, passes_all}
use Rattle.pm_part.proofs.RemovedKeys.{none_removed, removes_looked}
use Rattle.pm_part.proofs.DroppedRows.{partition_looked}
use Rattle.pm_part.proofs.CacheIndexes.{index_of}
use Rattle.pm_part.specs.Entries.{word_of}
use Rattle.pm_part.specs.declared.entries.Entry.{Entry}
use Rattle.pm_tree.specs.Maps.{get_in}
use Rattle.std.proofs.lemmas.Result.{IfOk-weaker}
use Rattle.std.proofs.Common.{◌≡◌, None, Some, Option, subst}
use Rattle.std.proofs.Common.{arith}
use Rattle.std.proofs.lemmas.Result.{on_ok_weaker, err_from_is_err_and}
use Rattle.pm_part.specs.Faults.{IsFaultOfRemove}
use Rattle.pm_part.proofs.PartCauses.{cause_passed, cause_looked, cause_way, cause_get_remove}
use Rattle.pm_part.proofs.Swaps.{pages_after_look, edits_look}
use Rattle.pm_part.proofs.removing.remove.Goals as goal

pub returns-in-Some-clause-changes : goal.returns-in-Some-clause-changes
returns-in-Some-clause-changes g c =
    let T = g.P.Pages.tells in
    let a = g.P.Pages.seen c.args.pages.now in
    let b = g.P.Pages.seen c.find_entry.new.pages in
    let d = g.P.Pages.seen c.remove_held.new.pages in
    on_ok_weaker c.remove_held.result (λ ch. pages_after_look T a b d 9 20 29 (omega arith) c.find_entry.ensures.looks ch) c.remove_held.ensures.changes

pub returns-in-Some-clause-cause : goal.returns-in-Some-clause-cause
returns-in-Some-clause-cause g c =
    let T = g.P.Pages.tells in
    let a = g.P.Pages.seen c.args.pages.now in
    let b = g.P.Pages.seen c.find_entry.new.pages in
    let d = g.P.Pages.seen c.remove_held.new.pages in
    cause_looked T a b d 9 (IsFaultOfRemove T d c.args.cache c.args.key.now) c.remove_held.result c.find_entry.ensures.looks c.remove_held.ensures.cause

pub returns-in-Some-clause-kept : goal.returns-in-Some-clause-kept
returns-in-Some-clause-kept g c = g.met.P.Pages.kept_then c.args.pages.now c.find_entry.new.pages c.remove_held.new.pages c.find_entry.ensures.kept c.remove_held.ensures.kept

pub returns-in-None-clause-changes : goal.returns-in-None-clause-changes
returns-in-None-clause-changes g c = edits_look g.P.Pages.tells (g.P.Pages.seen c.args.pages.now) (g.P.Pages.seen c.find_entry.new.pages) 9 29 (omega arith) c.find_entry.ensures.looks

pub returns-in_err-find_entry-clause-cause : goal.returns-in_err-find_entry-clause-cause
returns-in_err-find_entry-clause-cause g c =
    let T = g.P.Pages.tells in
    let a = g.P.Pages.seen c.args.pages.now in
    let b = g.P.Pages.seen c.find_entry.new.pages in
    let p = err_from_is_err_and c.from_residual.result c.from_residual.ensures.1 in
    cause_passed T a b (IsFaultOfRemove T b c.args.cache c.args.key.now) c.find_entry.result c.from_residual.result c.in_err-find_entry.field-0.0 p.0 c.in_err-find_entry.was p.1 p.2
    (cause_get_remove T a b c.args.cache c.args.key.now c.find_entry.result (cause_way T a b c.args.cache c.args.key.now c.find_entry.result c.find_entry.ensures.cause))

pub returns-in-Some-clause-removes : goal.returns-in-Some-clause-removes
returns-in-Some-clause-removes g c =
    let T = g.P.Pages.tells in
    let a = g.P.Pages.seen c.args.pages.now in
    let b = g.P.Pages.seen c.find_entry.new.pages in
    let d = g.P.Pages.seen c.remove_held.new.pages in
    let looks = c.find_entry.ensures.looks in
    IfOk-weaker c.remove_held.result _ _ (λ was removes t shape is. let made = removes t shape (partition_looked T a b 9 shape t looks is) in (made.0, removes_looked T a b 9 c.args.cache c.args.key.now d.pages was t looks made.1)) c.remove_held.ensures.removes

pub returns-in-None-clause-removes : goal.returns-in-None-clause-removes
returns-in-None-clause-removes g c = λ t shape is.
    let T = g.P.Pages.tells in
    let a = g.P.Pages.seen c.args.pages.now in
    let b = g.P.Pages.seen c.find_entry.new.pages in
    let key = c.args.key.now in
    let ix = index_of shape a c.args.cache is.page_size is.max_rows is.well_formed c.requires.cache in
    let none : None ≡ get_in ix.items key = subst (λ (e : Option Entry). word_of e ≡ get_in ix.items key) {y = None} c.in-None.is (c.in_ok-find_entry.ensures.gets t ix.height ix.nodes ix.items ix.index) in
    (partition_looked T a b 9 shape t c.find_entry.ensures.looks is, none_removed T a b 9 c.args.cache key t c.find_entry.ensures.looks ix none)

pub returns-in_err-find_entry-clause-sound : goal.returns-in_err-find_entry-clause-sound
returns-in_err-find_entry-clause-sound g c = λ t shape is.
    let a = g.P.Pages.seen c.args.pages.now in
    let p = err_from_is_err_and c.from_residual.result c.from_residual.ensures.1 in
    let ix = index_of shape a c.args.cache is.page_size is.max_rows is.well_formed c.requires.cache in
    no_bad_passed c.find_entry.result c.from_residual.result c.in_err-find_entry.field-0.0 p.0 c.in_err-find_entry.was p.1 p.2 (c.find_entry.ensures.sound t (passes_all shape a is) ix.height ix.nodes ix.items ix.index)

pub returns-in-None-clause-sound : goal.returns-in-None-clause-sound
returns-in-None-clause-sound g c = λ t shape is id h. absurd (cc h)

pub returns-in-Some-clause-sound : goal.returns-in-Some-clause-sound
returns-in-Some-clause-sound g c = λ t shape is.
    let T = g.P.Pages.tells in
    let a = g.P.Pages.seen c.args.pages.now in
    let b = g.P.Pages.seen c.find_entry.new.pages in
    let key = c.args.key.now in
    let looks = c.find_entry.ensures.looks in
    let ix = index_of shape a c.args.cache is.page_size is.max_rows is.well_formed c.requires.cache in
    let word : Some c.in-Some.entry.word ≡ get_in ix.items key = subst (λ (e : Option Entry). word_of e ≡ get_in ix.items key) {y = Some c.in-Some.entry} c.in-Some.is (c.in_ok-find_entry.ensures.gets t ix.height ix.nodes ix.items ix.index) in
    c.remove_held.ensures.sound t shape (partition_looked T a b 9 shape t looks is) (names_looked T a b 9 (as_link c.in-Some.entry.word) c.args.cache key t looks (names_row a c.args.cache key c.in-Some.entry.word ix (sym word)))

pub returns-in-None-clause-refused : goal.returns-in-None-clause-refused
returns-in-None-clause-refused g c = λ no. looks_more g.P.Pages.tells (g.P.Pages.seen c.args.pages.now) (g.P.Pages.seen c.find_entry.new.pages) 9 29 (omega arith) c.find_entry.ensures.looks

pub returns-in-Some-clause-refused : goal.returns-in-Some-clause-refused
returns-in-Some-clause-refused g c = IfOk-weaker c.remove_held.result _ _ (λ was yes no. absurd (false≢true (sym no ∙ yes))) c.remove_held.ensures.done
