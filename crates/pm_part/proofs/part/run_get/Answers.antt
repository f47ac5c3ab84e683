use Rattle.std.proofs.Common.{sym}
use Rattle.pm_pages.proofs.SoundPages.{no_bad_passed}
use Rattle.pm_tree.specs.Indexes.{as_link}
use Rattle.pm_part.proofs.SoundGets.{names_row, names_looked, passes_all}
use Rattle.pm_part.proofs.DroppedRows.{partition_looked}
use Rattle.std.proofs.Common.{◌≡◌, None, Some, Option, subst, arith}
use Rattle.std.specs.Prelude.{IfSome}
use Rattle.std.proofs.lemmas.Result.{on_ok_weaker}
use Rattle.pm_pages.proofs.EditedPages.{looks_then, looks_more}
use Rattle.pm_pages.proofs.TakenPages.{meta_looked}
use Rattle.pm_tree.specs.Maps.{get_in}
use Rattle.pm_part.specs.declared.entries.Entry.{Entry}
use Rattle.pm_part.specs.Entries.{IsEntryIn, word_of}
use Rattle.pm_part.proofs.CacheIndexes.{index_of}
use Rattle.pm_part.proofs.Gets.{got_value, got_none}
use Rattle.std.proofs.lemmas.Result.{err_from_is_err_and}
use Rattle.pm_part.specs.Faults.{IsFaultOfGet}
use Rattle.pm_part.proofs.PartCauses.{cause_passed, cause_looked, cause_way}
use Rattle.pm_part.proofs.part.run_get.Goals as goal

pub returns-in_err-find_entry-clause-cause : goal.returns-in_err-find_entry-clause-cause
returns-in_err-find_entry-clause-cause g c =
    let T = g.P.Pages.tells in
    let a = g.P.Pages.seen c.args.pages.now in
    let b = g.P.Pages.seen c.find_entry.new.pages in
    let p = err_from_is_err_and c.from_residual.result c.from_residual.ensures.1 in
    cause_passed T a b (IsFaultOfGet T b c.args.cache c.args.key.now) c.find_entry.result c.from_residual.result c.in_err-find_entry.field-0.0 p.0 c.in_err-find_entry.was p.1 p.2 (cause_way T a b c.args.cache c.args.key.now c.find_entry.result c.find_entry.ensures.cause)

pub returns-in-Some-clause-cause : goal.returns-in-Some-clause-cause
returns-in-Some-clause-cause g c =
    let T = g.P.Pages.tells in
    let d = g.P.Pages.seen c.reply_value.new.pages in
    cause_looked T (g.P.Pages.seen c.args.pages.now) (g.P.Pages.seen c.find_entry.new.pages) d 9 (IsFaultOfGet T d c.args.cache c.args.key.now) c.reply_value.result c.find_entry.ensures.looks c.reply_value.ensures.cause

pub returns-in-None-clause-looks : goal.returns-in-None-clause-looks
returns-in-None-clause-looks g c = looks_more g.P.Pages.tells (g.P.Pages.seen c.args.pages.now) (g.P.Pages.seen c.find_entry.new.pages) 9 10 (omega arith) c.find_entry.ensures.looks

pub returns-in_err-find_entry-clause-looks : goal.returns-in_err-find_entry-clause-looks
returns-in_err-find_entry-clause-looks g c = looks_more g.P.Pages.tells (g.P.Pages.seen c.args.pages.now) (g.P.Pages.seen c.find_entry.new.pages) 9 10 (omega arith) c.find_entry.ensures.looks

pub returns-in-Some-clause-looks : goal.returns-in-Some-clause-looks
returns-in-Some-clause-looks g c = looks_then g.P.Pages.tells (g.P.Pages.seen c.args.pages.now) (g.P.Pages.seen c.find_entry.new.pages) (g.P.Pages.seen c.reply_value.new.pages) 9 1 c.find_entry.ensures.looks c.reply_value.ensures.looks

pub returns-in-None-clause-gets : goal.returns-in-None-clause-gets
returns-in-None-clause-gets g c = λ t shape is.
    let T = g.P.Pages.tells in
    let a = g.P.Pages.seen c.args.pages.now in
    let b = g.P.Pages.seen c.find_entry.new.pages in
    let key = c.args.key.now in
    let ix = index_of shape a c.args.cache is.page_size is.max_rows is.well_formed c.requires.cache in
    let none : None ≡ get_in ix.items key = subst (λ (e : Option Entry). word_of e ≡ get_in ix.items key) {y = None} c.in-None.is (c.in_ok-find_entry.ensures.gets t ix.height ix.nodes ix.items ix.index) in
    (partition_looked T a b 9 shape t c.find_entry.ensures.looks is, got_none T a b 9 shape c.args.cache key _ _ t c.find_entry.ensures.looks is ix none c.push.ensures)

pub returns-in-Some-clause-gets : goal.returns-in-Some-clause-gets
returns-in-Some-clause-gets g c = λ t shape is.
    let T = g.P.Pages.tells in
    let a = g.P.Pages.seen c.args.pages.now in
    let b = g.P.Pages.seen c.find_entry.new.pages in
    let d = g.P.Pages.seen c.reply_value.new.pages in
    let key = c.args.key.now in
    let entry = subst (λ (e : Option Entry). IfSome e (IsEntryIn b c.args.cache key)) {y = Some c.in-Some.entry} c.in-Some.is c.in_ok-find_entry.ensures.entry in
    let looks = looks_then T a b d 9 1 c.find_entry.ensures.looks c.reply_value.ensures.looks in
    let meta = meta_looked T b d 1 c.reply_value.ensures.looks entry.meta in
    on_ok_weaker c.reply_value.result (λ pushed. (partition_looked T a d 10 shape t looks is, got_value T a d 10 shape c.args.cache key pushed.0 _ _ t looks meta is pushed.2)) c.reply_value.ensures.pushed

pub returns-in_err-find_entry-clause-sound : goal.returns-in_err-find_entry-clause-sound
returns-in_err-find_entry-clause-sound g c = λ t shape is.
    let a = g.P.Pages.seen c.args.pages.now in
    let p = err_from_is_err_and c.from_residual.result c.from_residual.ensures.1 in
    let ix = index_of shape a c.args.cache is.page_size is.max_rows is.well_formed c.requires.cache in
    no_bad_passed c.find_entry.result c.from_residual.result c.in_err-find_entry.field-0.0 p.0 c.in_err-find_entry.was p.1 p.2 (c.find_entry.ensures.sound t (passes_all shape a is) ix.height ix.nodes ix.items ix.index)

pub returns-in-None-clause-sound : goal.returns-in-None-clause-sound
returns-in-None-clause-sound g c = λ t shape is id h. absurd (cc h)

pub returns-in-Some-clause-sound : goal.returns-in-Some-clause-sound
returns-in-Some-clause-sound g c = λ t shape is.
    let T = g.P.Pages.tells in
    let a = g.P.Pages.seen c.args.pages.now in
    let b = g.P.Pages.seen c.find_entry.new.pages in
    let key = c.args.key.now in
    let looks = c.find_entry.ensures.looks in
    let ix = index_of shape a c.args.cache is.page_size is.max_rows is.well_formed c.requires.cache in
    let word : Some c.in-Some.entry.word ≡ get_in ix.items key = subst (λ (e : Option Entry). word_of e ≡ get_in ix.items key) {y = Some c.in-Some.entry} c.in-Some.is (c.in_ok-find_entry.ensures.gets t ix.height ix.nodes ix.items ix.index) in
    c.reply_value.ensures.sound t shape (partition_looked T a b 9 shape t looks is) (names_looked T a b 9 (as_link c.in-Some.entry.word) c.args.cache key t looks (names_row a c.args.cache key c.in-Some.entry.word ix (sym word)))
