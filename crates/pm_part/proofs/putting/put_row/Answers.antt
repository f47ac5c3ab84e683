use Rattle.std.proofs.Common.{◌∙◌}
use Rattle.pm_pages.proofs.EditedPages.{looks_then}
use Rattle.std.proofs.lemmas.Bool.{false≢true}
use Rattle.pm_pages.proofs.SoundPages.{no_bad_passed}
use Rattle.pm_tree.specs.Indexes.{as_link}
use Rattle.pm_part.proofs.CacheIndexes.{index_of}
use Rattle.pm_part.proofs.SoundGets.{names_row, names_looked, passes_all}
use Rattle.pm_part.proofs.ReplacedKeys.{puts_looked, for_looked, lacks_looked}
use Rattle.pm_part.proofs.DroppedRows.{partition_looked}
use Rattle.pm_part.specs.Entries.{word_of}
use Rattle.pm_part.specs.declared.entries.Entry.{Entry}
use Rattle.pm_tree.specs.Maps.{get_in}
use Rattle.std.proofs.lemmas.Result.{IfOk-weaker}
use Rattle.std.proofs.Common.{◌≡◌, None, Some, Option, sym, subst}
use Rattle.std.proofs.Common.{arith}
use Rattle.std.proofs.lemmas.Result.{on_ok_weaker, err_from_is_err_and}
use Rattle.pm_part.specs.Faults.{IsFaultOfPut}
use Rattle.pm_part.proofs.PartCauses.{cause_passed, cause_looked, cause_way, cause_get_put}
use Rattle.pm_part.proofs.Swaps.{edits_after_look, pages_after_look}
use Rattle.pm_part.proofs.putting.put_row.Goals as goal

pub returns-in-None-clause-changes : goal.returns-in-None-clause-changes
returns-in-None-clause-changes g c =
    let T = g.P.Pages.tells in
    let a = g.P.Pages.seen c.args.pages.now in
    let b = g.P.Pages.seen c.find_entry.new.pages in
    let d = g.P.Pages.seen c.put_new.new.pages in
    on_ok_weaker c.put_new.result (λ ch. edits_after_look T a b d 9 23 32 (omega arith) c.find_entry.ensures.looks ch) c.put_new.ensures.changes

pub returns-in-None-clause-cause : goal.returns-in-None-clause-cause
returns-in-None-clause-cause g c =
    let T = g.P.Pages.tells in
    let a = g.P.Pages.seen c.args.pages.now in
    let b = g.P.Pages.seen c.find_entry.new.pages in
    let d = g.P.Pages.seen c.put_new.new.pages in
    cause_looked T a b d 9 (IsFaultOfPut T d c.args.cache c.args.key.now) c.put_new.result c.find_entry.ensures.looks c.put_new.ensures.cause

pub returns-in-None-clause-kept : goal.returns-in-None-clause-kept
returns-in-None-clause-kept g c = g.met.P.Pages.kept_then c.args.pages.now c.find_entry.new.pages c.put_new.new.pages c.find_entry.ensures.kept c.put_new.ensures.kept

pub returns-in-Some-clause-changes : goal.returns-in-Some-clause-changes
returns-in-Some-clause-changes g c =
    let T = g.P.Pages.tells in
    let a = g.P.Pages.seen c.args.pages.now in
    let b = g.P.Pages.seen c.find_entry.new.pages in
    let d = g.P.Pages.seen c.put_held.new.pages in
    on_ok_weaker c.put_held.result (λ ch. pages_after_look T a b d 9 16 32 (omega arith) c.find_entry.ensures.looks ch) c.put_held.ensures.changes

pub returns-in-Some-clause-cause : goal.returns-in-Some-clause-cause
returns-in-Some-clause-cause g c =
    let T = g.P.Pages.tells in
    let a = g.P.Pages.seen c.args.pages.now in
    let b = g.P.Pages.seen c.find_entry.new.pages in
    let d = g.P.Pages.seen c.put_held.new.pages in
    cause_looked T a b d 9 (IsFaultOfPut T d c.args.cache c.args.key.now) c.put_held.result c.find_entry.ensures.looks c.put_held.ensures.cause

pub returns-in-Some-clause-kept : goal.returns-in-Some-clause-kept
returns-in-Some-clause-kept g c = g.met.P.Pages.kept_then c.args.pages.now c.find_entry.new.pages c.put_held.new.pages c.find_entry.ensures.kept c.put_held.ensures.kept

pub returns-in_err-find_entry-clause-cause : goal.returns-in_err-find_entry-clause-cause
returns-in_err-find_entry-clause-cause g c =
    let T = g.P.Pages.tells in
    let a = g.P.Pages.seen c.args.pages.now in
    let b = g.P.Pages.seen c.find_entry.new.pages in
    let p = err_from_is_err_and c.from_residual.result c.from_residual.ensures.1 in
    cause_passed T a b (IsFaultOfPut T b c.args.cache c.args.key.now) c.find_entry.result c.from_residual.result c.in_err-find_entry.field-0.0 p.0 c.in_err-find_entry.was p.1 p.2
    (cause_get_put T a b c.args.cache c.args.key.now c.find_entry.result (cause_way T a b c.args.cache c.args.key.now c.find_entry.result c.find_entry.ensures.cause))

pub returns-in-None-clause-puts : goal.returns-in-None-clause-puts
returns-in-None-clause-puts g c =
    let T = g.P.Pages.tells in
    let a = g.P.Pages.seen c.args.pages.now in
    let b = g.P.Pages.seen c.find_entry.new.pages in
    let d = g.P.Pages.seen c.put_new.new.pages in
    let key = c.args.key.now in
    let looks = c.find_entry.ensures.looks in
    IfOk-weaker c.put_new.result _ _ (λ done puts t shape for value row_is.
    let none = lacks_looked T a b 9 c.args.cache key t looks (record { none = λ height nodes items index. sym (subst (λ (e : Option Entry). word_of e ≡ get_in items key) {y = None} c.in-None.is (c.in_ok-find_entry.ensures.gets t height nodes items index)) }) in
    let made = puts t shape (for_looked T a b 9 shape c.args.max_rows key t looks for) none value row_is in
    (made.0, puts_looked T a b 9 shape d.pages c.args.cache key value done t looks made.1)) c.put_new.ensures.puts

pub returns-in-Some-clause-puts : goal.returns-in-Some-clause-puts
returns-in-Some-clause-puts g c =
    let T = g.P.Pages.tells in
    let a = g.P.Pages.seen c.args.pages.now in
    let b = g.P.Pages.seen c.find_entry.new.pages in
    let d = g.P.Pages.seen c.put_held.new.pages in
    let looks = c.find_entry.ensures.looks in
    IfOk-weaker c.put_held.result _ _ (λ done puts t shape for value row_is.
    let made = puts t shape (partition_looked T a b 9 shape t looks for.partition) value row_is in
    (made.0, puts_looked T a b 9 shape d.pages c.args.cache c.args.key.now value done t looks made.1)) c.put_held.ensures.puts

pub returns-in_err-find_entry-clause-sound : goal.returns-in_err-find_entry-clause-sound
returns-in_err-find_entry-clause-sound g c = λ t shape is.
    let a = g.P.Pages.seen c.args.pages.now in
    let p = err_from_is_err_and c.from_residual.result c.from_residual.ensures.1 in
    let ix = index_of shape a c.args.cache is.page_size is.max_rows is.well_formed c.requires.cache in
    no_bad_passed c.find_entry.result c.from_residual.result c.in_err-find_entry.field-0.0 p.0 c.in_err-find_entry.was p.1 p.2 (c.find_entry.ensures.sound t (passes_all shape a is) ix.height ix.nodes ix.items ix.index)

pub returns-in-None-clause-sound : goal.returns-in-None-clause-sound
returns-in-None-clause-sound g c = λ t shape is.
    let T = g.P.Pages.tells in
    let a = g.P.Pages.seen c.args.pages.now in
    let b = g.P.Pages.seen c.find_entry.new.pages in
    c.put_new.ensures.sound t shape (partition_looked T a b 9 shape t c.find_entry.ensures.looks is)

pub returns-in-Some-clause-sound : goal.returns-in-Some-clause-sound
returns-in-Some-clause-sound g c = λ t shape is.
    let T = g.P.Pages.tells in
    let a = g.P.Pages.seen c.args.pages.now in
    let b = g.P.Pages.seen c.find_entry.new.pages in
    let key = c.args.key.now in
    let looks = c.find_entry.ensures.looks in
    let ix = index_of shape a c.args.cache is.page_size is.max_rows is.well_formed c.requires.cache in
    let word : Some c.in-Some.entry.word ≡ get_in ix.items key = subst (λ (e : Option Entry). word_of e ≡ get_in ix.items key) {y = Some c.in-Some.entry} c.in-Some.is (c.in_ok-find_entry.ensures.gets t ix.height ix.nodes ix.items ix.index) in
    c.put_held.ensures.sound t shape (partition_looked T a b 9 shape t looks is) (names_looked T a b 9 (as_link c.in-Some.entry.word) c.args.cache key t looks (names_row a c.args.cache key c.in-Some.entry.word ix (sym word)))

pub returns-in-None-clause-refused : goal.returns-in-None-clause-refused
returns-in-None-clause-refused g c =
    let T = g.P.Pages.tells in
    let a = g.P.Pages.seen c.args.pages.now in
    let b = g.P.Pages.seen c.find_entry.new.pages in
    let d = g.P.Pages.seen c.put_new.new.pages in
    IfOk-weaker c.put_new.result _ _ (λ done looks no. looks_then T a b d 9 23 c.find_entry.ensures.looks (looks no)) c.put_new.ensures.refused

pub returns-in-Some-clause-refused : goal.returns-in-Some-clause-refused
returns-in-Some-clause-refused g c = IfOk-weaker c.put_held.result _ _ (λ done yes no. absurd (false≢true (sym no ∙ yes))) c.put_held.ensures.done
