use Rattle.pm_pages.proofs.EditedPages.{looks_then, looks_more}
use Rattle.std.proofs.lemmas.Bool.{false≢true}
use Rattle.pm_pages.proofs.PassingLooks.{bad_passed, meta_not_bad}
use Rattle.pm_part.proofs.DroppedRows.{partition_looked}
use Rattle.pm_part.proofs.SoundGets.{passes_all}
use Rattle.pm_pages.specs.Rows.{Partition}
use Rattle.std.proofs.Common.{ℕ}
use Rattle.pm_part.proofs.ReplacedKeys.{rows_none, new_put, puts_looked, for_looked, lacks_looked}
use Rattle.pm_part.specs.Puts.{PutsKey, AddsKey}
use Rattle.pm_pages.proofs.ToldPages.{pages_told}
use Rattle.pm_pages.specs.Edits.{IsNumberIn}
use Rattle.pm_pages.specs.Paged.{IsFirstAbsent}
use Rattle.pm_pages.specs.declared.row.Row.{Row}
use Rattle.pm_meta.specs.declared.slots.MetaSlot.TheVariants.{Rows}
use Rattle.std.specs.Prelude.{IfSome, IfNone}
use Rattle.std.proofs.lemmas.Result.{IfOk-weaker}
use Rattle.std.proofs.Common.{List, None, Some, length, ap, subst, sym, ◌∙◌, inl}
use Rattle.std.proofs.Common.{arith}
use Rattle.std.proofs.lemmas.Result.{on_ok_weaker, err_from_is_err_and}
use Rattle.pm_part.specs.Faults.{IsFaultOfPut}
use Rattle.pm_part.proofs.PartCauses.{cause_passed, cause_looked, cause_meta_put}
use Rattle.pm_part.proofs.Swaps.{pages_after_look, if_ok_both}
use Rattle.pm_part.proofs.putting.put_new.Goals as goal

pub returns-in-None-clause-changes : goal.returns-in-None-clause-changes
returns-in-None-clause-changes g c =
    let T = g.P.Pages.tells in
    let a = g.P.Pages.seen c.args.pages.now in
    let b = g.P.Pages.seen c.find_number.new.pages in
    let d = g.P.Pages.seen c.put_first.new.pages in
    on_ok_weaker c.put_first.result (λ ch. pages_after_look T a b d 1 22 23 (omega arith) c.find_number.ensures.looks ch) c.put_first.ensures.changes

pub returns-in-None-clause-cause : goal.returns-in-None-clause-cause
returns-in-None-clause-cause g c =
    let T = g.P.Pages.tells in
    let a = g.P.Pages.seen c.args.pages.now in
    let b = g.P.Pages.seen c.find_number.new.pages in
    let d = g.P.Pages.seen c.put_first.new.pages in
    cause_looked T a b d 1 (IsFaultOfPut T d c.args.cache c.args.key.now) c.put_first.result c.find_number.ensures.looks c.put_first.ensures.cause

pub returns-in-None-clause-kept : goal.returns-in-None-clause-kept
returns-in-None-clause-kept g c = g.met.P.Pages.kept_then c.args.pages.now c.find_number.new.pages c.put_first.new.pages c.find_number.ensures.kept c.put_first.ensures.kept

pub returns-in-Some-clause-changes : goal.returns-in-Some-clause-changes
returns-in-Some-clause-changes g c =
    let T = g.P.Pages.tells in
    let a = g.P.Pages.seen c.args.pages.now in
    let b = g.P.Pages.seen c.find_number.new.pages in
    let d = g.P.Pages.seen c.put_next.new.pages in
    on_ok_weaker c.put_next.result (λ ch. pages_after_look T a b d 1 21 23 (omega arith) c.find_number.ensures.looks ch) c.put_next.ensures.changes

pub returns-in-Some-clause-cause : goal.returns-in-Some-clause-cause
returns-in-Some-clause-cause g c =
    let T = g.P.Pages.tells in
    let a = g.P.Pages.seen c.args.pages.now in
    let b = g.P.Pages.seen c.find_number.new.pages in
    let d = g.P.Pages.seen c.put_next.new.pages in
    cause_looked T a b d 1 (IsFaultOfPut T d c.args.cache c.args.key.now) c.put_next.result c.find_number.ensures.looks c.put_next.ensures.cause

pub returns-in-Some-clause-kept : goal.returns-in-Some-clause-kept
returns-in-Some-clause-kept g c = g.met.P.Pages.kept_then c.args.pages.now c.find_number.new.pages c.put_next.new.pages c.find_number.ensures.kept c.put_next.ensures.kept

pub returns-in_err-find_number-clause-cause : goal.returns-in_err-find_number-clause-cause
returns-in_err-find_number-clause-cause g c =
    let T = g.P.Pages.tells in
    let a = g.P.Pages.seen c.args.pages.now in
    let b = g.P.Pages.seen c.find_number.new.pages in
    let p = err_from_is_err_and c.from_residual.result c.from_residual.ensures.1 in
    cause_passed T a b (IsFaultOfPut T b c.args.cache c.args.key.now) c.find_number.result c.from_residual.result c.in_err-find_number.field-0.0 p.0 c.in_err-find_number.was p.1 p.2
    (cause_meta_put T a b c.args.cache c.args.key.now c.find_number.result c.find_number.ensures.cause)

pub put_next-requires-clause-rows : goal.put_next-requires-clause-rows
put_next-requires-clause-rows g c = subst (λ o. IfSome o (IsNumberIn (g.P.Pages.seen c.find_number.new.pages) Rows)) {y = Some c.in-Some.rows} c.in-Some.is c.in_ok-find_number.ensures.number

pub returns-in-Some-clause-puts : goal.returns-in-Some-clause-puts
returns-in-Some-clause-puts g c =
    let T = g.P.Pages.tells in
    let a = g.P.Pages.seen c.args.pages.now in
    let b = g.P.Pages.seen c.find_number.new.pages in
    let d = g.P.Pages.seen c.put_next.new.pages in
    let looks = c.find_number.ensures.looks in
    IfOk-weaker c.put_next.result _ _ (λ done puts t shape for none value row_is.
    let made = puts t shape (for_looked T a b 1 shape c.args.max_rows c.args.key.now t looks for) (lacks_looked T a b 1 c.args.cache c.args.key.now t looks none) value row_is in
    (made.0, puts_looked T a b 1 shape d.pages c.args.cache c.args.key.now value done t looks made.1)) c.put_next.ensures.puts

pub returns-in-None-clause-puts : goal.returns-in-None-clause-puts
returns-in-None-clause-puts g c =
    let T = g.P.Pages.tells in
    let a = g.P.Pages.seen c.args.pages.now in
    let b = g.P.Pages.seen c.find_number.new.pages in
    let d = g.P.Pages.seen c.put_first.new.pages in
    let looks = c.find_number.ensures.looks in
    IfOk-weaker c.put_first.result _ _ (λ done both t shape for none value row_is.
    let adds = both.0 in
    let absent = (subst (λ o. IfNone o (IsFirstAbsent T a 0)) {y = None} c.in-None.is c.in_ok-find_number.ensures.none).absent (inl t) in
    let same = pages_told T a b 1 t looks in
    let adds_b = adds.1 t (ap (λ q. q 0) same ∙ absent) in
    let adds_a = subst (λ (q : ℕ × Partition). AddsKey q.0 q.1 d.pages c.args.row.now 1) {x = (b.part, b.pages)} {y = (a.part, a.pages)} (λ k. (looks.same.part k, same k)) adds_b in
    let none_is = ap (λ (l : List Row). length l) (rows_none a.part a.pages absent) in (
      both.1 t shape c.args.max_rows (for_looked T a b 1 shape c.args.max_rows c.args.key.now t looks for) value row_is,
      subst (PutsKey shape a.part a.pages d.pages c.args.cache c.args.key.now value) (sym adds.0)
          (new_put shape a d.pages c.args.max_rows c.args.cache 1 c.args.key.now value c.args.row.now c.requires.cache for none row_is (omega (arith, none_is, for.some)) adds_a),
    )) (if_ok_both c.put_first.result _ _ c.put_first.ensures.adds c.put_first.ensures.stays)

pub returns-in_err-find_number-clause-sound : goal.returns-in_err-find_number-clause-sound
returns-in_err-find_number-clause-sound g c = λ t shape is id h.
    let T = g.P.Pages.tells in
    let a = g.P.Pages.seen c.args.pages.now in
    let p = err_from_is_err_and c.from_residual.result c.from_residual.ensures.1 in
    meta_not_bad T a id t (passes_all shape a is) (c.find_number.ensures.cause.bad id (bad_passed c.find_number.result c.from_residual.result c.in_err-find_number.field-0.0 p.0 c.in_err-find_number.was p.1 p.2 id h))

pub returns-in-None-clause-sound : goal.returns-in-None-clause-sound
returns-in-None-clause-sound g c = λ t shape is.
    let T = g.P.Pages.tells in
    let a = g.P.Pages.seen c.args.pages.now in
    let b = g.P.Pages.seen c.find_number.new.pages in
    let looks = c.find_number.ensures.looks in
    let absent = (subst (λ o. IfNone o (IsFirstAbsent T a 0)) {y = None} c.in-None.is c.in_ok-find_number.ensures.none).absent (inl t) in
    c.put_first.ensures.sound t shape (partition_looked T a b 1 shape t looks is) (ap (λ q. q 0) (pages_told T a b 1 t looks) ∙ absent)

pub returns-in-Some-clause-sound : goal.returns-in-Some-clause-sound
returns-in-Some-clause-sound g c = λ t shape is.
    let T = g.P.Pages.tells in
    let a = g.P.Pages.seen c.args.pages.now in
    let b = g.P.Pages.seen c.find_number.new.pages in
    c.put_next.ensures.sound t shape (partition_looked T a b 1 shape t c.find_number.ensures.looks is)

pub returns-in-None-clause-refused : goal.returns-in-None-clause-refused
returns-in-None-clause-refused g c = IfOk-weaker c.put_first.result _ _ (λ done adds no. absurd (false≢true (sym no ∙ adds.0))) c.put_first.ensures.adds

pub returns-in-Some-clause-refused : goal.returns-in-Some-clause-refused
returns-in-Some-clause-refused g c =
    let T = g.P.Pages.tells in
    let a = g.P.Pages.seen c.args.pages.now in
    let b = g.P.Pages.seen c.find_number.new.pages in
    let d = g.P.Pages.seen c.put_next.new.pages in
    IfOk-weaker c.put_next.result _ _ (λ done looks no. looks_more T a d 22 23 (omega arith) (looks_then T a b d 1 21 c.find_number.ensures.looks (looks no))) c.put_next.ensures.refused
