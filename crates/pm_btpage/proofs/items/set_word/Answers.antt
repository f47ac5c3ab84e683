use Rattle.std.proofs.Common.{◌+◌, ◌==◌, sym, ap, subst, ◌∙◌, arith}
use Rattle.pm_types.specs.Spans.{IsInSpan, span_of}
use Rattle.pm_types.specs.Pages.{SameOutside}
use Rattle.pm_types.specs.Fields.{u64_at}
use Rattle.pm_btpage.proofs.ItemsByIndex.{item_bounds}
use Rattle.pm_btpage.proofs.WordChanged.{word_changed}
use Rattle.pm_btpage.proofs.items.set_word.Goals as goal

pub offset-requires : goal.offset-requires
offset-requires c = let b = item_bounds c.args.page.now c.args.i c.requires.page c.requires.item in omega (arith, b.within, b.long)

pub overflow_add-offset : goal.overflow_add-offset
overflow_add-offset c = let b = item_bounds c.args.page.now c.args.i c.requires.page c.requires.item in omega (arith, b.within, b.long, c.offset.ensures)

pub set_u64-requires-clause-within : goal.set_u64-requires-clause-within
set_u64-requires-clause-within c = let b = item_bounds c.args.page.now c.args.i c.requires.page c.requires.item in omega (arith, b.within, c.offset.ensures)

pub returns-clause-page : goal.returns-clause-page
returns-clause-page c = (word_changed c.args.page.now c.set_u64.new.page c.args.i c.args.word c.requires.page c.requires.item (subst (λ n. SameOutside (IsInSpan (span_of (n + 65) 8)) c.args.page.now c.set_u64.new.page) c.offset.ensures c.set_u64.ensures.writes.outside) (ap (λ n. u64_at c.set_u64.new.page (n + 65)) (sym c.offset.ensures) ∙ c.set_u64.ensures.value)).well_made

pub returns-clause-says : goal.returns-clause-says
returns-clause-says c =
    let all = word_changed c.args.page.now c.set_u64.new.page c.args.i c.args.word c.requires.page c.requires.item (subst (λ n. SameOutside (IsInSpan (span_of (n + 65) 8)) c.args.page.now c.set_u64.new.page) c.offset.ensures c.set_u64.ensures.writes.outside) (ap (λ n. u64_at c.set_u64.new.page (n + 65)) (sym c.offset.ensures) ∙ c.set_u64.ensures.value) in
    λ j. record { id = record { 0 = all.id j }; leaf = ap (λ n. n == 2) all.kind j; link = all.link j; items = all.items_are j }
