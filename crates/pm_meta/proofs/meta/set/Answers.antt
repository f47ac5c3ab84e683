use Rattle.std.proofs.Common.{◌≡◌, subst}
use Rattle.pm_types.specs.Spans.{IsInSpan, span_of}
use Rattle.pm_types.specs.Pages.{SameOutside}
use Rattle.pm_types.specs.Fields.{u32_at}
use Rattle.pm_meta.proofs.OneField.{one_field}
use Rattle.pm_meta.proofs.StoredPages.{stored_after}
use Rattle.pm_meta.proofs.meta.set.Goals as goal

pub returns-clause-page : goal.returns-clause-page
returns-clause-page c = (one_field _ _ c.args.slot c.requires.page c.requires.slot (subst (λ n. SameOutside (IsInSpan (span_of n 4)) c.args.page.now c.set_u32.new.page) c.offset.ensures c.set_u32.ensures.writes.outside)).well_made

pub returns-clause-others : goal.returns-clause-others
returns-clause-others c = (one_field _ _ c.args.slot c.requires.page c.requires.slot (subst (λ n. SameOutside (IsInSpan (span_of n 4)) c.args.page.now c.set_u32.new.page) c.offset.ensures c.set_u32.ensures.writes.outside)).others

pub returns-clause-id : goal.returns-clause-id
returns-clause-id c = (one_field _ _ c.args.slot c.requires.page c.requires.slot (subst (λ n. SameOutside (IsInSpan (span_of n 4)) c.args.page.now c.set_u32.new.page) c.offset.ensures c.set_u32.ensures.writes.outside)).id

pub returns-clause-stored : goal.returns-clause-stored
returns-clause-stored c = λ id max_rows stored within.
    stored_after _ _ id max_rows c.args.value stored c.args.slot
    (one_field _ _ c.args.slot c.requires.page c.requires.slot (subst (λ n. SameOutside (IsInSpan (span_of n 4)) c.args.page.now c.set_u32.new.page) c.offset.ensures c.set_u32.ensures.writes.outside))
    (subst (λ n. u32_at c.set_u32.new.page n ≡ c.args.value) c.offset.ensures c.set_u32.ensures.value) c.requires.slot within
