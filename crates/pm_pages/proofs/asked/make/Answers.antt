use Rattle.std.proofs.Common.{◌≡◌, ℕ, ◌<◌, ◌⊎◌, true, List, length, set, get_or, subst, sym, ap, ◌∙◌, refl}
use Rattle.std.specs.Prelude.{Some, IsSomeAnd}
use Rattle.pm_types.specs.Spans.{Coverage, Covers, span_of, IsInSpan, NeedsWhole, IsPatch}
use Rattle.pm_pages.specs.declared.asked.Asked.{Asked}
use Rattle.pm_pages.specs.Paged.{IsWhole}
use Rattle.pm_pages.specs.Asked.{entry_of, position_of, entry_or_new, RegistersPage, MakesEntry}
use Rattle.pm_pages.proofs.AskedPages.{found_at, changed}
use Rattle.pm_pages.proofs.WholePages.{needs_whole}
use Rattle.pm_pages.proofs.asked.make.Goals as goal

-- the entry at the position of a page is now that of a page made anew
is_made_now : (was mid : List Asked) (index position size : ℕ) (d : Asked) (patch : Coverage) → RegistersPage was mid index → entry_of mid index ≡ Some (entry_or_new was index) → position ≡ position_of mid index → position < length mid → d ≡ get_or mid position d → IsWhole size patch → IsPatch patch
    → IsSomeAnd (entry_of (set mid position (record { index = d.index; is_lent = true; patch = Some patch })) index) (MakesEntry size) × RegistersPage was (set mid position (record { index = d.index; is_lent = true; patch = Some patch })) index
is_made_now was mid index position size d patch registers is at lt here whole fits =
    let entry : Asked = record { index = d.index; is_lent = true; patch = Some patch } in
    let found = found_at mid index position (entry_or_new was index) d is at lt here in
    let both = changed was mid index position entry registers at lt found.1 in
    let makes : MakesEntry size entry = record { lent = refl; whole = whole; fits = fits } in
    (subst (λ o. IsSomeAnd o (MakesEntry size)) (sym both.0) makes, both.1)

pub returns-clause-entry : goal.returns-clause-entry
returns-clause-entry c =
    let whole : IsWhole c.args.page_size c.add.new.self = record {
      whole = c.add.ensures.whole_if_needed.1 (subst (λ (none : Coverage). NeedsWhole none.page_size (λ k. Covers none k ⊎ IsInSpan (span_of 0 c.args.page_size) k)) (sym c.none-whole.ensures) (needs_whole c.args.page_size c.requires.size));
      size = c.add.ensures.size ∙ ap (λ (p : Coverage). p.page_size) c.none-whole.ensures;
    } in
    (is_made_now c.args.asked.now.items c.ask-position.new.asked.items c.args.index c.ask-position.result c.args.page_size c.index_mut-entry.result.now c.add.new.self c.ask-position.ensures.registers c.ask-position.ensures.entry c.ask-position.ensures.position c.ask-position.ensures.there c.index_mut-entry.ensures.value whole c.len-ranges.ensures.patch).0

pub returns-clause-registers : goal.returns-clause-registers
returns-clause-registers c =
    let d = c.index_mut-entry.result.now in
    let found = found_at c.ask-position.new.asked.items c.args.index c.ask-position.result (entry_or_new c.args.asked.now.items c.args.index) d c.ask-position.ensures.entry c.ask-position.ensures.position c.ask-position.ensures.there c.index_mut-entry.ensures.value in
    (changed c.args.asked.now.items c.ask-position.new.asked.items c.args.index c.ask-position.result (record { index = d.index; is_lent = true; patch = Some c.add.new.self }) c.ask-position.ensures.registers c.ask-position.ensures.position c.ask-position.ensures.there found.1).1
