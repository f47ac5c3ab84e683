use Rattle.std.proofs.Common.{◌≡◌, ℕ, ◌<◌, List, length, set, get_or, subst, sym, ap, ◌∙◌, refl}
use Rattle.std.specs.Prelude.{Option, Some, IsSome, None, unwrap_or, IfSome, IsSomeAnd, IsTrue}
use Rattle.pm_types.specs.Spans.{Coverage, IsPatch}
use Rattle.pm_pages.specs.declared.asked.Asked.{Asked}
use Rattle.pm_pages.specs.Asked.{entry_of, position_of, to_read, entry_or_new, patch_of, HavePatchesFor, RegistersPage, NotesEntry}
use Rattle.pm_pages.specs.Paged.{JoinsPatch, IsWhole}
use Rattle.std.proofs.lemmas.List.{get_or_default}
use Rattle.pm_pages.proofs.AskedPages.{found_at, changed}
use Rattle.pm_pages.proofs.asked.note.Goals as goal

-- two reads of one entry
same_entry : (asked : List Asked) (position : ℕ) (a b : Asked) → position < length asked → a ≡ get_or asked position a → b ≡ get_or asked position b → a ≡ b
same_entry asked position a b lt is_a is_b = is_a ∙ get_or_default asked position a b lt ∙ sym is_b

-- how a patch was joined to one that may be there
abbrev Joins : Option Coverage → Coverage → Coverage → Type 0
Joins old patch joined = JoinsPatch old patch joined × IfSome old (λ old. IsTrue old.whole → IsTrue joined.whole)

stays_whole : (old : Option Coverage) (patch joined : Coverage) → Joins old patch joined → (size : ℕ) → IsSomeAnd old (IsWhole size) → IsWhole size joined
stays_whole None patch joined joins size whole = absurd whole
stays_whole (Some old) patch joined joins size whole = record { whole = joins.1 whole.whole; size = joins.0.size ∙ whole.size }

-- a patch is joined to that of the entry at the position of a page
is_noted_now : (was mid : List Asked) (index position : ℕ) (d : Asked) (patch joined : Coverage) → RegistersPage was mid index → entry_of mid index ≡ Some (entry_or_new was index) → position ≡ position_of mid index → position < length mid → d ≡ get_or mid position d → Joins d.patch patch joined → IsPatch joined
    → IsSomeAnd (entry_of (set mid position (record { index = d.index; is_lent = d.is_lent; patch = Some joined })) index) (NotesEntry (entry_or_new was index) patch) × RegistersPage was (set mid position (record { index = d.index; is_lent = d.is_lent; patch = Some joined })) index
is_noted_now was mid index position d patch joined registers is at lt here joins fits =
    let entry : Asked = record { index = d.index; is_lent = d.is_lent; patch = Some joined } in
    let found = found_at mid index position (entry_or_new was index) d is at lt here in
    let lent : d.is_lent ≡ (entry_or_new was index).is_lent = ap (λ (e : Asked). e.is_lent) found.0 in
    let both = changed was mid index position entry registers at lt found.1 in
    let notes : NotesEntry (entry_or_new was index) patch entry = record {
      lent = lent;
      joins = subst (λ (e : Asked). JoinsPatch e.patch patch joined) found.0 joins.0;
      fits = fits;
      stays_whole = subst (λ (e : Asked). (size : ℕ) → IsSomeAnd e.patch (IsWhole size) → IsWhole size joined) found.0 (stays_whole d.patch patch joined joins);
    } in
    (subst (λ o. IsSomeAnd o (NotesEntry (entry_or_new was index) patch)) (sym both.0) notes, both.1)

of_patch : (found : Option Coverage) (size : ℕ) → ((patch : Coverage) → found ≡ Some patch → patch.page_size ≡ size) → IfSome found (λ old. old.page_size ≡ size)
of_patch None size sizes = tt
of_patch (Some patch) size sizes = sizes patch refl

-- the patch of an entry, if there is one
entry_sizes : (found : Option Asked) (index size : ℕ) → ((patch : Coverage) → patch_of found ≡ Some patch → patch.page_size ≡ size) → IfSome (unwrap_or found (to_read index)).patch (λ old. old.page_size ≡ size)
entry_sizes None index size sizes = tt
entry_sizes (Some entry) index size sizes = of_patch entry.patch size sizes

-- the patch that is there is of a page of the same size
same_size : (was mid : List Asked) (index position size : ℕ) (d : Asked) → entry_of mid index ≡ Some (entry_or_new was index) → position ≡ position_of mid index → position < length mid → d ≡ get_or mid position d → IsSome (entry_of was index) → HavePatchesFor size was → IfSome d.patch (λ old. old.page_size ≡ size)
same_size was mid index position size d is at lt here there sizes =
    let found = found_at mid index position (entry_or_new was index) d is at lt here in
    subst (λ (e : Asked). IfSome e.patch (λ old. old.page_size ≡ size)) (sym found.0) (entry_sizes (entry_of was index) index size (λ patch e. (sizes index patch e).size_is))

pub joined-joined-requires : goal.joined-joined-requires
joined-joined-requires c = same_size c.args.asked.now.items c.ask-position.new.asked.items c.args.index c.ask-position.result c.args.patch.now.page_size c.index.result.now c.ask-position.ensures.entry c.ask-position.ensures.position c.ask-position.ensures.there c.index.ensures c.requires.there c.requires.patches

pub returns-clause-entry : goal.returns-clause-entry
returns-clause-entry c = (is_noted_now c.args.asked.now.items c.ask-position.new.asked.items c.args.index c.ask-position.result c.index_mut.result.now c.args.patch.now c.joined-joined.result c.ask-position.ensures.registers c.ask-position.ensures.entry c.ask-position.ensures.position c.ask-position.ensures.there c.index_mut.ensures.value
    (subst (λ (e : Asked). Joins e.patch c.args.patch.now c.joined-joined.result) (same_entry c.ask-position.new.asked.items c.ask-position.result c.index.result.now c.index_mut.result.now c.ask-position.ensures.there c.index.ensures c.index_mut.ensures.value) (c.joined-joined.ensures.joins, c.joined-joined.ensures.whole)) c.joined-joined.ensures.fits).0

pub returns-clause-registers : goal.returns-clause-registers
returns-clause-registers c = (is_noted_now c.args.asked.now.items c.ask-position.new.asked.items c.args.index c.ask-position.result c.index_mut.result.now c.args.patch.now c.joined-joined.result c.ask-position.ensures.registers c.ask-position.ensures.entry c.ask-position.ensures.position c.ask-position.ensures.there c.index_mut.ensures.value
    (subst (λ (e : Asked). Joins e.patch c.args.patch.now c.joined-joined.result) (same_entry c.ask-position.new.asked.items c.ask-position.result c.index.result.now c.index_mut.result.now c.ask-position.ensures.there c.index.ensures c.index_mut.ensures.value) (c.joined-joined.ensures.joins, c.joined-joined.ensures.whole)) c.joined-joined.ensures.fits).1
