use Rattle.std.proofs.Common.{◌≡◌, ℕ, ◌<◌, true, List, length, set, get_or, ap, ◌∙◌}
use Rattle.std.specs.Prelude.{Some}
use Rattle.pm_pages.specs.declared.asked.Asked.{Asked}
use Rattle.pm_pages.specs.Asked.{entry_of, position_of, entry_or_new, RegistersPage}
use Rattle.pm_pages.proofs.AskedPages.{found_at, changed}
use Rattle.pm_pages.proofs.asked.lend.Goals as goal

-- the entry at the position of a page is now lent
is_lent_now : (was mid : List Asked) (index position : ℕ) (d : Asked) → RegistersPage was mid index → entry_of mid index ≡ Some (entry_or_new was index) → position ≡ position_of mid index → position < length mid → d ≡ get_or mid position d → (entry_of (set mid position (record d { is_lent = true })) index ≡ Some (record (entry_or_new was index) { is_lent = true })) × RegistersPage was (set mid position (record d { is_lent = true })) index
is_lent_now was mid index position d registers is at lt here =
    let found = found_at mid index position (entry_or_new was index) d is at lt here in
    let both = changed was mid index position (record d { is_lent = true }) registers at lt found.1 in
    (both.0 ∙ ap (λ (e : Asked). Some (record e { is_lent = true })) found.0, both.1)

pub returns-clause-entry : goal.returns-clause-entry
returns-clause-entry c = (is_lent_now c.args.asked.now.items c.ask-position.new.asked.items c.args.index c.ask-position.result c.index_mut.result.now c.ask-position.ensures.registers c.ask-position.ensures.entry c.ask-position.ensures.position c.ask-position.ensures.there c.index_mut.ensures.value).0

pub returns-clause-registers : goal.returns-clause-registers
returns-clause-registers c = (is_lent_now c.args.asked.now.items c.ask-position.new.asked.items c.args.index c.ask-position.result c.index_mut.result.now c.ask-position.ensures.registers c.ask-position.ensures.entry c.ask-position.ensures.position c.ask-position.ensures.there c.index_mut.ensures.value).1
