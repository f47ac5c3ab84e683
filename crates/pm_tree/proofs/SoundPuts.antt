-- A put at a key that is there, in a tree of pages that pass their checks, meets no bad page.
use Rattle.std.proofs.Common.{◌≡◌, ℕ, zero, suc, ◌-◌, ◌<◌, List, refl, sym, ap, subst, ◌∙◌, inl, inr}
use Rattle.std.specs.Prelude.{Option, None, Some}
use Rattle.std.specs.Option.{option_map}
use Rattle.pm_types.specs.declared.page_id.Link.{Link}
use Rattle.pm_btpage.specs.IndexPages.{Item, items_of}
use Rattle.pm_meta.specs.declared.slots.MetaSlot.TheVariants.{Pages}
use Rattle.pm_pages.specs.Rows.{Partition, page_at, kind_of}
use Rattle.pm_pages.specs.Trees.{child_of}
use Rattle.pm_pages.specs.Paged.{Paged, IsInHand}
use Rattle.pm_pages.specs.Edits.{LooksAtPages, IsNumberIn}
use Rattle.pm_tree.specs.Maps.{get_in}
use Rattle.pm_tree.specs.Steps.{IsChildFor}
use Rattle.pm_tree.specs.Indexes.{AnswersFrom, IsIndex, as_link, link_in}
use Rattle.pm_tree.specs.Places.{IsPlaceIn, IsPlace, HasGap}
use Rattle.pm_pages.specs.SoundPages.{PassesAll}
use Rattle.pm_tree.specs.declared.places.Place.TheVariants as place
use Rattle.pm_pages.proofs.ToldPages.{pages_told}
use Rattle.pm_tree.proofs.Descents.{at_page, answers_leaf, answers_child}
use Rattle.pm_tree.proofs.MapLists.{get_between}
use Rattle.pm_tree.proofs.SoundLooks.{answers_are_nodes}

-- a key that a tree has is in the leaf where it belongs
pub no_gap : (T : Type 0) (a b : Paged) (m count at limit i held : ℕ) (key page : List ℕ) → T → LooksAtPages T a b m → IsNumberIn b Pages count → at < count → IsInHand b at page → HasGap page key i → AnswersFrom a.pages key limit at (Some held) → ⊥
no_gap T a b m count at limit i held key page t looks number lt in_hand gap answers =
    let same = at_page T a b m count at page t looks number lt in_hand in
    let there = ap (λ (q : List ℕ). get_in (items_of q) key) (sym same) ∙ answers_leaf a.pages key limit at (Some held) answers (ap kind_of same ∙ gap.kind) in
    let none = get_between (items_of page) key i gap.between in
    let both : None ≡ Some held = sym none ∙ there in
    absurd (cc both)

-- the tree below the key's child has it
pub child_has : (T : Type 0) (a b : Paged) (m count at limit i child held : ℕ) (key : List ℕ) → T → LooksAtPages T a b m → IsNumberIn b Pages count → at < count → IsPlaceIn b at key (place.Below i child) → AnswersFrom a.pages key limit at (Some held) → AnswersFrom b.pages key (limit - 1) child (Some held)
child_has T a b m count at limit i child held key t looks number lt below answers =
    let same = at_page T a b m count at below.page t looks number lt below.in_hand in
    let answered = answers_child a.pages key limit at (Some held) i answers (ap kind_of same ∙ below.is.kind) (subst (λ (q : List ℕ). IsChildFor (items_of q) key i) (sym same) below.is.for_key) in
    subst (λ (q : Partition × ℕ). AnswersFrom q.0 key (limit - 1) q.1 (Some held)) {x = (a.pages, child_of (page_at a.pages at) i)} {y = (b.pages, child)}
    (λ k. (sym (pages_told T a b m t looks) k, (ap (λ (q : List ℕ). child_of q i) same ∙ sym below.is.is) k)) answered

-- a page on the way is one of the tree
pub place_is_node : (T : Type 0) (a b : Paged) (m count limit at held : ℕ) (key : List ℕ) → T → PassesAll a → LooksAtPages T a b m → IsNumberIn b Pages count → AnswersFrom a.pages key limit at (Some held) → IsPlace b count at key place.Other → ⊥
place_is_node T a b m count limit at held key t all looks number answers found =
    answers_are_nodes T a b m count limit at key (Some held) t all looks number answers
    (elim found [ inl beside ↦ inl (record { other = refl; where_at = beside.where_at }) | inr r ↦ inr (r.0, record { page = r.1.page; in_hand = r.1.in_hand; is = r.1.is }) ])

-- the word of a link that is there
pub held_word : (word : Option ℕ) (held : Link) → option_map as_link word ≡ Some held → (w : ℕ) × (word ≡ Some w)
held_word None held is = absurd (cc is)
held_word (Some w) held is = (w, refl)

-- an index without a root has no key
pub none_held : (pages : Partition) (height : ℕ) (nodes : List ℕ) (items : List Item) (key : List ℕ) (held : Link) → IsIndex pages 0 height nodes items → link_in items key ≡ Some held → ⊥
none_held pages zero nodes items key held index there = (let none = ap (λ (xs : List Item). link_in xs key) (sym index.2) ∙ there in absurd (cc none))
none_held pages (suc levels) nodes items key held index there = index.some refl
