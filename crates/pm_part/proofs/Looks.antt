-- Where a key stands in a page of a tree, as what the page says of the key.
use Rattle.std.proofs.Common.{ℕ, List, Some, None, sym, ap, ◌∙◌, inl, inr}
use Rattle.pm_btpage.specs.IndexPages.{items_of}
use Rattle.pm_pages.specs.Paged.{Paged}
use Rattle.pm_tree.specs.declared.places.Place.{Place}
use Rattle.pm_tree.specs.declared.places.Place.TheVariants as place
use Rattle.pm_tree.specs.declared.steps.Step.{Step}
use Rattle.pm_tree.specs.declared.steps.Step.TheVariants.{Word, Child, Other}
use Rattle.pm_tree.specs.Places.{IsPlaceOn, IsPlace}
use Rattle.pm_tree.specs.Steps.{IsStepOn, IsLook}
use Rattle.pm_tree.proofs.MapLists.{get_found, get_between}

abbrev pub step_at : Place → Step
step_at (place.Held i was) = Word (Some was)
step_at (place.Gap i) = Word None
step_at (place.Full i) = Word None
step_at (place.Below i child) = Child child
step_at place.Other = Other

step_on : (page key : List ℕ) (at : Place) → IsPlaceOn page key at → IsStepOn page key (step_at at)
step_on page key (place.Held i was) h = record { kind = h.kind; well_made = h.well_made; is = ap (λ (w : ℕ). Some w) h.is ∙ sym (get_found (items_of page) key i h.well_made.items.rising h.at) }
step_on page key (place.Gap i) h = record { kind = h.0.kind; well_made = h.0.well_made; is = sym (get_between (items_of page) key i h.0.between) }
step_on page key (place.Full i) h = record { kind = h.0.kind; well_made = h.0.well_made; is = sym (get_between (items_of page) key i h.0.between) }
step_on page key (place.Below i child) h = record { kind = h.kind; well_made = h.well_made; number = i; for_key = h.for_key; is = h.is }
step_on page key place.Other h = h

pub look_at : (p : Paged) (count i : ℕ) (key : List ℕ) (at : Place) → IsPlace p count i key at → IsLook p count i key (step_at at)
look_at p count i key at is = elim is [
  | inl beside ↦ inl (record { other = ap step_at beside.other; where_at = beside.where_at })
  | inr h ↦ inr (h.0, record { page = h.1.page; in_hand = h.1.in_hand; is = step_on h.1.page key at h.1.is })
]
