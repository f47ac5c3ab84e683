-- A search from a page's home on ends at its entry, or at an empty slot.
use Rattle.std.proofs.Common.{◌≡◌, ℕ, zero, suc, ◌+◌, ◌<◌, ◌≤◌, ◌⊎◌, ⊎_elim, List, [], ◌∷◌, length, Option, Some, None, refl, sym, ap, ◌∙◌, subst, arith}
use Rattle.std.proofs.lemmas.Bool.{cases_order, cases_lt}
use Rattle.std.proofs.lemmas.List.Sums.{sum_by-cons}
use Rattle.std.specs.FinMap.{get}
use Rattle.std.specs.Option.{IsSome, MatchOption, option_map}
use Rattle.pm_types.specs.declared.page_id.PageId.{PageId}
use Rattle.pm_ptable.specs.declared.slots.Entry.{Entry}
use Rattle.pm_ptable.specs.Slots.{slot_at, home_of, filled, count_in, HoldsOther, MayHold, IsProbeEnd, IsSingle, IsRow, HasNone, IsSlotFor, map_of}
use Rattle.pm_ptable.proofs.Lookups.{value_of, found, found-none, found-single, get-map_of}

-- pages with one number have one home
pub same_home : (homes : ℕ) (a b : PageId) → a.0 ≡ b.0 → home_of homes a ≡ home_of homes b
same_home homes a b e = ap (λ n. home_of homes (record { 0 = n })) e

is_filled : (page : PageId) (x : Option Entry) → HoldsOther page x → IsSome x
is_filled page None h = absurd h
is_filled page (Some e) h = refl

-- an empty slot isn't filled
pub not_filled : {x : Option Entry} → x ≡ None → IsSome x → ⊥
not_filled none some = let clash = subst IsSome none some in cc

filled-cons : (x : Option Entry) (slots : List (Option Entry)) → filled slots ≤ filled (x ∷ slots)
filled-cons x slots = omega (arith, sum_by-cons count_in x slots)

filled-Some : (e : Entry) (slots : List (Option Entry)) → filled (Some e ∷ slots) ≡ filled slots + 1
filled-Some e slots = omega (arith, sum_by-cons count_in (Some e) slots)

-- where all slots from an index on are filled, there are as many entries
all_filled : (slots : List (Option Entry)) (from : ℕ) → ((j : ℕ) → from ≤ j → j < length slots → IsSome (slot_at slots j)) → length slots ≤ from + filled slots
all_filled [] from full = omega arith
all_filled (x ∷ slots) (suc from) full = let rest = all_filled slots from (λ j h k. full (suc j) (omega arith) (omega arith)) in omega (arith, filled-cons x slots)
all_filled (None ∷ slots) zero full = absurd (not_filled refl (full 0 (omega arith) (omega arith)))
all_filled (Some e ∷ slots) zero full = let rest = all_filled slots 0 (λ j h k. full (suc j) (omega arith) (omega arith)) in omega (arith, filled-Some e slots)

-- a search ends within the row
pub ends_within : (homes : ℕ) (slots : List (Option Entry)) (page : PageId) (from to : ℕ) → homes + filled slots ≤ length slots → from < homes → IsProbeEnd slots from page to → to < length slots
ends_within homes slots page from to room low seeks =
    ⊎_elim
    (λ (h : to < length slots). h)
    (λ (h : length slots ≤ to). let full = all_filled slots from (λ j a b. is_filled page (slot_at slots j) (seeks.passed j a (omega arith))) in absurd (omega arith))
    (cases_lt to (length slots))

-- a search from the page's home ends where its entry is, or may be put
module _ (homes : ℕ) (slots : List (Option Entry)) (page : PageId) (to : ℕ) (row : IsRow homes slots) (low : home_of homes page < homes) (seeks : IsProbeEnd slots (home_of homes page) page to) where
  none_after : slot_at slots to ≡ None → HasNone slots page
  none_after empty i e at same =
      let stands = row.settled i e at in let home = same_home homes e.page page same in
      ⊎_elim
      (λ (h : i ≡ to). not_filled empty (subst (λ k. IsSome (slot_at slots k)) h (subst IsSome (sym at) refl)))
      (λ (w : (i < to) ⊎ (to < i)). ⊎_elim
      (λ (h : i < to). subst (HoldsOther page) at (seeks.passed i (omega (arith, stands.after, home)) h) same)
      (λ (h : to < i). not_filled empty (stands.full to (omega (arith, seeks.ordered, home)) h)) w)
      (cases_order i to)

  holds : (x : Option Entry) → slot_at slots to ≡ x → MatchOption x (HasNone slots page) (λ e. e.page.0 ≡ page.0)
  holds None is = none_after is
  holds (Some e) is = subst (MayHold page) is seeks.stops

  pub ends_at_slot : IsSlotFor homes slots page to
  ends_at_slot = record {
    within = ends_within homes slots page (home_of homes page) to row.room low seeks;
    reachable = record { after = seeks.ordered; full = λ j a b. is_filled page (slot_at slots j) (seeks.passed j a b) };
    holds = holds (slot_at slots to) refl;
  }

-- what the map has for the page stands in its slot
pub found_at_slot : (homes : ℕ) (slots : List (Option Entry)) (page : PageId) (to : ℕ) → IsSingle slots → IsSlotFor homes slots page to
    → get (map_of slots) page.0 ≡ option_map value_of (slot_at slots to)
found_at_slot homes slots page to single index = get-map_of slots page.0 ∙ by_cases (slot_at slots to) refl index.holds
  where
    by_cases : (x : Option Entry) → slot_at slots to ≡ x → MatchOption x (HasNone slots page) (λ e. e.page.0 ≡ page.0) → found page.0 slots ≡ option_map value_of x
    by_cases None is none = found-none page.0 slots none
    by_cases (Some e) is same = ap (λ q. found q slots) (sym same) ∙ found-single slots to e single is
