-- A row of slots with entries.
use Rattle.std.specs.Prelude.{◌≡◌, ◌≢◌, ℕ, ◌+◌, ◌*◌, ◌/◌, ◌%◌, ◌^◌, ◌<◌, ◌≤◌, List, [], ◌∷◌, length}
use Rattle.std.specs.Prelude.{Option, Some, None, IsSome, MatchOption, sum_by, slice_index_or}
use Rattle.std.specs.FinMap.{FinMap, from_entries}
use Rattle.std.specs.Ordering.{nat_cmp}
use Rattle.pm_types.specs.declared.page_id.PageId.{PageId}
use Rattle.pm_ptable.specs.declared.slots.Entry.{Entry}
use Rattle.pm_ptable.specs.declared.slots.TheConstants.{SPREAD}

-- the slot at this index; past the end there is none, as in an empty one
abbrev pub slot_at : List (Option Entry) → ℕ → Option Entry
slot_at slots i = slice_index_or slots i None

-- where a page's entry is sought first
unfoldable pub home_of : ℕ → PageId → ℕ
home_of homes page = page.0 * SPREAD % 2 ^ 64 / 2 ^ 32 * homes / 2 ^ 32

-- the slot holds another page
abbrev pub HoldsOther : PageId → Option Entry → Type 0
HoldsOther page None = ⊥
HoldsOther page (Some e) = e.page.0 ≢ page.0

-- the slot is empty or holds the page
abbrev pub MayHold : PageId → Option Entry → Type 0
MayHold page None = Unit {0}
MayHold page (Some e) = e.page.0 ≡ page.0

-- all slots from the first index up to the other hold other pages, and the slot there doesn't
pub record IsProbeEnd (slots : List (Option Entry)) (from : ℕ) (page : PageId) (to : ℕ) : Type 0 where
  pub ordered : from ≤ to
  pub within : to ≤ length slots
  pub passed : (j : ℕ) → from ≤ j → j < to → HoldsOther page (slot_at slots j)
  pub stops : MayHold page (slot_at slots to)

-- the entries, as pairs of a page's number with a frame and a tag
abbrev pub entries_of : List (Option Entry) → List (ℕ × (ℕ × ℕ))
entries_of [] = []
entries_of (None ∷ slots) = entries_of slots
entries_of (Some e ∷ slots) = (e.page.0, (e.frame, e.tag)) ∷ entries_of slots

-- the slots as a map from the numbers of pages
abbrev pub map_of : List (Option Entry) → FinMap nat_cmp (ℕ × ℕ)
map_of slots = from_entries (entries_of slots)

-- how many slots hold an entry
abbrev pub count_in : Option Entry → ℕ
count_in None = 0
count_in (Some e) = 1

abbrev pub filled : List (Option Entry) → ℕ
filled slots = sum_by count_in slots

-- the index is the page's home or after it, and no slot between the two is empty
pub record IsReachable (homes : ℕ) (slots : List (Option Entry)) (index : ℕ) (page : PageId)
    : Type 0 where
  pub after : home_of homes page ≤ index
  pub full : (j : ℕ) → home_of homes page ≤ j → j < index → IsSome (slot_at slots j)

-- no entry is sought across an empty slot
abbrev pub IsSettled : ℕ → List (Option Entry) → Type 0
IsSettled homes slots =
    (i : ℕ) (e : Entry) → slot_at slots i ≡ Some e → IsReachable homes slots i e.page

-- the same, where one slot between the two may be empty
pub record IsReachableBut (homes : ℕ) (slots : List (Option Entry)) (gap index : ℕ) (page : PageId)
    : Type 0 where
  pub after : home_of homes page ≤ index
  pub full : (j : ℕ) → home_of homes page ≤ j → j < index → j ≢ gap → IsSome (slot_at slots j)

-- no entry is sought across an empty slot but the gap
abbrev pub IsSettledBut : ℕ → List (Option Entry) → ℕ → Type 0
IsSettledBut homes slots gap =
    (i : ℕ) (e : Entry) → slot_at slots i ≡ Some e → IsReachableBut homes slots gap i e.page

-- no page has two entries
abbrev pub IsSingle : List (Option Entry) → Type 0
IsSingle slots = (i j : ℕ) (e f : Entry)
    → slot_at slots i ≡ Some e → slot_at slots j ≡ Some f → e.page.0 ≡ f.page.0 → i ≡ j

-- each entry is found from its page's home on, and an empty slot after every home
pub record IsRow (homes : ℕ) (slots : List (Option Entry)) : Type 0 where
  pub some : 0 < homes
  pub small : length slots < 2 ^ 32
  pub room : homes + filled slots ≤ length slots
  pub settled : IsSettled homes slots
  pub single : IsSingle slots

-- such a row into which so many more entries fit
pub record IsTable (homes : ℕ) (slots : List (Option Entry)) (spare : ℕ) : Type 0 where
  pub row : IsRow homes slots
  pub fit : homes + filled slots + spare ≤ length slots

-- no slot holds the page
abbrev pub HasNone : List (Option Entry) → PageId → Type 0
HasNone slots page = (i : ℕ) (e : Entry) → slot_at slots i ≡ Some e → e.page.0 ≢ page.0

-- the slot there holds the page, or it is empty, none holds the page, and it may be put there
pub record IsSlotFor (homes : ℕ) (slots : List (Option Entry)) (page : PageId) (index : ℕ)
    : Type 0 where
  pub within : index < length slots
  pub reachable : IsReachable homes slots index page
  pub holds : MatchOption (slot_at slots index) (HasNone slots page) (λ e. e.page.0 ≡ page.0)
