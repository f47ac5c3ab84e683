-- The pages that were asked for since `ready`.
use Rattle.std.specs.Prelude.{◌≡◌, ◌≢◌, ◌≤◌, ◌<◌, ℕ, ◌+◌, Bool, true, false, List, [], ◌∷◌, Option, None, Some}
use Rattle.std.specs.Prelude.{IsSome, IsSomeAnd, IsTrue, if◌then◌else◌, ◌==◌, length, find, unwrap_or}
use Rattle.std.specs.Prelude.{suc, ◌||◌, ◌&&◌, nat_lt, nat_le}
use Rattle.pm_types.specs.Spans.{Coverage, IsPatch}
use Rattle.pm_pages.specs.declared.asked.Asked.{Asked}
use Rattle.pm_pages.specs.Paged.{JoinsPatch, IsWhole}

-- a page that was asked for to be read
abbrev pub to_read : ℕ → Asked
to_read index = record { index = index; is_lent = false; patch = None }

-- the entry of a page, if it was asked for
abbrev pub entry_of : List Asked → ℕ → Option Asked
entry_of asked index = find (λ entry. entry.index == index) asked

-- where the entry of a page stands, or after the last
abbrev pub position_of : List Asked → ℕ → ℕ
position_of [] index = 0
position_of (entry ∷ asked) index = if entry.index == index then 0 else suc (position_of asked index)

-- the entry of a page, or that of a page that is asked for to be read
abbrev pub entry_or_new : List Asked → ℕ → Asked
entry_or_new asked index = unwrap_or (entry_of asked index) (to_read index)

-- whether there is an entry
abbrev pub is_asked : Option Asked → Bool
is_asked None = false
is_asked (Some entry) = true

-- whether the page was lent to be written
abbrev pub is_lent_in : Option Asked → Bool
is_lent_in None = false
is_lent_in (Some entry) = entry.is_lent

-- the patch of a page, if one was noted
abbrev pub patch_of : Option Asked → Option Coverage
patch_of None = None
patch_of (Some entry) = entry.patch

-- the patch of a page of this size
pub record IsPatchFor (size : ℕ) (patch : Coverage) : Type 0 where
  pub fits : IsPatch patch
  pub size_is : patch.page_size ≡ size

-- every patch is that of a page of this size
abbrev pub HavePatchesFor : ℕ → List Asked → Type 0
HavePatchesFor size asked = (j : ℕ) (patch : Coverage) → patch_of (entry_of asked j) ≡ Some patch
    → IsPatchFor size patch

-- page i was asked for, and every other entry is as it was
pub record RegistersPage (was now : List Asked) (i : ℕ) : Type 0 where
  pub others : (j : ℕ) → j ≢ i → entry_of now j ≡ entry_of was j
  pub here : IsSome (entry_of now i)
  pub again : IsSome (entry_of was i) → length now ≡ length was
  pub more : entry_of was i ≡ None → length now ≡ length was + 1

-- the entry of a page that was made anew: lent, and its patch is the whole page
pub record MakesEntry (page_size : ℕ) (entry : Asked) : Type 0 where
  pub lent : IsTrue entry.is_lent
  pub whole : IsSomeAnd entry.patch (IsWhole page_size)
  pub fits : IsSomeAnd entry.patch IsPatch

-- an entry, with a patch joined to its own; one that is the whole page stays so
pub record NotesEntry (was : Asked) (patch : Coverage) (now : Asked) : Type 0 where
  pub lent : now.is_lent ≡ was.is_lent
  pub joins : IsSomeAnd now.patch (JoinsPatch was.patch patch)
  pub fits : IsSomeAnd now.patch IsPatch
  pub stays_whole : (size : ℕ) → IsSomeAnd was.patch (IsWhole size) → IsSomeAnd now.patch (IsWhole size)

-- a patch covers a byte
abbrev pub has_bytes : Coverage → Bool
has_bytes patch = patch.whole || nat_lt 0 (length patch.spans)

-- a page with this patch was changed
abbrev pub is_changed : Option Coverage → Bool
is_changed None = false
is_changed (Some patch) = has_bytes patch

-- this is the lowest index, from the given one on, of a page that was changed, or there is none
abbrev pub IsNextChanged : (ℕ → Option Coverage) → ℕ → Option ℕ → Type 0
IsNextChanged patch from None = (i : ℕ) → from ≤ i → is_changed (patch i) ≡ false
IsNextChanged patch from (Some index) = (from ≤ index) × (is_changed (patch index) ≡ true)
    × ((i : ℕ) → from ≤ i → i < index → is_changed (patch i) ≡ false)

-- whether an index is below the least one so far, if there is one
abbrev pub is_below : ℕ → Option ℕ → Bool
is_below index None = true
is_below index (Some least) = nat_lt index least

-- the lower one of the least index so far and of this one, where that counts: its page was changed, and it is
-- from a given one on
abbrev pub lower_of : Bool → ℕ → Option ℕ → ℕ → Option ℕ
lower_of changed from least index = if changed && nat_le from index && is_below index least then Some index else least
