-- What the index of a cache says of a key, as it was found on the way from the root.
use Rattle.std.specs.Prelude.{ℕ, ◌<◌, List, Option, None, Some}
use Rattle.pm_meta.specs.declared.slots.MetaSlot.TheVariants.{Pages}
use Rattle.pm_pages.specs.Paged.{Paged}
use Rattle.pm_pages.specs.Edits.{HasMeta, IsNumberIn}
use Rattle.pm_tree.specs.Places.{IsPlaceIn}
use Rattle.pm_tree.specs.declared.places.Place.TheVariants.{Held}
use Rattle.pm_part.specs.declared.entries.Entry.{Entry}
use Rattle.pm_part.specs.Ways.{IsReached}

-- this is the item of a key in the leaf to which the key's way leads, and which is at hand
pub record IsEntryIn (p : Paged) (cache : ℕ) (key : List ℕ) (entry : Entry) : Type 0 where
  pub meta : HasMeta p
  pub reached : IsReached p cache key entry.leaf
  pub below : (n : ℕ) → IsNumberIn p Pages n → entry.leaf < n
  pub place : IsPlaceIn p entry.leaf key (Held entry.item entry.word)

-- the index of a cache has an item of a key
pub record HasEntry (p : Paged) (cache : ℕ) (key : List ℕ) : Type 0 where
  pub entry : Entry
  pub is : IsEntryIn p cache key entry

-- the word of an item, if there is one
abbrev pub word_of : Option Entry → Option ℕ
word_of None = None
word_of (Some entry) = Some entry.word
