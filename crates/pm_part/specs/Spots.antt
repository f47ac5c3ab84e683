-- The rows that links name.
use Rattle.std.specs.Prelude.{◌≡◌, ◌≢◌, ℕ, ◌<◌, ◌≤◌, ◌⊎◌, List, [], ◌∷◌, Some, length}
use Rattle.pm_types.specs.declared.page_id.Link.{Link}
use Rattle.pm_types.specs.declared.page_id.PageId.{PageId}
use Rattle.pm_types.specs.Ids.{page_id, link, page_of_link, item_of_link, index_of_id}
use Rattle.pm_data.specs.declared.layout.TheConstants.{DATA_KIND}
use Rattle.pm_data.specs.Rows.{row_cache, row_key, row_value, IsRow}
use Rattle.pm_data.specs.DataPages.{rows_of, row_at, IsDataPage}
use Rattle.pm_meta.specs.declared.slots.MetaSlot.TheVariants.{Pages}
use Rattle.pm_pages.specs.Rows.{kind_of}
use Rattle.pm_pages.specs.Paged.{Paged, IsInHand}
use Rattle.pm_pages.specs.Edits.{IsNumberIn}
use Rattle.pm_tree.specs.Indexes.{as_link}
use Rattle.pm_model.specs.declared.reply.Reply.TheVariants.{Found}
use Rattle.pm_model.specs.ReplyLists.{ReplyList, with_replies}
use Rattle.pm_part.specs.declared.entries.Entry.{Entry}
use Rattle.pm_part.specs.declared.spots.Spot.{Spot}
use Rattle.pm_part.specs.Entries.{IsEntryIn}

-- this item of a data page is this row, of a key of a cache
pub record IsRowOn (page : List ℕ) (item cache : ℕ) (key row : List ℕ) : Type 0 where
  pub kind : kind_of page ≡ DATA_KIND
  pub well_made : IsDataPage page
  pub live : row_at (rows_of page) item ≡ Some row
  pub is_row : IsRow row
  pub cache_is : row_cache row ≡ cache
  pub key_is : row_key row ≡ key

-- this item of a page is no row of the key
abbrev pub HasNoRowOn : List ℕ → ℕ → ℕ → List ℕ → Type 0
HasNoRowOn page item cache key = (row : List ℕ) → IsRowOn page item cache key row → ⊥

-- the link names an item of a page of the partition, which has so many
pub record LeadsTo (at_link : Link) (part count : ℕ) (spot : Spot) : Type 0 where
  pub some : 1 ≤ spot.at
  pub below : spot.at < count
  pub is : at_link ≡ link (page_id part spot.at) spot.item
  pub page : page_of_link at_link ≡ page_id part spot.at
  pub index : index_of_id (page_of_link at_link) ≡ spot.at
  pub item : item_of_link at_link ≡ spot.item

-- the link names no page of the partition but the first
abbrev pub LeadsNowhere : Link → ℕ → ℕ → Type 0
LeadsNowhere at_link part count =
    let at = index_of_id (page_of_link at_link) in
    (at ≡ 0) ⊎ (count ≤ at) ⊎ (page_of_link at_link ≢ page_id part at)

-- a row of a key of a cache, which stands at a spot on a page that is at hand
pub record HasRowIn (p : Paged) (spot : Spot) (cache : ℕ) (key : List ℕ) : Type 0 where
  pub some : 1 ≤ spot.at
  pub below : (n : ℕ) → IsNumberIn p Pages n → spot.at < n
  pub page : List ℕ
  pub in_hand : IsInHand p spot.at page
  pub size : length page ≡ p.page_size
  pub row : List ℕ
  pub is : IsRowOn page spot.item cache key row

-- the value of such a row was appended as a reply
pub record PushesValue (p : Paged) (spot : Spot) (cache : ℕ) (key : List ℕ) (was now : ReplyList) : Type 0 where
  pub has : HasRowIn p spot cache key
  pub pushed : now ≡ with_replies (Found (row_value has.row) ∷ []) was

-- page i is at hand, and this item of it is no row of the key
pub record HasNoRowIn (p : Paged) (i item cache : ℕ) (key : List ℕ) : Type 0 where
  pub page : List ℕ
  pub in_hand : IsInHand p i page
  pub none : HasNoRowOn page item cache key

-- the link names no row of a key of a cache: it names no page, or an item of one that is no such
-- row
abbrev pub NamesNoRow : Paged → Link → ℕ → List ℕ → Type 0
NamesNoRow p at_link cache key =
    ((count : ℕ) × IsNumberIn p Pages count × LeadsNowhere at_link p.part count)
    ⊎ HasNoRowIn p (index_of_id (page_of_link at_link)) (item_of_link at_link) cache key

-- the leaf of a key, which has this name, has an item of it whose link names no row of it
pub record HasWrongLink (p : Paged) (cache : ℕ) (key : List ℕ) (id : PageId) : Type 0 where
  pub entry : Entry
  pub name : id ≡ page_id p.part entry.leaf
  pub is : IsEntryIn p cache key entry
  pub wrong : NamesNoRow p (as_link entry.word) cache key
