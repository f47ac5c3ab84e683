-- An index page as it may stand in its file: under its own name, with an item, and with names of
-- pages of its partition.
--
-- A page's name has the flag 1 and zero item bits; a row's name is its page's with the number of
-- the row's item.
use Rattle.std.specs.Prelude.{◌≡◌, ℕ, ◌<◌, ◌≤◌, Bool, true, false, List, length}
use Rattle.pm_types.specs.Ids.{page_id, part_of_id, index_of_id, page_of_link}
use Rattle.pm_types.specs.declared.page_id.PageId.{PageId}
use Rattle.pm_btpage.specs.IndexPages.{IndexPage, index_of, items_of, word_in, IsIndexPage}

-- the name of a page of this partition that isn't its first one
pub record IsPageOf (part : ℕ) (page : PageId) : Type 0 where
  pub name : page ≡ page_id part (index_of_id page)
  pub index : 1 ≤ index_of_id page

-- the word is the name of such a page
abbrev pub IsChild : ℕ → ℕ → Type 0
IsChild part word = IsPageOf part (record { 0 = word })

-- the word is the name of a row in such a page
abbrev pub IsLink : ℕ → ℕ → Type 0
IsLink part word = IsPageOf part (page_of_link (record { 0 = word }))

-- a word of a leaf is the name of a row, a word of an inner page that of a child
abbrev pub IsWord : Bool → ℕ → ℕ → Type 0
IsWord true part word = IsLink part word
IsWord false part word = IsChild part word

-- what the page names is of this partition: of an inner page the first child, and the words of all items
pub record NamesPagesOf (part : ℕ) (page : IndexPage) : Type 0 where
  pub first : page.leaf ≡ false → IsChild part page.link
  pub words : (i : ℕ) → i < length page.items → IsWord page.leaf part (word_in page.items i)

-- an index page as it may stand in its file
pub record IsStoredIndex (id : PageId) (page : List ℕ) : Type 0 where
  pub own : (index_of page).id ≡ id
  pub some : 1 ≤ length (items_of page)
  pub well_made : IsIndexPage page
  pub names : NamesPagesOf (part_of_id id) (index_of page)
