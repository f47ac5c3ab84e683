-- What is known of pages that are told.
use Rattle.std.proofs.Common.{◌≡◌, ℕ, ◌<◌, List, sym, ap, ◌∙◌, inl, arith}
use Rattle.std.specs.Prelude.{Some}
use Rattle.pm_meta.specs.declared.slots.MetaSlot.{MetaSlot}
use Rattle.pm_meta.specs.declared.slots.MetaSlot.TheVariants.{Pages}
use Rattle.pm_pages.specs.Rows.{page_at, number_in, number_of, bytes_of}
use Rattle.pm_pages.specs.Paged.{Paged}
use Rattle.pm_pages.specs.Edits.{LooksAtPages, IsNumberIn}
use Rattle.pm_pages.proofs.PageReads.{page_at-below}

-- what the pages say of the partition's numbers
pub number_told : (p : Paged) (slot : MetaSlot) (n : ℕ) → IsNumberIn p slot n → number_in p.pages slot ≡ n
number_told p slot n is = ap (λ o. number_of o slot) is.in_hand.page ∙ sym is.is

-- the bytes of a page below the page count that is at hand
pub page_told : (p : Paged) (count at : ℕ) (page : List ℕ) → IsNumberIn p Pages count → at < count → p.pages at ≡ Some page → page_at p.pages at ≡ page
page_told p count at page number lt is = page_at-below p.pages at (omega (arith, lt, number_told p Pages count number)) ∙ ap bytes_of is

-- a look changes nothing where the store reports its pages
pub pages_told : (T : Type 0) (a b : Paged) (m : ℕ) → T → LooksAtPages T a b m → b.pages ≡ a.pages
pages_told T a b m t looks = λ k j. looks.pages j (inl t) k
