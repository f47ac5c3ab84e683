-- What an operation that isn't ended leaves in hand: pages that were lent count as changed as a whole.
use Rattle.std.specs.Prelude.{◌≡◌, ℕ, ◌<◌, ◌≤◌, ◌⊎◌, true, false, List, length, set, Option, Some, None}
use Rattle.std.specs.Prelude.{slice_get}
use Rattle.std.specs.Vec.{vec_capacity}
use Rattle.pm_types.specs.declared.page_id.PageId.{PageId}
use Rattle.pm_types.specs.Spans.{Coverage}
use Rattle.pm_pages.specs.Paged.{IsWhole}
use Rattle.pm_locks.specs.Sight.{LockTable}
use Rattle.pm_stripe.specs.declared.held.Held.{Held}
use Rattle.pm_stripe.specs.declared.stripe.Stripe.{Stripe}
use Rattle.pm_stripe.specs.Kept.{Kept, held_at, page_bytes, is_known, Holds, AreClean, IsStaying}
use Rattle.pm_stripe.specs.Puts.{put_flag, unended_flag, IsCovered}

-- of a page that was lent the patch is the whole page now; another is as it was
pub record IsMarked (size : ℕ) (page now : Held) (patch : Coverage) : Type 0 where
  pub whole : IsWhole size patch
  pub is : ((page.is_lent ≡ false) × (now ≡ page))
      ⊎ ((page.is_lent ≡ true) × (now ≡ record page { patch = Some patch }))

-- The page in this place was marked so; nothing else changed.
pub record MarksPage (s t : Stripe) (at : ℕ) : Type 0 where
  pub page : Held
  pub now : Held
  pub patch : Coverage
  pub there : slice_get s.held.items at ≡ Some page
  pub is : IsMarked s.shape.page_size page now patch
  pub held : t.held.items ≡ set s.held.items at now
  pub room : vec_capacity t.held ≡ vec_capacity s.held
  pub rest : t ≡ record s { held = t.held }

-- a page in hand is put back as one of an operation that isn't ended, with the bytes that it had
pub record IsMarkedAt (held : List Held) (at : ℕ) (page : Held) : Type 0 where
  pub now : Held
  pub there : slice_get held at ≡ Some now
  pub page_is : now.page ≡ page.page
  pub frame_is : now.frame ≡ page.frame
  pub tag_is : now.tag ≡ page.tag
  pub lease_is : now.lease ≡ page.lease
  pub flag_is : put_flag now ≡ unended_flag page

-- Of the first so many pages in hand each is covered by its patch now, and is marked. The others are as they
-- were in hand, and all pages have the bytes that they had.
pub record MarksPages (locks : LockTable) (count : ℕ) (k k' : Kept) : Type 0 where
  pub holds : Holds locks k'
  pub long : length k'.held ≡ length k.held
  pub free : k'.free ≡ k.free
  pub shape : k'.shape ≡ k.shape
  pub number : k'.number ≡ k.number
  pub covered : (i : ℕ) (h : Held) → slice_get k'.held i ≡ Some h → i < count → IsCovered h
  pub marked : (i : ℕ) (h : Held) → slice_get k.held i ≡ Some h → i < count → IsMarkedAt k'.held i h
  pub after : (i : ℕ) → count ≤ i → slice_get k'.held i ≡ slice_get k.held i
  pub names : (id : ℕ) → held_at k.held id ≡ None → held_at k'.held id ≡ None
  pub known : (id : PageId) → is_known k' id ≡ is_known k id
  pub staying : (id : PageId) → IsStaying k id → IsStaying k' id
  pub pages : (file : PageId → Option (List ℕ)) (id : PageId) → page_bytes file k' id ≡ page_bytes file k id
  pub clean : (file : PageId → Option (List ℕ)) → AreClean file k → AreClean file k'
