-- What making a page anew does to what a worker keeps.
use Rattle.std.specs.Prelude.{◌≡◌, ◌≢◌, ◌⊎◌, ℕ, ◌+◌, true, List, length, replicate, Option, Some, None}
use Rattle.pm_types.specs.declared.page_id.PageId.{PageId}
use Rattle.pm_types.specs.Spans.{Coverage}
use Rattle.pm_pages.specs.Paged.{IsWhole}
use Rattle.pm_locks.specs.Sight.{LockTable}
use Rattle.pm_stripe.specs.declared.held.Held.{Held}
use Rattle.pm_stripe.specs.Kept.{Kept, held_at}
use Rattle.pm_stripe.specs.Moves.{ChangesOnePage}
use Rattle.pm_stripe.specs.Sights.{KeepsSight}

-- so many more are in hand: none, or one, which wasn't
abbrev pub MayAddOne : List Held → List Held → ℕ → Type 0
MayAddOne held held' id =
    (length held' ≡ length held) ⊎ ((held_at held id ≡ None) × (length held' ≡ length held + 1))

-- the page in hand with this name is all zeros, lent, and its patch is the whole page
pub record IsMade (held : List Held) (id page_size : ℕ) : Type 0 where
  pub page : Held
  pub patch : Coverage
  pub at : held_at held id ≡ Some page
  pub lent : page.is_lent ≡ true
  pub patched : page.patch ≡ Some patch
  pub whole : IsWhole page_size patch
  pub zeros : page.lease.bytes ≡ replicate page_size 0

-- The page is in hand, made anew. All else is as it was.
pub record MakesAnew (locks : LockTable) (k k' : Kept) (id : PageId) : Type 0 where
  pub moves : (file : PageId → Option (List ℕ)) → ChangesOnePage locks (Unit {0}) file k k' id
  pub made : IsMade k'.held id.0 k.shape.page_size
  pub hands : (j : ℕ) → j ≢ id.0 → held_at k'.held j ≡ held_at k.held j
  pub count : MayAddOne k.held k'.held id.0
  pub sight : KeepsSight locks k.seat.view k'.seat.view
