-- What a page in hand is replaced by.
use Rattle.std.specs.Prelude.{Vec, ◌≡◌, ℕ, true, false, List, set, Option, None, Some, slice_get}
use Rattle.std.specs.Global.{Global}
use Rattle.std.specs.Vec.{vec_capacity, with_item}
use Rattle.pm_types.specs.declared.page_id.PageId.{PageId}
use Rattle.pm_types.specs.Ids.{page_id}
use Rattle.pm_types.specs.Spans.{Coverage}
use Rattle.pm_region.specs.Lease.{with_bytes}
use Rattle.pm_pages.specs.Paged.{JoinsPatch, IsWhole}
use Rattle.pm_stripe.specs.declared.held.Held.{Held}
use Rattle.pm_stripe.specs.declared.stripe.Stripe.{Stripe}
use Rattle.pm_stripe.specs.declared.bound.Bound.{Bound}
use Rattle.pm_stripe.specs.ChangedPages.{is_changed}
use Rattle.pm_stripe.specs.Kept.{held_at, place_at}
use Rattle.pm_stripe.specs.Zeros.{zeroed}

-- The page in hand with this name is another now; nothing else changed.
pub record Replaces (s t : Stripe) (id : PageId) (page now : Held) : Type 0 where
  pub at : held_at s.held.items id.0 ≡ Some page
  pub held : t.held.items ≡ set s.held.items (place_at s.held.items id.0) now
  pub room : vec_capacity t.held ≡ vec_capacity s.held
  pub rest : t ≡ record s { held = t.held }

-- the page in hand with this name was lent
pub record LendsPage (s t : Stripe) (id : PageId) : Type 0 where
  pub page : Held
  pub is : Replaces s t id page (record page { is_lent = true })

-- This patch was joined to that of the page in hand with this name.
pub record NotesPage (s t : Stripe) (id : PageId) (patch : Coverage) : Type 0 where
  pub page : Held
  pub joined : Coverage
  pub joins : JoinsPatch page.patch patch joined
  pub changed : is_changed (Some joined) ≡ false → is_changed page.patch ≡ false
  pub is : Replaces s t id page (record page { patch = Some joined })

-- The page in hand with this name was made anew: zeros, lent, and its patch is the whole page.
pub record ClearsPage (s t : Stripe) (id : PageId) : Type 0 where
  pub page : Held
  pub patch : Coverage
  pub whole : IsWhole s.shape.page_size patch
  pub is : Replaces s t id page (record page { lease = zeroed page.lease; is_lent = true; patch = Some patch })

-- a page in hand with these bytes
abbrev pub rewritten : Held → List ℕ → Held
rewritten h bytes = record h { lease = with_bytes h.lease bytes }

-- the pages in hand, with these bytes as the one in this place, if there is one
abbrev pub held_with : Vec Held Global → ℕ → Option Held → List ℕ → Vec Held Global
held_with held at None bytes = held
held_with held at (Some h) bytes = with_item held at (rewritten h bytes)

abbrev pub page_with : Vec Held Global → ℕ → List ℕ → Vec Held Global
page_with held at bytes = held_with held at (slice_get held.items at) bytes

-- the stripe, with these bytes as the page in hand with this name
abbrev pub stripe_with : Stripe → PageId → List ℕ → Stripe
stripe_with s id bytes = record s { held = page_with s.held (place_at s.held.items id.0) bytes }

module _ {Q R : Type 0} where
  -- the same of one that is bound, with these bytes as page i of the partition that is meant
  abbrev pub bound_with : Bound Q R → ℕ → List ℕ → Bound Q R
  bound_with b i bytes = record b { stripe = stripe_with b.stripe (page_id b.part i) bytes }
