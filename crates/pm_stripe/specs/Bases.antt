-- Pages as they were before an operation changed them.
use Rattle.std.specs.Prelude.{◌≡◌, ℕ, ◌<◌, ◌⊎◌, List, Option, Some, None}
use Rattle.pm_types.specs.declared.page_id.PageId.{PageId}
use Rattle.pm_pages.specs.Paged.{CoversByte}
use Rattle.pm_locks.specs.declared.view.Entry.{Entry}
use Rattle.pm_stripe.specs.declared.held.Held.{Held}
use Rattle.pm_stripe.specs.Kept.{Kept, held_at, place_of, bytes_by, IsStaying}

-- the bytes with which a page came into hand, or that it has where it isn't in hand
abbrev pub base_by : Option Held → Option (ℕ × ℕ) → List Entry → ℕ → Option (List ℕ) → Option (List ℕ)
base_by (Some h) place entries n file = Some h.was.value.bytes
base_by None place entries n file = bytes_by None place entries n file

abbrev pub base_bytes : (PageId → Option (List ℕ)) → Kept → PageId → Option (List ℕ)
base_bytes file k id = base_by (held_at k.held id.0) (place_of k id) k.seat.view.entries k.number (file id)

-- it is in hand, and its patch covers each byte
abbrev pub IsAllCovered : ℕ → Option Held → Type 0
IsAllCovered size None = ⊥
IsAllCovered size (Some h) = (n : ℕ) → n < size → CoversByte h.patch n

-- What calls on pages keep of how they were: of a page that isn't covered as a whole, where the files' content
-- is told, or where it stays in its frame, as it did before. One that is covered as a whole is so still.
pub record KeepsBases (size : ℕ) (tells : Type 0) (file file' : PageId → Option (List ℕ)) (k k' : Kept)
    : Type 0 where
  pub whole : (id : PageId) → IsAllCovered size (held_at k.held id.0) → IsAllCovered size (held_at k'.held id.0)
  pub told : tells → (id : PageId)
      → IsAllCovered size (held_at k'.held id.0) ⊎ (base_bytes file' k' id ≡ base_bytes file k id)
  pub stay : (id : PageId) → IsStaying k' id → IsStaying k id
      × (IsAllCovered size (held_at k'.held id.0) ⊎ (base_bytes file' k' id ≡ base_bytes file k id))
