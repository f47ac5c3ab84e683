-- What code over any pages says of what it changed, by which an operation may end.
use Rattle.std.specs.Prelude.{◌≡◌, ℕ, ◌<◌, []}
use Rattle.pm_disk.specs.Moments.{History}
use Rattle.pm_disk.specs.States.{DeviceState}
use Rattle.pm_pages.specs.Edits.{byte_of}
use Rattle.pm_pages.specs.Paged.{Paged, IsTold, CoversByte}
use Rattle.pm_stripe.specs.declared.bound.Bound.{Bound}
use Rattle.pm_stripe.specs.Puts.{AreToldCovered}
use Rattle.pm_stripe.specs.Shown.{shown, IsReady, KeepsBound}

-- each byte that changed is covered by its page's patch
pub record NotesChanges (T : Type 0) (old new : Paged) : Type 0 where
  pub covered : (j k : ℕ) → k < old.page_size → IsTold T old j → (CoversByte (new.patch j) k → ⊥)
      → byte_of new j k ≡ byte_of old j k

-- Where pages were ready with none in hand, and calls on pages left these, noting each change, each page in
-- hand is covered that the end of an operation asks for.
abbrev pub CoversPages : (Q R : Type 0) → Type 0 → (R → History) → (R → DeviceState) → Type 0
CoversPages Q R tells history state = (b c : Bound Q R) → IsReady tells history state b
    → b.stripe.held.items ≡ [] → KeepsBound tells history state b c
    → NotesChanges tells (shown history state b) (shown history state c)
    → AreToldCovered tells c.stripe.held.items
