-- What calls on pages over page frames changed, where they noted each change.
use Rattle.std.specs.Prelude.{◌≡◌, ℕ, List, [], Some, IfSome, slice_get}
use Rattle.pm_types.specs.Spans.{IsPatch}
use Rattle.pm_disk.specs.Moments.{History}
use Rattle.pm_disk.specs.States.{DeviceState}
use Rattle.pm_stripe.specs.declared.bound.Bound.{Bound}
use Rattle.pm_stripe.specs.declared.held.Held.{Held}
use Rattle.pm_stripe.specs.Covers.{NotesChanges}
use Rattle.pm_stripe.specs.Shown.{shown, IsReady, KeepsBound}
use Rattle.pm_engine.specs.TrackedPages.{ChangesWithin}

-- what was noted of each page in hand is a patch
abbrev pub HavePatches : List Held → Type 0
HavePatches held = (i : ℕ) (h : Held) → slice_get held i ≡ Some h → IfSome h.patch IsPatch

-- Where pages were ready with none in hand, and calls on pages left these, noting each change, each page of the
-- partition changed within its patch, as long as the files' content is told.
abbrev pub NotesEditsInFrames : (Q R : Type 0) → Type 0 → (R → History) → (R → DeviceState) → Type 0
NotesEditsInFrames Q R tells history state = (b c : Bound Q R) → tells → IsReady tells history state b
    → b.stripe.held.items ≡ [] → KeepsBound tells history state b c
    → NotesChanges tells (shown history state b) (shown history state c) → HavePatches c.stripe.held.items
    → ChangesWithin b.stripe.shape.page_size (shown history state b).pages (shown history state c)
