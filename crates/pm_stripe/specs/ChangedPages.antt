-- What the log is to have of a page that an operation changed.
use Rattle.std.specs.Prelude.{ℕ, Bool, true, false, ◌&&◌, not, if◌then◌else◌}
use Rattle.std.specs.Prelude.{List}
use Rattle.pm_types.specs.declared.flag.Flag.{Flag}
use Rattle.pm_types.specs.declared.flag.Flag.TheVariants as flag
use Rattle.pm_types.specs.declared.page_id.PageId.{PageId}
use Rattle.pm_types.specs.Spans.{Coverage}
use Rattle.pm_frame.specs.Frames.{Frame}
use Rattle.pm_records.specs.Records.{Record, Snapshot, Delta, kind_of, payload_of}
pub use Rattle.pm_pages.specs.Asked.{has_bytes, is_changed}
use Rattle.pm_pages.specs.Deltas.{delta_of}
use Rattle.pm_records.specs.Operations.{frame_of}
use Rattle.pm_stripe.specs.declared.held.Held.{Held}

-- A page that an operation changed.
pub record ChangedPage : Type 0 where
  pub page : PageId
  -- its bytes after the operation, and which of them the operation changed
  pub bytes : List ℕ
  pub patch : Coverage
  -- whether the log has had it whole since the last checkpoint began
  pub is_logged : Bool

-- its record: the ranges that were changed, or the page as a whole, where the log has not had that yet or the
-- patch is the whole page
abbrev pub page_record : ChangedPage → Record
page_record p =
    if p.is_logged && not p.patch.whole then Delta p.page (delta_of p.bytes p.patch.spans)
    else Snapshot p.page p.bytes

-- a record as an operation has it
abbrev pub frame_for : Record → Frame
frame_for rec = frame_of (kind_of rec) (payload_of rec)

-- a page whose frame is Dirty was changed, and logged, since the last checkpoint began
abbrev pub is_logged : Flag → Bool
is_logged flag.Empty = false
is_logged flag.Clean = false
is_logged flag.Dirty = true
is_logged flag.Due = false
is_logged flag.Done = false

-- a page in hand that has this patch, as a changed one
abbrev pub as_changed : Held → Coverage → ChangedPage
as_changed h patch = record {
  page = h.page;
  bytes = h.lease.bytes;
  patch = patch;
  is_logged = is_logged h.flag;
}
