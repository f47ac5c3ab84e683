-- What an operation hands to the log writer.
use Rattle.std.specs.Prelude.{◌≡◌, ℕ, ◌+◌, ◌<◌, ◌≤◌, List, [], ◌∷◌, ◌++◌, length, map, Option, Some, None}
use Rattle.std.specs.Prelude.{IsTrue, IfSome, slice_get}
use Rattle.std.specs.List.{Contains, sum_by}
use Rattle.pm_types.specs.PageSizes.{IsPageSize}
use Rattle.pm_types.specs.Spans.{Coverage, IsPatch}
use Rattle.pm_records.specs.PageNames.{IsPageName}
use Rattle.pm_records.specs.Records.{Record, Logical, Snapshot, Delta, CpBegin, Restart, Seal, IsLogical}
use Rattle.pm_records.specs.declared.record.LogRecord.{LogRecord}
use Rattle.pm_records.specs.Views.{record_view}
use Rattle.pm_frame.specs.Frames.{Frame}
use Rattle.pm_records.specs.Operations.{Operation, IsOperation, IsLogged, SpellRecords, record_bytes}
use Rattle.pm_records.specs.Operations.{operation_bytes}
use Rattle.pm_stripe.specs.declared.limits.TheConstants.{PAGE_EXTRA}
use Rattle.pm_stripe.specs.declared.held.Held.{Held}
use Rattle.pm_stripe.specs.ChangedPages.{ChangedPage, page_record, frame_for, has_bytes}
use Rattle.pm_stripe.specs.ChangedPages.{is_changed, as_changed}

-- the pages' names rise from `low` on
abbrev pub RiseByName : ℕ → List ChangedPage → Type 0
RiseByName low [] = Unit {0}
RiseByName low (p ∷ ps) = (low ≤ p.page.0) × RiseByName (p.page.0 + 1) ps

-- this is a page in hand that was changed
pub record IsChangedPage (held : List Held) (p : ChangedPage) : Type 0 where
  pub place : ℕ
  pub page : Held
  pub patch : Coverage
  pub at : slice_get held place ≡ Some page
  pub patched : page.patch ≡ Some patch
  pub some : IsTrue (has_bytes patch)
  pub is : p ≡ as_changed page patch

-- these are the pages in hand that were changed, each once, by rising name
pub record ListsChanged (held : List Held) (listed : List ChangedPage) : Type 0 where
  pub rise : RiseByName 0 listed
  pub all : (p : ChangedPage) → IsChangedPage held p → Contains listed p
  pub only : (p : ChangedPage) → Contains listed p → IsChangedPage held p

-- a page in hand as the log may have it: it has a page's name, is as long as a page, and its patch is of one
pub record IsLoggable (h : Held) : Type 0 where
  pub named : IsPageName h.page
  pub sized : IsPageSize (length h.lease.bytes)
  pub patched : IfSome h.patch (λ patch. patch.page_size ≡ length h.lease.bytes)

-- each page in hand is so, and no two have one name
pub record AreLoggable (held : List Held) : Type 0 where
  pub each : (i : ℕ) (h : Held) → slice_get held i ≡ Some h → IsLoggable h
  pub once : (i j : ℕ) (g h : Held) → slice_get held i ≡ Some g → slice_get held j ≡ Some h
      → g.page.0 ≡ h.page.0 → g ≡ h

-- the room that their records take at most
abbrev pub pages_room : List Held → ℕ
pages_room held = sum_by (λ h. length h.lease.bytes + PAGE_EXTRA) held

-- the page was changed, and its name is `low` or above it, and below `high`
pub record IsChangedFrom (h : Held) (low high : ℕ) : Type 0 where
  pub changed : IsTrue (is_changed h.patch)
  pub from : low ≤ h.page.0
  pub below : h.page.0 < high

-- a changed page's name is below `low`, or the page isn't changed
abbrev pub NoneFrom : List Held → ℕ → Type 0
NoneFrom held low =
    (i : ℕ) (h : Held) → slice_get held i ≡ Some h → IsTrue (is_changed h.patch) → h.page.0 < low

-- of the changed pages with a name from `low` on, the one in this place has the least
pub record IsNextFrom (held : List Held) (low place : ℕ) : Type 0 where
  pub page : Held
  pub at : slice_get held place ≡ Some page
  pub here : IsChangedFrom page low (page.page.0 + 1)
  pub least : (i : ℕ) (h : Held) → slice_get held i ≡ Some h → IsTrue (is_changed h.patch) → low ≤ h.page.0
      → page.page.0 ≤ h.page.0

-- the record of a page in hand that was changed
pub record WritesPage (h : Held) (bytes : List ℕ) : Type 0 where
  pub patch : Coverage
  pub patched : h.patch ≡ Some patch
  pub fits : IsPatch patch
  pub logged : IsLogged (frame_for (page_record (as_changed h patch)))
  pub spelled : bytes ≡ record_bytes (frame_for (page_record (as_changed h patch)))

-- what is said of each of these pages is a patch
abbrev pub HavePatches : List ChangedPage → Type 0
HavePatches listed = (p : ChangedPage) → Contains listed p → IsPatch p.patch

-- the records of the pages that were changed, by rising name
pub record WritesPages (held : List Held) (bytes : List ℕ) : Type 0 where
  pub listed : List ChangedPage
  pub lists : ListsChanged held listed
  pub fit : HavePatches listed
  pub spelled : SpellRecords bytes (map (λ p. frame_for (page_record p)) listed)

-- a logical record, or none
abbrev pub MayBeLogical : Option Record → Type 0
MayBeLogical None = Unit {0}
MayBeLogical (Some (Logical op cache key value)) = IsLogical op cache key value
MayBeLogical (Some (Snapshot page bytes)) = ⊥
MayBeLogical (Some (Delta page ranges)) = ⊥
MayBeLogical (Some (CpBegin number replay)) = ⊥
MayBeLogical (Some (Restart shape)) = ⊥
MayBeLogical (Some Seal) = ⊥

-- the logical record, where there is one, and these after it
abbrev pub after_logical : Option Record → List Frame → List Frame
after_logical None frames = frames
after_logical (Some rec) frames = frame_for rec ∷ frames

-- the record that an operation is given
abbrev pub given_record : Option LogRecord → Option Record
given_record None = None
given_record (Some rec) = Some (record_view rec)

-- What an operation hands over: its logical record first, where it has one, and a record of each page that it
-- changed, by rising name.
pub record IsOperationOf (line : ℕ) (logical : Option Record) (held : List Held) (operation : Operation)
    : Type 0 where
  pub line_is : operation.line ≡ line
  pub listed : List ChangedPage
  pub lists : ListsChanged held listed
  pub fit : HavePatches listed
  pub records_are : operation.records
      ≡ after_logical logical (map (λ p. frame_for (page_record p)) listed)
  pub is_operation : IsOperation operation

-- the bytes of an operation; of one without a record nothing is handed over
abbrev pub handed_bytes_by : List Frame → Operation → List ℕ
handed_bytes_by [] operation = []
handed_bytes_by (frame ∷ frames) operation = operation_bytes operation

abbrev pub handed_bytes : Operation → List ℕ
handed_bytes operation = handed_bytes_by operation.records operation

-- these bytes are what such an operation hands over
pub record HandsOver (line : ℕ) (logical : Option Record) (held : List Held) (bytes : List ℕ) : Type 0 where
  pub operation : Operation
  pub is : IsOperationOf line logical held operation
  pub bytes_are : bytes ≡ handed_bytes operation

-- an outbox grew by what such an operation hands over
pub record GrowsByOperation (line : ℕ) (logical : Option Record) (held : List Held) (old new : List ℕ)
    : Type 0 where
  pub more : List ℕ
  pub grows : new ≡ old ++ more
  pub hands : HandsOver line logical held more
