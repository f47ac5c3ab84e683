-- What one frame more rebuilds, by the kind of its record.
use Rattle.std.proofs.Common.{◌≡◌, ℕ, zero, suc, ◌<◌, ◌≤◌, Bool, true, false, List, [], ◌∷◌, ◌++◌, length, Option, Some, None, refl, ap, ◌∙◌, arith}
use Rattle.std.specs.Prelude.{◌||◌, nat_lt, if◌then◌else◌}
use Rattle.std.specs.Option.{option_map, option_and_then}
use Rattle.std.proofs.lemmas.Bool.{eq-eqb, lt-ltb, and_from}
use Rattle.std.proofs.lemmas.Bool.Decides.{nat_tests}
use Rattle.pm_types.specs.declared.limits.TheConstants.{PAGE_SIZE_MAX}
use Rattle.pm_types.specs.declared.page_id.PageId.{PageId}
use Rattle.pm_types.specs.declared.shape.Shape.{Shape}
use Rattle.pm_types.specs.DeltaRanges.{end_of, after_front, BeginsWithRange, AreRanges, number_of, ranges_of, IsDelta, applied}
use Rattle.pm_types.specs.Ids.{part_of_id, index_of_id}
use Rattle.pm_types.specs.PageSizes.{IsPageSize}
use Rattle.pm_types.specs.Spans.{Coverage, IsPatch}
use Rattle.pm_types.proofs.PageSizeBounds.{page_size_bounds}
use Rattle.pm_frame.specs.Frames.{Frame}
use Rattle.pm_records.specs.FirstRecords.{is_restart}
use Rattle.pm_records.specs.Logs.{record_in, record_frame}
use Rattle.pm_records.specs.PageNames.{IsPageName}
use Rattle.pm_records.specs.PageRecords.{begins_with_range, are_ranges}
use Rattle.pm_records.specs.Records.{Record, Logical, Snapshot, Delta, CpBegin, Restart, Seal}
use Rattle.pm_records.proofs.RecordOf.{record_of-payload}
use Rattle.pm_pages.specs.Asked.{has_bytes}
use Rattle.pm_pages.specs.Deltas.{delta_of}
use Rattle.pm_pages.proofs.WrittenRanges.{is_delta, delta_wider}
use Rattle.pm_core.specs.BasePages.{Partitions, no_pages, with_page, whole, patched, rebuilt_by, rebuilt_from, since_restart, records_in, rebuilt_of}
use Rattle.pm_redo.proofs.MoreFrames.{then_after}
use Rattle.pm_engine.specs.TrackedPages.{SaysNoPage}

-- frames that rebuild pages are records
pub records_there : (shape : Shape) (frames : List Frame) (pages : Partitions) → rebuilt_of shape frames ≡ Some pages → (records : List Record) × (records_in frames ≡ Some records)
unfolding rebuilt_of
records_there shape frames pages is = by (records_in frames) refl is
  where
    by : (o : Option (List Record)) → records_in frames ≡ o → option_and_then (λ records. rebuilt_from shape (since_restart records)) o ≡ Some pages → (records : List Record) × (records_in frames ≡ Some records)
    by None e is = let no : None ≡ Some pages = is in absurd cc
    by (Some records) e is = (records, e)

-- a frame more, of a record that isn't a RESTART
pub rebuilt_next : (shape : Shape) (frames : List Frame) (pages : Partitions) (f : Frame) (r : Record) → rebuilt_of shape frames ≡ Some pages → record_in f ≡ Some r → is_restart (Some r) ≡ false
    → rebuilt_of shape (frames ++ f ∷ []) ≡ rebuilt_by shape r pages
rebuilt_next shape frames pages f r were is plain =
    let records = records_there shape frames pages were in
    then_after shape frames records.0 f r pages records.1 is were
    ∙ ap (λ (b : Bool). let o : Option Partitions = if b then Some no_pages else rebuilt_by shape r pages in o) plain

-- ---- records that say nothing of a page

pub no_restart : (r : Record) → SaysNoPage r → is_restart (Some r) ≡ false
no_restart (Logical op cache key value) says = refl
no_restart (Snapshot page bytes) says = absurd says
no_restart (Delta page ranges) says = absurd says
no_restart (CpBegin number replay) says = refl
no_restart (Restart shape) says = absurd says
no_restart Seal says = refl

pub rebuilt_same : (shape : Shape) (r : Record) (pages : Partitions) → SaysNoPage r → rebuilt_by shape r pages ≡ Some pages
rebuilt_same shape (Logical op cache key value) pages says = refl
rebuilt_same shape (Snapshot page bytes) pages says = absurd says
rebuilt_same shape (Delta page ranges) pages says = absurd says
rebuilt_same shape (CpBegin number replay) pages says = refl
rebuilt_same shape (Restart told) pages says = absurd says
rebuilt_same shape Seal pages says = refl

-- ---- a snapshot

pub snapshot_rebuilds : (shape : Shape) (pages : Partitions) (page : PageId) (now : List ℕ) → part_of_id page < shape.partitions → length now ≡ shape.page_size → rebuilt_by shape (Snapshot page now) pages ≡ Some (with_page pages page now)
snapshot_rebuilds shape pages page now inside sized =
    ap (λ (b : Bool). let o : Option Partitions = if b then option_map (with_page pages page) (whole shape.page_size now) else Some pages in o) (lt-ltb (part_of_id page) shape.partitions inside)
    ∙ ap (λ (b : Bool). option_map (with_page pages page) (let o : Option (List ℕ) = if b then Some now else None in o)) (eq-eqb (length now) shape.page_size sized)

pub snapshot_read : (page : PageId) (now : List ℕ) → IsPageName page → IsPageSize (length now) → record_in (record_frame (Snapshot page now)) ≡ Some (Snapshot page now)
snapshot_read page now named sized = record_of-payload (Snapshot page now) (record { named = named; sized = sized })

-- ---- a delta

ranges_pass : (number low end : ℕ) (ranges : List ℕ) → AreRanges number low end ranges → are_ranges number low end ranges ≡ true
unfolding are_ranges
ranges_pass zero low end ranges h = eq-eqb (length ranges) 0 (ap length h)
ranges_pass (suc number) low end ranges h =
    and_from (begins_with_range low end ranges) (are_ranges number (end_of ranges) end (after_front ranges))
    (range_passes h.0)
    (ranges_pass number (end_of ranges) end (after_front ranges) h.1)
  where
    range_passes : BeginsWithRange low end ranges → begins_with_range low end ranges ≡ true
    range_passes is = grind (arith, nat_tests)

pub delta_rebuilds : (shape : Shape) (pages : Partitions) (page : PageId) (delta was now : List ℕ) → part_of_id page < shape.partitions → pages (part_of_id page) (index_of_id page) ≡ Some was → IsDelta (length was) delta → applied delta was ≡ now
    → rebuilt_by shape (Delta page delta) pages ≡ Some (with_page pages page now)
delta_rebuilds shape pages page delta was now inside there is gives =
    ap (λ (b : Bool). let o : Option Partitions = if b then option_map (with_page pages page) (option_and_then (patched delta) (pages (part_of_id page) (index_of_id page))) else Some pages in o) (lt-ltb (part_of_id page) shape.partitions inside)
    ∙ ap (λ o. option_map (with_page pages page) (option_and_then (patched delta) o)) there
    ∙ ap (λ (b : Bool). option_map (with_page pages page) (let o : Option (List ℕ) = if b then Some (applied delta was) else None in o)) (ranges_pass (number_of delta) 0 (length was) (ranges_of delta) is.ranges)
    ∙ ap (λ bytes. Some (with_page pages page bytes)) gives

-- a patch that covers a byte and isn't whole has a range
pub some_range : (patch : Coverage) → has_bytes patch ≡ true → patch.whole ≡ false → 1 ≤ length patch.spans
some_range patch has part = by patch.whole has part
  where
    by : (b : Bool) → (b || nat_lt 0 (length patch.spans)) ≡ true → b ≡ false → 1 ≤ length patch.spans
    by true has part = absurd cc
    by false has part = grind (arith, nat_tests)

pub delta_read : (page : PageId) (now : List ℕ) (patch : Coverage) → IsPageName page → IsPageSize (length now) → IsPatch patch → 1 ≤ length patch.spans → patch.page_size ≡ length now
    → record_in (record_frame (Delta page (delta_of now patch.spans))) ≡ Some (Delta page (delta_of now patch.spans))
delta_read page now patch named size is some sized =
    record_of-payload (Delta page (delta_of now patch.spans)) (record {
      named = named;
      ranges_are = delta_wider (length now) PAGE_SIZE_MAX (delta_of now patch.spans) (page_size_bounds (length now) size).1 (is_delta now patch is some sized);
    })
