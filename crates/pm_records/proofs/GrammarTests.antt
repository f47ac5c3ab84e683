-- The tests of records and shapes pass exactly where the records and shapes are in their grammars.
use Rattle.std.proofs.Common.{◌≡◌, ℕ, zero, suc, true, List, length, refl, ap, arith}
use Rattle.std.specs.Prelude.{◌&&◌, nat_le}
use Rattle.std.proofs.lemmas.Bool.{and_from, and_parts, eqb-true, eq-eqb}
use Rattle.std.proofs.lemmas.Bool.Decides.{nat_tests}
use Rattle.std.proofs.lemmas.List.{nil_from_length}
use Rattle.pm_types.specs.declared.limits.TheConstants.{PAGE_SIZE_MAX, PATCH_SPANS_MAX}
use Rattle.pm_types.specs.declared.page_id.PageId.{PageId}
use Rattle.pm_types.specs.declared.place.Place.{Place}
use Rattle.pm_types.specs.declared.shape.Shape.{Shape}
use Rattle.pm_types.specs.DeltaRanges.{end_of, after_front, BeginsWithRange, AreRanges, number_of, ranges_of, IsDelta}
use Rattle.pm_types.specs.PageSizes.{IsPageSize, is_page_size}
use Rattle.pm_records.specs.PageNames.{IsPageName, is_page_name}
use Rattle.pm_records.specs.PageRecords.{IsSnapshot, IsPageDelta, IsCpBegin, is_snapshot, begins_with_range, are_ranges, is_delta, is_page_delta, is_cp_begin}
use Rattle.pm_types.specs.Shapes.{IsShape, is_shape}
use Rattle.pm_records.specs.Records.{Record, Logical, Snapshot, Delta, CpBegin, Restart, Seal, IsLogical, is_logical, IsRecord, is_record}

page_size_passes : (n : ℕ) → IsPageSize n → is_page_size n ≡ true
page_size_passes n h = grind (arith, nat_tests)

IsPageSize-from : (n : ℕ) → is_page_size n ≡ true → IsPageSize n
IsPageSize-from n t = grind (arith, nat_tests)

shape_passes : (shape : Shape) → IsShape shape → is_shape shape ≡ true
shape_passes shape h =
    let size = page_size_passes shape.page_size h.page_size in
    grind (arith, nat_tests)

IsShape-from : (shape : Shape) → is_shape shape ≡ true → IsShape shape
IsShape-from shape t = record {
  page_size = IsPageSize-from shape.page_size (grind (arith, nat_tests));
  partitions_from = grind (arith, nat_tests);
  partitions_to = grind (arith, nat_tests);
  version_from = grind (arith, nat_tests);
  version_to = grind (arith, nat_tests);
  max_rows_from = grind (arith, nat_tests);
  max_rows_to = grind (arith, nat_tests);
  segment_bytes_from = grind (arith, nat_tests);
  segment_bytes_to = grind (arith, nat_tests);
}

logical_passes : (op cache : ℕ) (key value : List ℕ) → IsLogical op cache key value → is_logical op cache key value ≡ true
logical_passes op cache key value h = grind (arith, nat_tests)

IsLogical-from : (op cache : ℕ) (key value : List ℕ) → is_logical op cache key value ≡ true → IsLogical op cache key value
IsLogical-from op cache key value t = record {
  known = grind (arith, nat_tests, nil_from_length);
  numbered = grind (arith, nat_tests);
  keyed = record { some = grind (arith, nat_tests); short = grind (arith, nat_tests) };
  valued = grind (arith, nat_tests);
}

page_name_passes : (page : PageId) → IsPageName page → is_page_name page ≡ true
page_name_passes page h = grind (arith, nat_tests)

IsPageName-from : (page : PageId) → is_page_name page ≡ true → IsPageName page
IsPageName-from page t = record { flag = grind (arith, nat_tests); partition = grind (arith, nat_tests) }

snapshot_passes : (page : PageId) (bytes : List ℕ) → IsSnapshot page bytes → is_snapshot page bytes ≡ true
snapshot_passes page bytes h =
    and_from (is_page_name page) (is_page_size (length bytes)) (page_name_passes page h.named) (page_size_passes (length bytes) h.sized)

IsSnapshot-from : (page : PageId) (bytes : List ℕ) → is_snapshot page bytes ≡ true → IsSnapshot page bytes
IsSnapshot-from page bytes t =
    let both = and_parts (is_page_name page) (is_page_size (length bytes)) t in
    record { named = IsPageName-from page both.0; sized = IsPageSize-from (length bytes) both.1 }

range_passes : (low end : ℕ) (ranges : List ℕ) → BeginsWithRange low end ranges → begins_with_range low end ranges ≡ true
range_passes low end ranges h = grind (arith, nat_tests)

BeginsWithRange-from : (low end : ℕ) (ranges : List ℕ) → begins_with_range low end ranges ≡ true → BeginsWithRange low end ranges
BeginsWithRange-from low end ranges t = record {
  head = grind (arith, nat_tests);
  rises = grind (arith, nat_tests);
  some = grind (arith, nat_tests);
  within = grind (arith, nat_tests);
  whole = grind (arith, nat_tests);
}

ranges_pass : (number low end : ℕ) (ranges : List ℕ) → AreRanges number low end ranges → are_ranges number low end ranges ≡ true
unfolding are_ranges
ranges_pass zero low end ranges h = eq-eqb (length ranges) 0 (ap length h)
ranges_pass (suc number) low end ranges h =
    and_from (begins_with_range low end ranges) (are_ranges number (end_of ranges) end (after_front ranges))
    (range_passes low end ranges h.0)
    (ranges_pass number (end_of ranges) end (after_front ranges) h.1)

AreRanges-from : (number low end : ℕ) (ranges : List ℕ) → are_ranges number low end ranges ≡ true → AreRanges number low end ranges
unfolding are_ranges
AreRanges-from zero low end ranges t = nil_from_length ranges (eqb-true (length ranges) 0 t)
AreRanges-from (suc number) low end ranges t =
    let both = and_parts (begins_with_range low end ranges) (are_ranges number (end_of ranges) end (after_front ranges)) t in
    (BeginsWithRange-from low end ranges both.0, AreRanges-from number (end_of ranges) end (after_front ranges) both.1)

delta_passes : (delta : List ℕ) → IsDelta PAGE_SIZE_MAX delta → is_delta delta ≡ true
delta_passes delta h =
    let ranges = ranges_pass (number_of delta) 0 PAGE_SIZE_MAX (ranges_of delta) h.ranges in
    grind (arith, nat_tests)

IsDelta-from : (delta : List ℕ) → is_delta delta ≡ true → IsDelta PAGE_SIZE_MAX delta
IsDelta-from delta t =
    let numbers = nat_le 1 (number_of delta) && nat_le (number_of delta) PATCH_SPANS_MAX in
    let both = and_parts numbers (are_ranges (number_of delta) 0 PAGE_SIZE_MAX (ranges_of delta)) t in
    record {
      some = grind (arith, nat_tests);
      few = grind (arith, nat_tests);
      ranges = AreRanges-from (number_of delta) 0 PAGE_SIZE_MAX (ranges_of delta) both.1;
    }

page_delta_passes : (page : PageId) (ranges : List ℕ) → IsPageDelta page ranges → is_page_delta page ranges ≡ true
page_delta_passes page ranges h =
    and_from (is_page_name page) (is_delta ranges) (page_name_passes page h.named) (delta_passes ranges h.ranges_are)

IsPageDelta-from : (page : PageId) (ranges : List ℕ) → is_page_delta page ranges ≡ true → IsPageDelta page ranges
IsPageDelta-from page ranges t =
    let both = and_parts (is_page_name page) (is_delta ranges) t in
    record { named = IsPageName-from page both.0; ranges_are = IsDelta-from ranges both.1 }

cp_begin_passes : (number : ℕ) (replay : Place) → IsCpBegin number replay → is_cp_begin number replay ≡ true
cp_begin_passes number replay h = grind (arith, nat_tests)

IsCpBegin-from : (number : ℕ) (replay : Place) → is_cp_begin number replay ≡ true → IsCpBegin number replay
IsCpBegin-from number replay t = record {
  from_one = grind (arith, nat_tests);
  number_fits = grind (arith, nat_tests);
  seg_fits = grind (arith, nat_tests);
  off_fits = grind (arith, nat_tests);
}

pub record_passes : (r : Record) → IsRecord r → is_record r ≡ true
record_passes (Logical op cache key value) h = logical_passes op cache key value h
record_passes (Snapshot page bytes) h = snapshot_passes page bytes h
record_passes (Delta page ranges) h = page_delta_passes page ranges h
record_passes (CpBegin number replay) h = cp_begin_passes number replay h
record_passes (Restart shape) h = shape_passes shape h
record_passes Seal h = refl

pub IsRecord-from : (r : Record) → is_record r ≡ true → IsRecord r
IsRecord-from (Logical op cache key value) t = IsLogical-from op cache key value t
IsRecord-from (Snapshot page bytes) t = IsSnapshot-from page bytes t
IsRecord-from (Delta page ranges) t = IsPageDelta-from page ranges t
IsRecord-from (CpBegin number replay) t = IsCpBegin-from number replay t
IsRecord-from (Restart shape) t = IsShape-from shape t
IsRecord-from Seal t = tt
