-- A delta that is written range by range: what is written, with the ranges that are left, is the delta.
use Rattle.std.proofs.Common.{◌≡◌, ℕ, zero, suc, ◌+◌, ◌-◌, ◌≤◌, List, [], ◌∷◌, ◌++◌, length, take, drop, set, false, refl, sym, ap, ◌∙◌, append_assoc, arith}
use Rattle.std.specs.Prelude.{Some, slice_get}
use Rattle.std.proofs.lemmas.Option.{get_or_from_slice_get, slice_get_within}
use Rattle.std.proofs.lemmas.Grind.{take-set_at}
use Rattle.std.proofs.lemmas.List.{length-set, drop_more, drop_all, take_all, append-nil}
use Rattle.pm_types.specs.declared.spans.Span.{Span}
use Rattle.pm_types.specs.Spans.{Coverage, Covers, IsInSpans, IsPatch}
use Rattle.pm_types.proofs.Changes.{outside_wider}
use Rattle.pm_types.proofs.PageSizeBounds.{page_size_bounds}
use Rattle.pm_types.proofs.Coverages.{covers_spans}
use Rattle.pm_types.specs.DeltaRanges.{end_of, after_front, number_of, ranges_of, AreRanges, IsDelta}
use Rattle.pm_pages.specs.Deltas.{range_bytes, ranges_bytes, delta_of, ranges_len, delta_len, GivesPage}
use Rattle.pm_pages.proofs.DeltaLaw.{are_ranges, with_own_ranges}

pub record IsWritten (page : List ℕ) (spans : List Span) (into : List ℕ) (end i : ℕ) : Type 0 where
  pub size : length into ≡ delta_len spans
  pub room : end + ranges_len (drop i spans) ≡ delta_len spans
  pub written : take end into ++ ranges_bytes page (drop i spans) ≡ delta_of page spans

-- what is left begins with the range that is next
pub next_span : (spans : List Span) (i : ℕ) (span : Span) → slice_get spans i ≡ Some span → drop i spans ≡ span ∷ drop (i + 1) spans
next_span spans i span here = drop_more spans i span (slice_get_within spans i span here) ∙ ap (λ s. s ∷ drop (i + 1) spans) (get_or_from_slice_get spans i span span here)

pub room_for : (page : List ℕ) (spans : List Span) (into : List ℕ) (end i : ℕ) (span : Span) → IsWritten page spans into end i → slice_get spans i ≡ Some span → end + 4 + (span.end - span.start) ≤ length into
room_for page spans into end i span is here =
    let next : ranges_len (drop i spans) ≡ 4 + (span.end - span.start) + ranges_len (drop (i + 1) spans) = ap ranges_len (next_span spans i span here) in
    omega (arith, is.size, is.room)

pub one_more : (page : List ℕ) (spans : List Span) (into into' : List ℕ) (end end' i : ℕ) (span : Span) → IsWritten page spans into end i → slice_get spans i ≡ Some span → end' ≡ end + 4 + (span.end - span.start) → length into' ≡ length into → take end' into' ≡ take end into ++ range_bytes page span → IsWritten page spans into' end' (i + 1)
one_more page spans into into' end end' i span is here to size written =
    let next : ranges_len (drop i spans) ≡ 4 + (span.end - span.start) + ranges_len (drop (i + 1) spans) = ap ranges_len (next_span spans i span here) in
    let left : List ℕ = ranges_bytes page (drop (i + 1) spans) in
    record {
      size = size ∙ is.size;
      room = omega (arith, is.room);
      written = ap (λ (t : List ℕ). t ++ left) written ∙ append_assoc (take end into) (range_bytes page span) left ∙ ap (λ (s : List Span). take end into ++ ranges_bytes page s) (sym (next_span spans i span here)) ∙ is.written;
    }

-- with no range left all is written
pub all_written : (page : List ℕ) (spans : List Span) (into : List ℕ) (end i : ℕ) → IsWritten page spans into end i → length spans ≤ i → into ≡ delta_of page spans
all_written page spans into end i is last =
    let none : drop i spans ≡ [] = drop_all i spans last in
    let at_end : end ≡ length into = sym (omega (arith, is.room, is.size, ap ranges_len none)) in
    sym (take_all end into (omega arith)) ∙ sym (append-nil (take end into)) ∙ ap (λ (s : List Span). take end into ++ ranges_bytes page s) (sym none) ∙ is.written

-- what is made of a patch is a delta
pub is_delta : (page : List ℕ) (patch : Coverage) → IsPatch patch → 1 ≤ length patch.spans → patch.page_size ≡ length page → IsDelta (length page) (delta_of page patch.spans)
is_delta page patch is some size = record {
  some = some;
  few = is.few;
  ranges = are_ranges page patch.spans 0 0 is.rise (omega arith) (λ k h. omega (arith, is.within k h)) (omega (arith, (page_size_bounds patch.page_size is.size).1));
}

-- and gives the page
pub gives_page : (page : List ℕ) (patch : Coverage) → IsPatch patch → patch.whole ≡ false → patch.page_size ≡ length page → GivesPage (delta_of page patch.spans) patch page
gives_page page patch is part size was same = with_own_ranges page patch.spans 0 was is.rise (λ k h. omega (arith, is.within k h)) (omega (arith, (page_size_bounds patch.page_size is.size).1))
    (outside_wider (Covers patch) (IsInSpans patch.spans) was page same (λ k. covers_spans patch k part))

-- the number of ranges is written first
pub first_written : (page : List ℕ) (spans : List Span) (into : List ℕ) (number : ℕ) → length into ≡ delta_len spans → number ≡ length spans → IsWritten page spans (set into 0 number) 1 0
first_written page spans into number size is_number = record {
  size = length-set into 0 number ∙ size;
  room = refl;
  written = ap (λ (t : List ℕ). t ++ ranges_bytes page spans) (take-set_at into 0 1 number refl (omega arith)) ∙ ap (λ n. n ∷ ranges_bytes page spans) is_number;
}

-- ranges that end before one end do so before a later one
ranges_wider : (number low end end' : ℕ) (ranges : List ℕ) → end ≤ end' → AreRanges number low end ranges → AreRanges number low end' ranges
ranges_wider zero low end end' ranges le is = is
ranges_wider (suc number) low end end' ranges le is = (
  record { head = is.0.head; rises = is.0.rises; some = is.0.some; within = omega (arith, is.0.within, le); whole = is.0.whole },
  ranges_wider number (end_of ranges) end end' (after_front ranges) le is.1,
)

-- a delta of a page is one of a larger page
pub delta_wider : (end end' : ℕ) (delta : List ℕ) → end ≤ end' → IsDelta end delta → IsDelta end' delta
delta_wider end end' delta le is = record { some = is.some; few = is.few; ranges = ranges_wider (number_of delta) 0 end end' (ranges_of delta) le is.ranges }
