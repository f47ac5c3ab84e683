-- How long the record of a page is at most.
use Rattle.std.proofs.Common.{◌≡◌, ◌+◌, ◌-◌, ◌*◌, ◌≤◌, List, [], ◌∷◌, length, refl, arith}
use Rattle.std.proofs.lemmas.List.Sums.{sum_by-cons}
use Rattle.pm_types.specs.declared.spans.Span.{Span}
use Rattle.pm_types.specs.Spans.{Coverage, IsPatch, byte_count}
use Rattle.pm_types.proofs.PageSizeBounds.{page_size_bounds}
use Rattle.pm_pages.specs.Deltas.{ranges_len, delta_len}

ranges_long : (spans : List Span) → ranges_len spans ≡ 4 * length spans + byte_count spans
ranges_long [] = refl
ranges_long (span ∷ spans) = omega (arith, ranges_long spans, sum_by-cons (λ (s : Span). s.end - s.start) span spans)

-- a delta with a page's name and a record's head before it is no longer than the page and some more
pub delta_short : (patch : Coverage) → IsPatch patch → 13 + delta_len patch.spans ≤ patch.page_size + 29
delta_short patch is = omega (arith, ranges_long patch.spans, is.few, is.small, (page_size_bounds patch.page_size is.size).0)
