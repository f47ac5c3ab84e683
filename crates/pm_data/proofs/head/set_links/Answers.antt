use Rattle.std.proofs.Common.{◌<◌, ◌≤◌, ◌∙◌, sym, arith}
use Rattle.pm_types.specs.Spans.{IsInSpan, span_of}
use Rattle.pm_types.proofs.Changes.{outside_then}
use Rattle.pm_types.proofs.PageSizeBounds.{page_size_bounds}
use Rattle.pm_data.specs.DataPages.{room_beside}
use Rattle.pm_data.proofs.Heads.{links_only}
use Rattle.pm_data.proofs.RowsByItem.{room_is}
use Rattle.pm_types.proofs.Unchanged.{u32_same}
use Rattle.pm_data.proofs.head.set_links.Goals as goal

pub returns-clause-page : goal.returns-clause-page
returns-clause-page c =
    let outside = outside_then (IsInSpan (span_of 16 4)) (IsInSpan (span_of 20 4)) (λ k. (16 ≤ k) × (k < 24)) _ _ _ c.set_u32.ensures.writes.outside c.set_u32-2.ensures.writes.outside (λ k h. (h.0, omega (arith, h.1))) (λ k h. (omega (arith, h.0), h.1)) in
    (links_only _ _ outside c.requires.page).well_made

pub returns-clause-says : goal.returns-clause-says
returns-clause-says c =
    let bounds = page_size_bounds _ c.requires.page.size in
    let outside = outside_then (IsInSpan (span_of 16 4)) (IsInSpan (span_of 20 4)) (λ k. (16 ≤ k) × (k < 24)) _ _ _ c.set_u32.ensures.writes.outside c.set_u32-2.ensures.writes.outside (λ k h. (h.0, omega (arith, h.1))) (λ k h. (omega (arith, h.0), h.1)) in
    let all = links_only _ _ outside c.requires.page in
    let prev = u32_same (IsInSpan (span_of 20 4)) _ _ 16 c.set_u32-2.ensures.writes.outside (omega (arith, bounds.0, c.set_u32.ensures.writes.outside.size)) (λ k ge lt h. omega (arith, h.0)) ∙ c.set_u32.ensures.value in
    λ j. record { id = record { 0 = all.id j }; prev = prev j; next = c.set_u32-2.ensures.value j; rows = all.rows j }

pub returns-clause-room : goal.returns-clause-room
returns-clause-room c =
    let outside = outside_then (IsInSpan (span_of 16 4)) (IsInSpan (span_of 20 4)) (λ k. (16 ≤ k) × (k < 24)) _ _ _ c.set_u32.ensures.writes.outside c.set_u32-2.ensures.writes.outside (λ k h. (h.0, omega (arith, h.1))) (λ k h. (omega (arith, h.0), h.1)) in
    let all = links_only _ _ outside c.requires.page in
    room_is _ all.well_made.rows ∙ (λ t. room_beside (outside.size t) (all.rows t)) ∙ sym (room_is _ c.requires.page.rows)
