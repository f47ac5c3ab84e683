-- A scan goes up.
use Rattle.std.proofs.Common.{◌≡◌, ◌⊎◌, inl, inr, ◌<◌, Some, sym, ◌∙◌, ap, arith}
use Rattle.pm_types.specs.declared.place.Place.{Place}
use Rattle.pm_frame.specs.Frames.{Frame}
use Rattle.pm_records.specs.Logs.{enters_next}
use Rattle.pm_records.proofs.Runs.{next-enters, next-stays, bool_cases}
use Rattle.pm_segments.specs.Scans.{Scanned, Advances}

-- its next place is above the one before
pub further_by : (scan later : Scanned) (f : Frame) → Advances scan later (Some f) → (scan.next.seg < later.next.seg) ⊎ ((scan.next.seg ≡ later.next.seg) × (scan.next.off < later.next.off))
further_by scan later f advances = elim (bool_cases (enters_next scan.next f)) [
  | inl enters ↦ let to = advances.1 ∙ next-enters scan.next f enters in inl (omega (arith, ap (λ (p : Place). p.seg) to))
  | inr stays ↦ let to = advances.1 ∙ next-stays scan.next f stays in inr (sym (ap (λ (p : Place). p.seg) to), omega (arith, ap (λ (p : Place). p.off) to))
]
