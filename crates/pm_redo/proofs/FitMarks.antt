-- A start marker whose shape doesn't differ from the wanted one says that shape.
use Rattle.std.proofs.Common.{◌≡◌, Bool, true, false, refl, sym, ◌∙◌, ap, arith}
use Rattle.std.specs.Prelude.{◌==◌, not, if◌then◌else◌, Option, Some, None, IfSome}
use Rattle.std.proofs.lemmas.Bool.{eqb-true}
use Rattle.pm_types.specs.declared.fault.Field.{Field}
use Rattle.pm_types.specs.declared.fault.Field.TheVariants.{PageSize, Partitions, MaxRows, SegmentBytes}
use Rattle.pm_types.specs.declared.shape.Mark.{Mark}
use Rattle.pm_types.specs.declared.shape.Shape.{Shape}
use Rattle.pm_types.specs.Shapes.{IsShape}
use Rattle.pm_marks.specs.Slots.{IsMark}
use Rattle.pm_redo.specs.Differences.{first_difference_of, difference_from}

passed : (b : Bool) (f : Field) (rest : Option Field) → (if not b then Some f else rest) ≡ None → (b ≡ true) × (rest ≡ None)
passed true f rest is = (refl, is)
passed false f rest is = absurd cc

-- shapes that may be, and of which no field differs, are the same
pub same_shape : (a b : Shape) → IsShape a → IsShape b → first_difference_of a b ≡ None → a ≡ b
same_shape a b one two is =
    let segments = if not (a.segment_bytes == b.segment_bytes) then Some SegmentBytes else None in
    let rows = if not (a.max_rows == b.max_rows) then Some MaxRows else segments in
    let parts = if not (a.partitions == b.partitions) then Some Partitions else rows in
    let first = passed (a.page_size == b.page_size) PageSize parts is in
    let second = passed (a.partitions == b.partitions) Partitions rows first.1 in
    let third = passed (a.max_rows == b.max_rows) MaxRows segments second.1 in
    let last = passed (a.segment_bytes == b.segment_bytes) SegmentBytes None third.1 in
    let page_size = eqb-true _ _ first.0 in
    let partitions = eqb-true _ _ second.0 in
    let max_rows = eqb-true _ _ third.0 in
    let segment_bytes = eqb-true _ _ last.0 in
    let version : a.version ≡ b.version = omega (arith, one.version_from, one.version_to, two.version_from, two.version_to) in
    λ i. record { page_size = page_size i; partitions = partitions i; version = version i; max_rows = max_rows i; segment_bytes = segment_bytes i }

pub fit_mark : (start : Option Mark) (found : Option Shape) (wanted : Shape) → IsShape wanted → IfSome start IsMark → IfSome start (λ mark. found ≡ Some mark.shape) → difference_from found wanted ≡ None
    → IfSome start (λ mark. IsMark mark × (mark.shape ≡ wanted))
fit_mark None found wanted sound fits is none = tt
fit_mark (Some mark) found wanted sound fits is none = (fits, same_shape mark.shape wanted fits.shape sound (ap (λ (o : Option Shape). difference_from o wanted) (sym is) ∙ none))
