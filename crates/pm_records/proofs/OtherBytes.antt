-- The bytes of restarts and seals: what each test rules out.
use Rattle.std.proofs.Common.{◌≡◌, ℕ, ◌≤◌, List, [], length, None, sym, ap, subst, ◌∙◌, arith}
use Rattle.pm_types.specs.declared.shape.Shape.{Shape}
use Rattle.pm_frame.specs.declared.kinds.TheConstants.{LOGICAL, RESTART, SEAL}
use Rattle.pm_records.specs.declared.limits.TheConstants.{SHAPE_LEN}
use Rattle.pm_types.specs.Shapes.{IsShape}
use Rattle.pm_records.specs.Shapes.{shape_bytes}
use Rattle.pm_records.specs.Records.{Logical, Snapshot, Delta, CpBegin, Restart, Seal, kind_of, payload_of, IsRecord, record_of}
use Rattle.pm_records.proofs.RecordOf.{record_of-none, kind_of-known}
use Rattle.pm_records.proofs.ShapeBytes.{ShapeFits, ShapeFits-from, shape_bytes-same, length-shape_bytes}

-- where no restart is spelled, none is found
none-restart : (payload : List ℕ) → ((shape : Shape) → IsShape shape → payload ≡ shape_bytes shape → ⊥)
    → record_of RESTART payload ≡ None
unfolding payload_of
none-restart payload h = record_of-none RESTART payload (λ r. elim r as (λ r. IsRecord r → RESTART ≡ kind_of r → payload ≡ payload_of r → ⊥) [
  | Logical op cache key value ↦ λ fits k e. absurd (omega (arith, k))
  | Snapshot page bytes ↦ λ fits k e. absurd (omega (arith, k))
  | Delta page ranges ↦ λ fits k e. absurd (omega (arith, k))
  | CpBegin number replay ↦ λ fits k e. absurd (omega (arith, k))
  | Restart shape ↦ λ fits k e. h shape fits e
  | Seal ↦ λ fits k e. absurd (omega (arith, k))
])

pub none-other_length : (payload : List ℕ) → (length payload ≡ SHAPE_LEN → ⊥) → record_of RESTART payload ≡ None
none-other_length payload other = none-restart payload (λ shape h e. other (ap length e ∙ length-shape_bytes shape))

pub none-other_shape : (payload : List ℕ) (shape : Shape) → ShapeFits shape → payload ≡ shape_bytes shape
    → (IsShape shape → ⊥) → record_of RESTART payload ≡ None
none-other_shape payload shape fits said other =
    none-restart payload (λ found h e.
    other (subst IsShape (shape_bytes-same found shape (ShapeFits-from found h) fits (sym e ∙ said)) h))

pub none-seal : (payload : List ℕ) → (payload ≡ [] → ⊥) → record_of SEAL payload ≡ None
unfolding payload_of
none-seal payload other = record_of-none SEAL payload (λ r. elim r as (λ r. IsRecord r → SEAL ≡ kind_of r → payload ≡ payload_of r → ⊥) [
  | Logical op cache key value ↦ λ fits k e. absurd (omega (arith, k))
  | Snapshot page bytes ↦ λ fits k e. absurd (omega (arith, k))
  | Delta page ranges ↦ λ fits k e. absurd (omega (arith, k))
  | CpBegin number replay ↦ λ fits k e. absurd (omega (arith, k))
  | Restart shape ↦ λ fits k e. absurd (omega (arith, k))
  | Seal ↦ λ fits k e. other e
])

-- there is no other kind
pub none-other_kind : (kind : ℕ) (payload : List ℕ) → (LOGICAL ≤ kind → kind ≤ SEAL → ⊥) → record_of kind payload ≡ None
none-other_kind kind payload other =
    record_of-none kind payload (λ r fits k e.
    let known = kind_of-known r in
    other (omega (arith, k, known.0)) (omega (arith, k, known.1)))
