-- The record that a payload is: whatever record is spelled so, and no other.
use Rattle.std.proofs.Common.{◌≡◌, ℕ, ◌+◌, ◌-◌, ◌≤◌, ◌<◌, ◌^◌, true, eqb, List, ◌++◌, length, take, drop, Option, Some, None, refl, sym, ap, subst, ◌∙◌, append_assoc, arith}
use Rattle.std.specs.Prelude.{◌&&◌, nat_eq}
use Rattle.std.specs.Cmp.Lexicographic.{pointwise}
use Rattle.std.proofs.lemmas.Bool.{and_parts, eqb-true, eq-eqb}
use Rattle.std.proofs.lemmas.Bool.Decides.{Decides-eqb}
use Rattle.std.proofs.lemmas.List.{length-append, take_at, drop_at}
use Rattle.std.proofs.lemmas.Option.{cond_some, same_Some}
use Rattle.std.proofs.lemmas.Slice.Eq.{slice_eq-Decides}
use Rattle.std.proofs.lemmas.Nat.{from_le_bytes-to_le_bytes_4, from_le_bytes-to_le_bytes_8}
use Rattle.std.specs.Int.{w64, to_le_bytes}
use Rattle.pm_types.specs.declared.page_id.PageId.{PageId}
use Rattle.pm_types.proofs.PageSizeBounds.{page_size_bounds}
use Rattle.pm_records.specs.PageNames.{IsPageName}
use Rattle.pm_records.specs.PageRecords.{IsCpBegin}
use Rattle.pm_records.proofs.DeltaLengths.{delta_short}
use Rattle.pm_types.specs.declared.place.Place.{Place}
use Rattle.pm_frame.specs.declared.kinds.TheConstants.{LOGICAL, SEAL}
use Rattle.pm_frame.specs.declared.limits.TheConstants.{PAYLOAD_MAX, FRAME_EXTRA}
use Rattle.pm_frame.specs.Frames.{IsFrame, end_max}
use Rattle.pm_records.specs.declared.limits.TheConstants.{LOGICAL_HEAD_LEN}
use Rattle.pm_records.specs.Shapes.{shape_bytes}
use Rattle.pm_records.specs.Records.{Record, Logical, Snapshot, Delta, CpBegin, Restart, Seal, kind_of, logical_head, payload_of, IsRecord, is_record, named_logical, named_page, named_cp_begin, named_record, record_of}
use Rattle.pm_records.proofs.GrammarTests.{record_passes, IsRecord-from}
use Rattle.pm_records.proofs.ShapeBytes.{ShapeFits-from, named_shape-bytes}

-- ---- what is spelled names itself

named_logical-bytes : (op cache : ℕ) (key value : List ℕ)
    → named_logical (payload_of (Logical op cache key value)) ≡ Logical op cache key value
unfolding named_logical payload_of
named_logical-bytes op cache key value =
    let n = length key in
    let head = logical_head op cache n (length value) in
    let count : LOGICAL_HEAD_LEN + n - LOGICAL_HEAD_LEN ≡ n = omega arith in
    let key_is : take (LOGICAL_HEAD_LEN + n - LOGICAL_HEAD_LEN) (key ++ value) ≡ key =
    ap (λ k. take k (key ++ value)) count ∙ take_at key value n refl
    in
    let front : length (head ++ key) ≡ LOGICAL_HEAD_LEN + n = omega (arith, length-append head key) in
    let value_is : drop (LOGICAL_HEAD_LEN + n) (head ++ (key ++ value)) ≡ value =
    ap (drop (LOGICAL_HEAD_LEN + n)) (sym (append_assoc head key value)) ∙ drop_at (head ++ key) value (LOGICAL_HEAD_LEN + n) front
    in
    λ i. Logical op cache (key_is i) (value_is i)

page_again : (page : PageId) (bytes : List ℕ) → IsPageName page → named_page (to_le_bytes w64 page.0 ++ bytes) ≡ page
page_again page bytes h =
    let back = from_le_bytes-to_le_bytes_8 page.0 (omega (arith, h.flag)) in
    λ i. record { 0 = back i }

named_cp_begin-bytes : (number : ℕ) (replay : Place) → IsCpBegin number replay
    → named_cp_begin (payload_of (CpBegin number replay)) ≡ CpBegin number replay
unfolding named_cp_begin payload_of
named_cp_begin-bytes number replay h =
    let number_back = from_le_bytes-to_le_bytes_8 number h.number_fits in
    let seg_back = from_le_bytes-to_le_bytes_8 replay.seg h.seg_fits in
    let off_back = from_le_bytes-to_le_bytes_4 replay.off h.off_fits in
    λ i. CpBegin (number_back i) (record { seg = seg_back i; off = off_back i })

pub named_record-payload : (r : Record) → IsRecord r → named_record (kind_of r) (payload_of r) ≡ r
unfolding named_record payload_of
named_record-payload (Logical op cache key value) h = named_logical-bytes op cache key value
named_record-payload (Snapshot page bytes) h = ap (λ p. Snapshot p bytes) (page_again page bytes h.named)
named_record-payload (Delta page ranges) h = ap (λ p. Delta p ranges) (page_again page ranges h.named)
named_record-payload (CpBegin number replay) h = named_cp_begin-bytes number replay h
named_record-payload (Restart shape) h = ap Restart (named_shape-bytes shape (ShapeFits-from shape h))
named_record-payload Seal h = refl

-- ---- both ways

same_bytes : (a b : List ℕ) → a ≡ b → pointwise nat_eq a b ≡ true
same_bytes a b e = (slice_eq-Decides Decides-eqb a b _ refl).1 e

bytes_same : (a b : List ℕ) → pointwise nat_eq a b ≡ true → a ≡ b
bytes_same a b t = (slice_eq-Decides Decides-eqb a b _ refl).0 t

pub record_of-payload : (r : Record) → IsRecord r → record_of (kind_of r) (payload_of r) ≡ Some r
unfolding record_of
record_of-payload r h =
    rw (named_record-payload r h, eq-eqb (kind_of r) (kind_of r) refl, record_passes r h, same_bytes (payload_of r) (payload_of r) refl) refl

pub record_of-some : (kind : ℕ) (payload : List ℕ) (r : Record) → record_of kind payload ≡ Some r
    → IsRecord r × (kind ≡ kind_of r) × (payload ≡ payload_of r)
unfolding record_of
record_of-some kind payload r e =
    let named = named_record kind payload in
    let same = pointwise nat_eq payload (payload_of named) in
    let t = cond_some (eqb kind (kind_of named) && is_record named && same) named r e in
    let p = and_parts (eqb kind (kind_of named) && is_record named) same t.0 in
    let q = and_parts (eqb kind (kind_of named)) (is_record named) p.0 in
    subst (λ x. IsRecord x × (kind ≡ kind_of x) × (payload ≡ payload_of x)) t.1
    (IsRecord-from named q.1, eqb-true kind (kind_of named) q.0, bytes_same payload (payload_of named) p.1)

-- what is found is whatever record is spelled
pub record_of-spelled : (kind : ℕ) (payload : List ℕ) (found : Option Record) → found ≡ record_of kind payload
    → (r : Record) → IsRecord r → kind ≡ kind_of r → payload ≡ payload_of r → found ≡ Some r
record_of-spelled kind payload found e r h k p = e ∙ (λ i. record_of (k i) (p i)) ∙ record_of-payload r h

-- where no record is spelled, none is found
pub record_of-none : (kind : ℕ) (payload : List ℕ)
    → ((r : Record) → IsRecord r → kind ≡ kind_of r → payload ≡ payload_of r → ⊥) → record_of kind payload ≡ None
record_of-none kind payload h =
    let P : Option Record → Type 0 = λ found. record_of kind payload ≡ found → found ≡ None in
    let found : P (record_of kind payload) =
    elim (record_of kind payload) as P [
      | None ↦ λ e. refl
      | Some r ↦ λ e. let s = record_of-some kind payload r e in absurd (h r s.0 s.1 s.2)
    ]
    in
    found refl

-- where the record that the payload would be isn't spelled, none is found
pub record_of-unnamed : (kind : ℕ) (payload : List ℕ)
    → (IsRecord (named_record kind payload) → payload ≡ payload_of (named_record kind payload) → ⊥) → record_of kind payload ≡ None
record_of-unnamed kind payload h =
    record_of-none kind payload (λ r fits k p.
    let is : r ≡ named_record kind payload = sym ((λ i. named_record (k i) (p i)) ∙ named_record-payload r fits) in
    h (subst IsRecord is fits) (p ∙ ap payload_of is))

-- one record at most is spelled by a payload of a kind
pub one_record : (a b : Record) → IsRecord a → IsRecord b → kind_of a ≡ kind_of b → payload_of a ≡ payload_of b → a ≡ b
one_record a b h g k p = same_Some a b (sym (record_of-payload a h) ∙ (λ i. record_of (k i) (p i)) ∙ record_of-payload b g)

-- ---- frames of records

pub payload_of-short : (r : Record) → IsRecord r → length (payload_of r) ≤ PAYLOAD_MAX
unfolding payload_of shape_bytes
payload_of-short (Logical op cache key value) h =
    let n = length-append (logical_head op cache (length key) (length value)) (key ++ value) in
    omega (arith, n, length-append key value, h.keyed.short, h.valued)
payload_of-short (Snapshot page bytes) h = omega (arith, (page_size_bounds (length bytes) h.sized).1)
payload_of-short (Delta page ranges) h = omega (arith, delta_short ranges h.ranges_are)
payload_of-short (CpBegin number replay) h = omega arith
payload_of-short (Restart shape) h = omega arith
payload_of-short Seal h = omega arith

pub kind_of-known : (r : Record) → (LOGICAL ≤ kind_of r) × (kind_of r ≤ SEAL)
kind_of-known (Logical op cache key value) = (omega arith, omega arith)
kind_of-known (Snapshot page bytes) = (omega arith, omega arith)
kind_of-known (Delta page ranges) = (omega arith, omega arith)
kind_of-known (CpBegin number replay) = (omega arith, omega arith)
kind_of-known (Restart shape) = (omega arith, omega arith)
kind_of-known Seal = (omega arith, omega arith)

-- a record's frame may stand wherever it ends early enough
pub IsFrame-record : (place : Place) (r : Record) → IsRecord r → place.seg < 2 ^ 64
    → place.off + length (payload_of r) + FRAME_EXTRA ≤ end_max (kind_of r)
    → IsFrame place (record { kind = kind_of r; payload = payload_of r })
IsFrame-record place r h seg ends = record {
  known_from = (kind_of-known r).0;
  known_to = (kind_of-known r).1;
  short = payload_of-short r h;
  ends = ends;
  numbered = seg;
}
