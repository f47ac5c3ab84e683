-- The bytes of a logical record, read field by field: what each test rules out, and what is read where all tests pass.
use Rattle.std.proofs.Common.{◌≡◌, ℕ, ◌+◌, ◌<◌, ◌≤◌, List, ◌∷◌, ◌++◌, length, take, drop, get_or, None, sym, ap, subst, ◌∙◌, arith}
use Rattle.std.specs.Int.{w32, from_le_bytes}
use Rattle.std.proofs.lemmas.List.{length-append, length-take, length-drop, take_at, drop_at, take-append-drop}
use Rattle.std.proofs.lemmas.Nat.{from_le_bytes-to_le_bytes_4}
use Rattle.pm_frame.specs.declared.kinds.TheConstants.{LOGICAL}
use Rattle.pm_frame.proofs.Bytes.{AreBytes, AreBytes-take, cells, written_out, four_back}
use Rattle.pm_records.specs.declared.limits.TheConstants.{LOGICAL_HEAD_LEN}
use Rattle.pm_records.specs.Records.{Logical, Snapshot, Delta, CpBegin, Restart, Seal, logical_head, payload_of, kind_of, IsLogical, IsRecord, record_of}
use Rattle.pm_records.proofs.RecordOf.{record_of-none}

-- where no logical record is spelled, none is found
none-logical : (payload : List ℕ)
    → ((op cache : ℕ) (key value : List ℕ) → IsLogical op cache key value → payload ≡ payload_of (Logical op cache key value) → ⊥)
    → record_of LOGICAL payload ≡ None
none-logical payload h = record_of-none LOGICAL payload (λ r. elim r as (λ r. IsRecord r → LOGICAL ≡ kind_of r → payload ≡ payload_of r → ⊥) [
  | Logical op cache key value ↦ λ fits k e. h op cache key value fits e
  | Snapshot page bytes ↦ λ fits k e. absurd (omega (arith, k))
  | Delta page ranges ↦ λ fits k e. absurd (omega (arith, k))
  | CpBegin number replay ↦ λ fits k e. absurd (omega (arith, k))
  | Restart shape ↦ λ fits k e. absurd (omega (arith, k))
  | Seal ↦ λ fits k e. absurd (omega (arith, k))
])

-- the payload in two parts, with the lengths that the first one names
pub record Splits (payload head rest : List ℕ) (key_len value_len : ℕ) : Type 0 where
  pub head_is : head ≡ take LOGICAL_HEAD_LEN payload
  pub rest_is : rest ≡ drop LOGICAL_HEAD_LEN payload
  pub key_len_is : key_len ≡ get_or head 2 0
  pub value_len_is : value_len ≡ from_le_bytes w32 (cells 3 4 head)

pub splits : (payload head rest : List ℕ) (key_len value_len : ℕ) → head ≡ take LOGICAL_HEAD_LEN payload
    → rest ≡ drop LOGICAL_HEAD_LEN payload
    → key_len ≡ get_or head 2 0 → value_len ≡ from_le_bytes w32 (cells 3 4 head) → Splits payload head rest key_len value_len
splits payload head rest key_len value_len h r k v = record { head_is = h; rest_is = r; key_len_is = k; value_len_is = v }

-- the parts of a logical record that is spelled
pub record Named (head rest : List ℕ) (key_len value_len op cache : ℕ) (key value : List ℕ) : Type 0 where
  pub op_is : get_or head 0 0 ≡ op
  pub cache_is : get_or head 1 0 ≡ cache
  pub key_long : key_len ≡ length key
  pub value_long : value_len ≡ length value
  pub rest_is : rest ≡ key ++ value

named : (payload head rest : List ℕ) (key_len value_len op cache : ℕ) (key value : List ℕ)
    → Splits payload head rest key_len value_len
    → IsLogical op cache key value → payload ≡ payload_of (Logical op cache key value)
    → Named head rest key_len value_len op cache key value
unfolding payload_of
named payload head rest key_len value_len op cache key value s h e =
    let first : head ≡ logical_head op cache (length key) (length value) = s.head_is ∙ ap (take LOGICAL_HEAD_LEN) e in
    record {
      op_is = ap (λ b. get_or b 0 0) first;
      cache_is = ap (λ b. get_or b 1 0) first;
      key_long = s.key_len_is ∙ ap (λ b. get_or b 2 0) first;
      value_long = s.value_len_is ∙ ap (λ b. from_le_bytes w32 (cells 3 4 b)) first ∙ from_le_bytes-to_le_bytes_4 (length value) (omega (arith, h.valued));
      rest_is = s.rest_is ∙ ap (drop LOGICAL_HEAD_LEN) e;
    }

pub none-few : (payload : List ℕ) → length payload < LOGICAL_HEAD_LEN → record_of LOGICAL payload ≡ None
unfolding payload_of
none-few payload few =
    none-logical payload (λ op cache key value h e.
    let head = logical_head op cache (length key) (length value) in
    omega (arith, few, ap length e, length-append head (key ++ value)))

pub none-other_length : (payload head rest : List ℕ) (key_len value_len : ℕ) → Splits payload head rest key_len value_len
    → (length rest ≡ key_len + value_len → ⊥) → record_of LOGICAL payload ≡ None
none-other_length payload head rest key_len value_len s other =
    none-logical payload (λ op cache key value h e.
    let n = named payload head rest key_len value_len op cache key value s h e in
    other (omega (arith, n.key_long, n.value_long, ap length n.rest_is, length-append key value)))

pub none-other_fields : (payload head rest : List ℕ) (key_len value_len : ℕ) (key value : List ℕ)
    → Splits payload head rest key_len value_len
    → key ≡ take key_len rest → value ≡ drop key_len rest → (IsLogical (get_or head 0 0) (get_or head 1 0) key value → ⊥)
    → record_of LOGICAL payload ≡ None
none-other_fields payload head rest key_len value_len key value s k v other =
    none-logical payload (λ op cache a b h e.
    let n = named payload head rest key_len value_len op cache a b s h e in
    let key_is : key ≡ a = k ∙ ap (take key_len) n.rest_is ∙ take_at a b key_len (sym n.key_long) in
    let value_is : value ≡ b = v ∙ ap (drop key_len) n.rest_is ∙ drop_at a b key_len (sym n.key_long) in
    other (subst (λ (x : (ℕ × ℕ) × (List ℕ × List ℕ)). IsLogical x.0.0 x.0.1 x.1.0 x.1.1)
    (λ i. ((sym n.op_is i, sym n.cache_is i), (sym key_is i, sym value_is i))) h))

pub logical_spelled : (payload head rest : List ℕ) (key_len value_len : ℕ) (key value : List ℕ)
    → Splits payload head rest key_len value_len
    → AreBytes payload → LOGICAL_HEAD_LEN ≤ length payload → length rest ≡ key_len + value_len → key ≡ take key_len rest
    → value ≡ drop key_len rest
    → payload ≡ payload_of (Logical (get_or head 0 0) (get_or head 1 0) key value)
unfolding payload_of
logical_spelled payload head rest key_len value_len key value s are enough long k v =
    let head_len : length head ≡ LOGICAL_HEAD_LEN = omega (arith, ap length s.head_is, length-take LOGICAL_HEAD_LEN payload) in
    let head_are : AreBytes head = subst AreBytes (sym s.head_is) (AreBytes-take LOGICAL_HEAD_LEN payload are) in
    let key_long : length key ≡ key_len = omega (arith, ap length k, length-take key_len rest) in
    let value_long : length value ≡ value_len = omega (arith, ap length v, length-drop key_len rest) in
    let named_len : length value ≡ from_le_bytes w32 (cells 3 4 head) = value_long ∙ s.value_len_is in
    let head_said : head ≡ logical_head (get_or head 0 0) (get_or head 1 0) (length key) (length value) =
    written_out LOGICAL_HEAD_LEN head head_len
    ∙ sym (λ i. get_or head 0 0 ∷ get_or head 1 0 ∷ (key_long ∙ s.key_len_is) i ∷ four_back head 3 (length value) head_are named_len i)
    in
    let rest_said : rest ≡ key ++ value = sym (take-append-drop key_len rest) ∙ (λ i. sym k i ++ sym v i) in
    sym (take-append-drop LOGICAL_HEAD_LEN payload)
    ∙ (λ i. sym s.head_is i ++ sym s.rest_is i)
    ∙ (λ i. head_said i ++ rest_said i)
