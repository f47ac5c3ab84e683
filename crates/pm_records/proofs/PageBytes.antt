-- The bytes of records of pages and of checkpoints: what each test rules out, and what is read where all tests pass.
use Rattle.std.proofs.Common.{◌≡◌, ℕ, ◌+◌, ◌-◌, ◌<◌, ◌≤◌, List, ◌++◌, length, take, drop, Some, None, refl, sym, ap, subst, ◌∙◌, arith}
use Rattle.std.specs.Prelude.{slice_range}
use Rattle.std.specs.Int.{w32, w64, to_le_bytes, from_le_bytes}
use Rattle.std.proofs.lemmas.List.{length-take, length-drop, take_all, take-append-drop}
use Rattle.std.proofs.lemmas.List.Folds.{drop_split}
use Rattle.std.proofs.lemmas.Nat.{le_bytes_4, le_bytes_8}
use Rattle.pm_types.specs.declared.page_id.PageId.{PageId}
use Rattle.pm_types.specs.Fields.{u32_at, u64_at}
use Rattle.pm_frame.specs.declared.kinds.TheConstants.{SNAPSHOT, DELTA, CP_BEGIN}
use Rattle.pm_frame.proofs.Bytes.{AreBytes, AreBytes-take, AreBytes-drop}
use Rattle.pm_records.specs.declared.limits.TheConstants.{PAGE_NAME_LEN, CP_BEGIN_LEN}
use Rattle.pm_records.specs.PageRecords.{IsSnapshot, IsPageDelta, IsCpBegin}
use Rattle.pm_records.specs.Records.{CpBegin, payload_of, named_cp_begin, named_record, record_of}
use Rattle.pm_records.proofs.RecordOf.{record_of-spelled, record_of-unnamed}

-- ---- a page's name and what is after it

-- the payload in two parts: a page's name, and the rest
pub record NamesPage (payload name rest : List ℕ) (page : PageId) : Type 0 where
  pub name_is : name ≡ take PAGE_NAME_LEN payload
  pub rest_is : rest ≡ drop PAGE_NAME_LEN payload
  pub page_is : page.0 ≡ from_le_bytes w64 name

pub names_page : (payload name rest : List ℕ) (page : PageId) → name ≡ take PAGE_NAME_LEN payload → rest ≡ drop PAGE_NAME_LEN payload
    → page.0 ≡ from_le_bytes w64 name → NamesPage payload name rest page
names_page payload name rest page n r p = record { name_is = n; rest_is = r; page_is = p }

pub none-few_snapshot : (payload : List ℕ) → length payload < PAGE_NAME_LEN → record_of SNAPSHOT payload ≡ None
unfolding named_record payload_of
none-few_snapshot payload few = record_of-unnamed SNAPSHOT payload (λ fits e. omega (arith, few, ap length e))

pub none-few_delta : (payload : List ℕ) → length payload < PAGE_NAME_LEN → record_of DELTA payload ≡ None
unfolding named_record payload_of
none-few_delta payload few = record_of-unnamed DELTA payload (λ fits e. omega (arith, few, ap length e))

pub none-other_snapshot : (payload name rest : List ℕ) (page : PageId) → NamesPage payload name rest page
    → (IsSnapshot page rest → ⊥) → record_of SNAPSHOT payload ≡ None
unfolding named_record
none-other_snapshot payload name rest page n other =
    let page_is : page.0 ≡ from_le_bytes w64 (take PAGE_NAME_LEN payload) = n.page_is ∙ ap (from_le_bytes w64) n.name_is in
    record_of-unnamed SNAPSHOT payload (λ fits e.
    other (subst (λ (x : ℕ × List ℕ). IsSnapshot (record { 0 = x.0 }) x.1) (λ i. (sym page_is i, sym n.rest_is i)) fits))

pub none-other_delta : (payload name rest : List ℕ) (page : PageId) → NamesPage payload name rest page
    → (IsPageDelta page rest → ⊥) → record_of DELTA payload ≡ None
unfolding named_record
none-other_delta payload name rest page n other =
    let page_is : page.0 ≡ from_le_bytes w64 (take PAGE_NAME_LEN payload) = n.page_is ∙ ap (from_le_bytes w64) n.name_is in
    record_of-unnamed DELTA payload (λ fits e.
    other (subst (λ (x : ℕ × List ℕ). IsPageDelta (record { 0 = x.0 }) x.1) (λ i. (sym page_is i, sym n.rest_is i)) fits))

pub page_spelled : (payload name rest : List ℕ) (page : PageId) → NamesPage payload name rest page → AreBytes payload
    → PAGE_NAME_LEN ≤ length payload → payload ≡ to_le_bytes w64 page.0 ++ rest
page_spelled payload name rest page n are enough =
    let name_len : length name ≡ PAGE_NAME_LEN = omega (arith, ap length n.name_is, length-take PAGE_NAME_LEN payload) in
    let name_are : AreBytes name = subst AreBytes (sym n.name_is) (AreBytes-take PAGE_NAME_LEN payload are) in
    let back : to_le_bytes w64 page.0 ≡ name = le_bytes_8 name page.0 name_len name_are n.page_is in
    sym (take-append-drop PAGE_NAME_LEN payload) ∙ (λ i. sym (back ∙ n.name_is) i ++ sym n.rest_is i)

-- ---- the begin of a checkpoint

pub none-other_length : (payload : List ℕ) → (length payload ≡ CP_BEGIN_LEN → ⊥) → record_of CP_BEGIN payload ≡ None
unfolding named_record named_cp_begin payload_of
none-other_length payload other = record_of-unnamed CP_BEGIN payload (λ fits e. other (ap length e))

pub none-before_one : (payload : List ℕ) → (1 ≤ u64_at payload 0 → ⊥) → record_of CP_BEGIN payload ≡ None
unfolding named_record named_cp_begin u64_at
none-before_one payload other = record_of-unnamed CP_BEGIN payload (λ fits e. other fits.from_one)

-- eight and four bytes of a payload, as the number that they say
eight_said : (payload : List ℕ) (at : ℕ) → AreBytes payload → at + 8 ≤ length payload
    → to_le_bytes w64 (from_le_bytes w64 (slice_range payload at (at + 8))) ≡ slice_range payload at (at + 8)
eight_said payload at are enough =
    let long : length (slice_range payload at (at + 8)) ≡ 8 = omega (arith, length-take (at + 8 - at) (drop at payload), length-drop at payload) in
    le_bytes_8 _ _ long (AreBytes-take (at + 8 - at) (drop at payload) (AreBytes-drop at payload are)) refl

four_said : (payload : List ℕ) (at : ℕ) → AreBytes payload → at + 4 ≤ length payload
    → to_le_bytes w32 (from_le_bytes w32 (slice_range payload at (at + 4))) ≡ slice_range payload at (at + 4)
four_said payload at are enough =
    let long : length (slice_range payload at (at + 4)) ≡ 4 = omega (arith, length-take (at + 4 - at) (drop at payload), length-drop at payload) in
    le_bytes_4 _ _ long (AreBytes-take (at + 4 - at) (drop at payload) (AreBytes-drop at payload are)) refl

cp_begin_spelled : (payload : List ℕ) → AreBytes payload → length payload ≡ CP_BEGIN_LEN
    → payload ≡ payload_of (CpBegin (u64_at payload 0) (record { seg = u64_at payload 8; off = u32_at payload 16 }))
unfolding payload_of u64_at u32_at
cp_begin_spelled payload are long =
    let number = eight_said payload 0 are (omega (arith, long)) in
    let seg = eight_said payload 8 are (omega (arith, long)) in
    let off = four_said payload 16 are (omega (arith, long)) in
    let whole : slice_range payload 16 20 ≡ drop 16 payload = take_all 4 (drop 16 payload) (omega (arith, long, length-drop 16 payload)) in
    drop_split payload 0 8 (omega arith)
    ∙ ap (λ rest. slice_range payload 0 8 ++ rest) (drop_split payload 8 16 (omega arith))
    ∙ (λ i. sym number i ++ (sym seg i ++ sym (off ∙ whole) i))

-- a CP_BEGIN is read by its three numbers
pub cp_begin_read : (payload : List ℕ) (number seg off : ℕ) → AreBytes payload → length payload ≡ CP_BEGIN_LEN
    → number ≡ u64_at payload 0 → seg ≡ u64_at payload 8 → off ≡ u32_at payload 16
    → IsCpBegin number (record { seg = seg; off = off })
    → Some (CpBegin number (record { seg = seg; off = off })) ≡ record_of CP_BEGIN payload
cp_begin_read payload number seg off are long n s o fits =
    let numbers : CpBegin (u64_at payload 0) (record { seg = u64_at payload 8; off = u32_at payload 16 }) ≡ CpBegin number (record { seg = seg; off = off }) =
    sym (λ i. CpBegin (n i) (record { seg = s i; off = o i }))
    in
    sym (record_of-spelled CP_BEGIN payload _ refl (CpBegin number (record { seg = seg; off = off })) fits refl (cp_begin_spelled payload are long ∙ ap payload_of numbers))
