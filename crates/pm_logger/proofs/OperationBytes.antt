-- Bytes begin with one operation at most, and which it is their head says.
use Rattle.std.proofs.Common.{◌≡◌, ℕ, ◌+◌, ◌^◌, ◌<◌, ◌≤◌, List, [], ◌∷◌, ◌++◌, length, take, drop, refl, sym, ap, ◌∙◌, arith, length-append, take-append-drop}
use Rattle.std.proofs.lemmas.List.{append_assoc, take_at, length-take-le}
use Rattle.pm_types.specs.declared.limits.TheConstants.{OUTBOX}
use Rattle.pm_frame.specs.Frames.{Frame}
use Rattle.pm_records.specs.Operations.{record_bytes, records_bytes, operation_head, operation_bytes, AreLogged, AreRecords, Operation, IsOperation, BeginsWithNone, IsBad}
use Rattle.pm_logger.specs.Fronts.{IsWholeFront}
use Rattle.pm_logger.proofs.RecordBytes.{length-operation_head, operation_head-same, same_front, one_record, record_longer}

pub operation_longer : (o : Operation) → length (operation_bytes o) ≡ 8 + length (records_bytes o.records)
unfolding operation_bytes
operation_longer o = omega (arith, length-append (operation_head o.line (length (records_bytes o.records))) (records_bytes o.records), length-operation_head o.line (length (records_bytes o.records)))

-- the same records are said by the same bytes
pub same_records : (fs gs : List Frame) → AreLogged fs → AreLogged gs → records_bytes fs ≡ records_bytes gs → fs ≡ gs
same_records [] [] a b e = refl
same_records [] (g ∷ gs) a b e = absurd (omega (arith, ap length e, length-append (record_bytes g) (records_bytes gs), record_longer g))
same_records (f ∷ fs) [] a b e = absurd (omega (arith, ap length e, length-append (record_bytes f) (records_bytes fs), record_longer f))
same_records (f ∷ fs) (g ∷ gs) a b e =
    let one = one_record f g (records_bytes fs) (records_bytes gs) a.0 b.0 e in
    let rest = same_records fs gs a.1 b.1 one.1 in
    (λ i. one.0 i ∷ rest i)

-- the head and the records of an operation at the front of bytes whose head says this line and this length
module _ (line len : ℕ) (bytes head after : List ℕ) (e : bytes ≡ head ++ after) (h : head ≡ operation_head line len) (line_small : line < 2 ^ 32) (small : len < 2 ^ 32) where
  pub parts : (o : Operation) (rest : List ℕ) → IsOperation o → bytes ≡ operation_bytes o ++ rest → (o.line ≡ line) × (length (records_bytes o.records) ≡ len) × (records_bytes o.records ++ rest ≡ after)
  unfolding operation_bytes
  parts o rest is e2 =
      let e3 : operation_head o.line (length (records_bytes o.records)) ++ (records_bytes o.records ++ rest) ≡ operation_head line len ++ after = sym (append_assoc _ (records_bytes o.records) rest) ∙ sym e2 ∙ e ∙ ap (λ x. x ++ after) h in
      let heads = same_front _ _ _ _ (length-operation_head o.line (length (records_bytes o.records)) ∙ sym (length-operation_head line len)) e3 in
      let same = operation_head-same o.line line (length (records_bytes o.records)) len is.numbered line_small (omega (arith, is.short)) small heads.0 in
      (same.0, same.1, heads.1)

  -- it isn't all there
  pub begun : length after < len → BeginsWithNone bytes
  begun short o rest is e2 =
      let p = parts o rest is e2 in
      omega (arith, short, p.1, ap length p.2, length-append (records_bytes o.records) rest)

  -- its records are those that follow
  pub whole : len ≤ length after → AreRecords (take len after) → 8 + len ≤ OUTBOX → IsWholeFront bytes (8 + len)
  unfolding operation_bytes
  whole long records short =
      let o : Operation = record { line = line; records = records.0 } in
      let cut = length-take-le len after long in
      let r : records_bytes records.0 ≡ take len after = sym records.1.1 in
      let l : length (records_bytes records.0) ≡ len = ap length r ∙ cut in
      let front : bytes ≡ operation_bytes o ++ drop len after =
      e ∙ (λ i. h i ++ sym (take-append-drop len after) i) ∙ sym (append_assoc (operation_head line len) (take len after) (drop len after)) ∙ (λ i. (operation_head line (sym l i) ++ sym r i) ++ drop len after) in
      let bytes_long : length (operation_bytes o) ≡ 8 + len = operation_longer o ∙ ap (λ n. 8 + n) l in
      let is : IsOperation o = record { numbered = line_small; records_are = records.1.0; short = omega (arith, l, short) } in (
        omega arith,
        omega (arith, ap length front, length-append (operation_bytes o) (drop len after), bytes_long),
        (o, (is, ap (take (8 + len)) front ∙ take_at (operation_bytes o) (drop len after) (8 + len) bytes_long)),
      )

-- a head that says more than an operation may have
pub too_long : (line len : ℕ) (bytes head after : List ℕ) → bytes ≡ head ++ after → head ≡ operation_head line len → line < 2 ^ 32 → len < 2 ^ 32 → OUTBOX < 8 + len → IsBad bytes
too_long line len bytes head after e h line_small small long more o rest is e2 =
    let p = parts line len (bytes ++ more) head (after ++ more) (ap (λ x. x ++ more) e ∙ append_assoc head after more) h line_small small o rest is e2 in
    omega (arith, is.short, p.1, long)

-- bytes that are no records, where the head says so many
pub no_records : (line len : ℕ) (bytes head after : List ℕ) → bytes ≡ head ++ after → head ≡ operation_head line len → line < 2 ^ 32 → len < 2 ^ 32 → len ≤ length after → (AreRecords (take len after) → ⊥) → IsBad bytes
no_records line len bytes head after e h line_small small long refuted more o rest is e2 =
    let p = parts line len (bytes ++ more) head (after ++ more) (ap (λ x. x ++ more) e ∙ append_assoc head after more) h line_small small o rest is e2 in
    let same : take len after ++ (drop len after ++ more) ≡ records_bytes o.records ++ rest = sym (append_assoc (take len after) (drop len after) more) ∙ ap (λ x. x ++ more) (take-append-drop len after) ∙ sym p.2 in
    let fronts = same_front _ _ _ _ (length-take-le len after long ∙ sym p.1) same in
    refuted (o.records, (is.records_are, fronts.0))

-- fewer bytes than a head has
pub headless : (bytes : List ℕ) → length bytes < 8 → BeginsWithNone bytes
headless bytes short o rest is e =
    omega (arith, short, ap length e, length-append (operation_bytes o) rest, operation_longer o)
