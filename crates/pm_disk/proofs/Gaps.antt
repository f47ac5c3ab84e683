-- A write at an offset that the file may end before leaves all that is there elsewhere as it is.
use Rattle.std.proofs.Common.{◌≡◌, ◌⊎◌, inl, inr, ℕ, zero, suc, ◌+◌, ◌-◌, ◌*◌, ◌<◌, ◌≤◌, max, min, List, ◌++◌, length, Option, Some, refl, ◌∙◌, ap, arith, length-append}
use Rattle.std.specs.Prelude.{◌≢◌, slice_get, replicate}
use Rattle.std.proofs.lemmas.Bool.{cases_lt}
use Rattle.std.proofs.lemmas.List.{length-replicate}
use Rattle.std.proofs.Math.Nat.{mul-le-mul_right, suc-mul}
use Rattle.pm_disk.specs.Files.{bytes_of, changed, missing, gapped}
use Rattle.pm_disk.specs.Images.{Touches, KeepsRange, Puts}
use Rattle.pm_disk.specs.Worlds.{slot_at, slot_change}
use Rattle.pm_disk.specs.declared.mark.TheConstants.{SLOT_LEN}
use Rattle.pm_disk.proofs.Writes.{length-write, write_before, write_after, write_there, slice_get-append_left, slice_get-append_right}

-- A write with its gap.
module _ (file : Option (List ℕ)) (at : ℕ) (gap bytes : List ℕ) (reaches : length gap ≡ missing at file) where
  abbrev old : List ℕ
  old = bytes_of file

  abbrev new : List ℕ
  new = bytes_of (changed (gapped file at gap bytes) file)

  -- where the write begins
  abbrev start : ℕ
  start = min at (length old)

  within : start ≤ length old
  within = omega arith

  whole : length (gap ++ bytes) ≡ length gap + length bytes
  whole = length-append gap bytes

  pub length-gapped : length new ≡ max (length old) (at + length bytes)
  length-gapped = omega (arith, length-write start (gap ++ bytes) file within, whole, reaches)

  pub gapped_apart : (i : ℕ) → i < length old → (i < at) ⊎ (at + length bytes ≤ i) → Touches (gapped file at gap bytes) i → ⊥
  gapped_apart i lt (inl front) touched = omega (arith, lt, front, touched.0)
  gapped_apart i lt (inr past_end) touched = omega (arith, lt, past_end, touched.0, touched.1, whole, reaches)

  pub gapped_same : (i : ℕ) → i < length old → (i < at) ⊎ (at + length bytes ≤ i) → slice_get new i ≡ slice_get old i
  gapped_same i lt (inl front) = write_before start (gap ++ bytes) file within i (omega (arith, lt, front))
  gapped_same i lt (inr past_end) = write_after start (gap ++ bytes) file within i (omega (arith, lt, past_end, whole, reaches))

  pub gapped_there : (i : ℕ) → i < length bytes → slice_get new (at + i) ≡ slice_get bytes i
  gapped_there i lt =
      let e : at + i - start - length gap ≡ i = omega (arith, reaches) in
      write_there start (gap ++ bytes) file within (at + i) (omega (arith, reaches)) (omega (arith, lt, whole, reaches))
      ∙ slice_get-append_right gap bytes (at + i - start) (omega (arith, reaches))
      ∙ ap (λ k. slice_get bytes k) e

  pub gapped_between : (i : ℕ) → length old ≤ i → i < at → slice_get new i ≡ slice_get gap (i - length old)
  gapped_between i le lt =
      let e : i - start ≡ i - length old = omega (arith, le, lt) in
      write_there start (gap ++ bytes) file within i (omega (arith, le)) (omega (arith, le, lt, whole, reaches))
      ∙ slice_get-append_left gap bytes (i - start) (omega (arith, le, lt, reaches))
      ∙ ap (λ k. slice_get gap k) e

  pub gapped_puts : Puts file (gapped file at gap bytes) at bytes
  gapped_puts = record { long = omega (arith, length-gapped); there = gapped_there }

  pub gapped_keeps : (low high : ℕ) → ((i : ℕ) → low ≤ i → i < high → (i < at) ⊎ (at + length bytes ≤ i)) → KeepsRange file (gapped file at gap bytes) low high
  gapped_keeps low high apart = record {
    apart = λ i le lt there. gapped_apart i there (apart i le lt);
    same = λ i le lt there. gapped_same i there (apart i le lt);
    no_shorter = omega (arith, length-gapped);
  }

-- places of this length under two numbers don't meet
below : (a b len : ℕ) → a < b → a * len + len ≤ b * len
below a b len lt = omega (arith, mul-le-mul_right {m = suc a} {n = b} len (omega (arith, lt)), suc-mul a len)

pub places_apart : (index other len i : ℕ) → other ≢ index → other * len ≤ i → i < other * len + len → (i < index * len) ⊎ (index * len + len ≤ i)
places_apart index other len i apart le lt =
    elim (cases_lt other index) [
      | inl lower ↦ inl (omega (arith, lt, below other index len lower))
      | inr not_lower ↦ elim (cases_lt index other) [
        | inl higher ↦ inr (omega (arith, le, below index other len higher))
        | inr not_higher ↦ absurd (apart (omega (arith, not_lower, not_higher)))
      ]
    ]

pub page_alone : (file : Option (List ℕ)) (gap bytes : List ℕ) (index other : ℕ) → length gap ≡ missing (index * length bytes) file → other ≢ index
    → KeepsRange file (gapped file (index * length bytes) gap bytes) (other * length bytes) (other * length bytes + length bytes)
page_alone file gap bytes index other reaches apart =
    gapped_keeps file (index * length bytes) gap bytes reaches (other * length bytes) (other * length bytes + length bytes) (λ i le lt. places_apart index other (length bytes) i apart le lt)

-- ---- slots
slice_get-replicate : (n i x : ℕ) → i < n → slice_get (replicate n x) i ≡ Some x
slice_get-replicate zero i x lt = absurd (omega (arith, lt))
slice_get-replicate (suc n) zero x lt = refl
slice_get-replicate (suc n) (suc i) x lt = slice_get-replicate n i x (omega (arith, lt))

abbrev zeros : Option (List ℕ) → ℕ → List ℕ
zeros file slot = replicate (missing (slot_at slot) file) 0

slot_reaches : (file : Option (List ℕ)) (slot : ℕ) → length (zeros file slot) ≡ missing (slot_at slot) file
slot_reaches file slot = length-replicate {A = ℕ} (missing (slot_at slot) file) 0

pub slot_puts : (file : Option (List ℕ)) (bytes : List ℕ) (slot : ℕ) → Puts file (slot_change file slot bytes) (slot_at slot) bytes
slot_puts file bytes slot = gapped_puts file (slot_at slot) (zeros file slot) bytes (slot_reaches file slot)

pub slot_alone : (file : Option (List ℕ)) (bytes : List ℕ) (slot other : ℕ) → length bytes ≡ SLOT_LEN → other ≢ slot → KeepsRange file (slot_change file slot bytes) (slot_at other) (slot_at other + SLOT_LEN)
slot_alone file bytes slot other long apart =
    gapped_keeps file (slot_at slot) (zeros file slot) bytes (slot_reaches file slot) (slot_at other) (slot_at other + SLOT_LEN) (λ i le lt. grind (arith, long, places_apart slot other SLOT_LEN i apart le lt))

pub slot_zeros : (file : Option (List ℕ)) (bytes : List ℕ) (slot i : ℕ) → length (bytes_of file) ≤ i → i < slot_at slot → slice_get (bytes_of (changed (slot_change file slot bytes) file)) i ≡ Some 0
slot_zeros file bytes slot i le lt =
    gapped_between file (slot_at slot) (zeros file slot) bytes (slot_reaches file slot) i le lt
    ∙ slice_get-replicate (missing (slot_at slot) file) (i - length (bytes_of file)) 0 (omega (arith, le, lt))
