-- What is the same byte by byte is the same slot and the same page.
use Rattle.std.proofs.Common.{◌≡◌, inl, inr, ℕ, ◌+◌, ◌-◌, ◌*◌, ◌<◌, ◌≤◌, List, length, take, drop, Option, Some, None, Bool, sym, ap, ◌∙◌, arith}
use Rattle.std.specs.Prelude.{slice_get, slice_range, nat_le, if◌then◌else◌}
use Rattle.std.proofs.lemmas.Bool.{leb-true, le-leb}
use Rattle.std.proofs.lemmas.List.{length-take, length-drop}
use Rattle.std.proofs.lemmas.Option.{cond_some}
use Rattle.pm_disk.specs.Files.{bytes_of}
use Rattle.pm_disk.proofs.Files.{same_reads}
use Rattle.pm_disk.proofs.Writes.{slice_get-take, slice_get-drop}
use Rattle.pm_records.proofs.Runs.{option_cases}
use Rattle.pm_core.specs.BasePages.{page_in_file}

-- a range of bytes that are the same
pub range_same : (at len : ℕ) (old new : List ℕ) → at + len ≤ length old → at + len ≤ length new
    → ((i : ℕ) → at ≤ i → i < at + len → slice_get new i ≡ slice_get old i) → take len (drop at new) ≡ take len (drop at old)
range_same at len old new old_long new_long same =
    same_reads (take len (drop at new)) (take len (drop at old))
    (omega (arith, length-take len (drop at new), length-take len (drop at old), length-drop at new, length-drop at old, old_long, new_long))
    (λ i lt.
    let i_lt : i < len = omega (arith, lt, length-take len (drop at old)) in
    slice_get-take len (drop at new) i i_lt ∙ slice_get-drop at new i ∙ same (at + i) (omega arith) (omega (arith, i_lt))
    ∙ sym (slice_get-drop at old i) ∙ sym (slice_get-take len (drop at old) i i_lt))

-- a page is there exactly where its file doesn't end before it
pub page_within : (page_size index : ℕ) (file : Option (List ℕ)) (page : List ℕ) → page_in_file page_size file index ≡ Some page
    → (index * page_size + page_size ≤ length (bytes_of file)) × (slice_range (bytes_of file) (index * page_size) (index * page_size + page_size) ≡ page)
page_within page_size index file page is =
    let t = cond_some (nat_le (index * page_size + page_size) (length (bytes_of file))) (slice_range (bytes_of file) (index * page_size) (index * page_size + page_size)) page is in
    (leb-true _ _ t.0, t.1)

pub page_there : (page_size index : ℕ) (file : Option (List ℕ)) → index * page_size + page_size ≤ length (bytes_of file)
    → page_in_file page_size file index ≡ Some (slice_range (bytes_of file) (index * page_size) (index * page_size + page_size))
page_there page_size index file le =
    ap (λ (b : Bool). let o : Option (List ℕ) = if b then Some (slice_range (bytes_of file) (index * page_size) (index * page_size + page_size)) else None in o) (le-leb _ _ le)

-- a page stays where its bytes do
pub page_own : (page_size index : ℕ) (old new : Option (List ℕ)) (page : List ℕ) → page_in_file page_size old index ≡ Some page
    → index * page_size + page_size ≤ length (bytes_of new)
    → ((i : ℕ) → index * page_size ≤ i → i < index * page_size + page_size → slice_get (bytes_of new) i ≡ slice_get (bytes_of old) i)
    → page_in_file page_size new index ≡ Some page
page_own page_size index old new page is long same =
    let at = index * page_size in
    let was = page_within page_size index old page is in
    let len : at + page_size - at ≡ page_size = omega arith in
    let bytes : slice_range (bytes_of new) at (at + page_size) ≡ slice_range (bytes_of old) at (at + page_size) =
    ap (λ n. take n (drop at (bytes_of new))) len ∙ range_same at page_size (bytes_of old) (bytes_of new) was.0 long same
    ∙ ap (λ n. take n (drop at (bytes_of old))) (sym len) in
    page_there page_size index new long ∙ ap (λ b. Some b) (bytes ∙ was.1)

-- a file that isn't there has no page
pub no_page : (page_size index : ℕ) → 0 < page_size → page_in_file page_size None index ≡ None
no_page page_size index some = elim (option_cases (page_in_file page_size None index)) [
  | inl none ↦ none
  | inr page ↦ absurd (omega (arith, (page_within page_size index None page.0 page.1).0, some))
]

-- which pages a file has is decided by its bytes
pub page_of_bytes : (page_size index : ℕ) (one other : Option (List ℕ)) → bytes_of one ≡ bytes_of other → page_in_file page_size one index ≡ page_in_file page_size other index
page_of_bytes page_size index one other same =
    ap (λ (bytes : List ℕ). let o : Option (List ℕ) = if nat_le (index * page_size + page_size) (length bytes) then Some (slice_range bytes (index * page_size) (index * page_size + page_size)) else None in o) same
