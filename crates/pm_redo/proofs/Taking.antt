-- What a record makes of the pages.
use Rattle.std.proofs.Common.{◌≡◌, ℕ, zero, suc, ◌<◌, ◌≤◌, List, length, Option, Some, None, Vec, Bool, true, false, refl, sym, ◌∙◌, ap, arith}
use Rattle.std.specs.declared.alloc.Global.{Global}
use Rattle.std.specs.Bool.{OnTrue, OnFalse}
use Rattle.std.specs.Map.{lookup}
use Rattle.std.specs.BTreeMap.{is_at}
use Rattle.std.specs.Prelude.{◌==◌, nat_lt, if◌then◌else◌, ◌↔◌, IsTrue}
use Rattle.std.specs.Option.{option_map, option_and_then}
use Rattle.std.proofs.lemmas.Bool.{and_from, and_parts, eqb-true, eq-eqb}
use Rattle.std.proofs.lemmas.Bool.Decides.{nat_tests}
use Rattle.std.proofs.lemmas.List.{nil_from_length}
use Rattle.pm_types.specs.declared.page_id.PageId.{PageId}
use Rattle.pm_types.specs.declared.shape.Shape.{Shape}
use Rattle.pm_types.specs.Ids.{part_of_id, index_of_id}
use Rattle.pm_types.specs.DeltaRanges.{end_of, after_front, BeginsWithRange, AreRanges, number_of, ranges_of, IsDelta, applied}
use Rattle.pm_records.specs.PageRecords.{IsPageDelta, begins_with_range, are_ranges}
use Rattle.pm_records.specs.Records.{Snapshot, Delta}
use Rattle.pm_core.specs.BasePages.{Partitions, with_page, with_found, whole, patched}
use Rattle.pm_redo.specs.declared.rebuilt_pages.PageNumber.{PageNumber}
use Rattle.pm_redo.specs.PageMaps.{PageMap, pages_in, seen, TakesRecord}
use Rattle.pm_redo.proofs.Entries.{number_cmp, number_named, bytes_in, Puts, put_page, found_entry, no_entry}

-- ---- pages outside the shape take no part

pub outside : (shape : Shape) (page : PageId) (found : Option (List ℕ)) (pages : Partitions) → shape.partitions ≤ part_of_id page → with_found shape page found pages ≡ Some pages
outside shape page found pages le =
    let out : nat_lt (part_of_id page) shape.partitions ≡ false = grind (arith, nat_tests) in
    ap (λ (b : Bool). let o : Option Partitions = if b then option_map (with_page pages page) found else Some pages in o) out

pub inside : (shape : Shape) (page : PageId) (found : Option (List ℕ)) (pages : Partitions) → part_of_id page < shape.partitions → with_found shape page found pages ≡ option_map (with_page pages page) found
inside shape page found pages lt =
    let in_it : nat_lt (part_of_id page) shape.partitions ≡ true = grind (arith, nat_tests) in
    ap (λ (b : Bool). let o : Option Partitions = if b then option_map (with_page pages page) found else Some pages in o) in_it

-- ---- snapshots

pub whole_page : (size : ℕ) (bytes : List ℕ) → length bytes ≡ size → whole size bytes ≡ Some bytes
whole_page size bytes is = ap (λ (b : Bool). let o : Option (List ℕ) = if b then Some bytes else None in o) (eq-eqb (length bytes) size is)

pub not_whole : (size : ℕ) (bytes : List ℕ) → (length bytes ≡ size → ⊥) → whole size bytes ≡ None
not_whole size bytes not_it =
    let test : (length bytes == size) ≡ false = grind (arith, nat_tests) in
    ap (λ (b : Bool). let o : Option (List ℕ) = if b then Some bytes else None in o) test

-- ---- deltas

range_passes : (low end : ℕ) (ranges : List ℕ) → BeginsWithRange low end ranges → begins_with_range low end ranges ≡ true
range_passes low end ranges h = grind (arith, nat_tests)

BeginsWithRange-from : (low end : ℕ) (ranges : List ℕ) → begins_with_range low end ranges ≡ true → BeginsWithRange low end ranges
BeginsWithRange-from low end ranges t = record {
  head = grind (arith, nat_tests);
  rises = grind (arith, nat_tests);
  some = grind (arith, nat_tests);
  within = grind (arith, nat_tests);
  whole = grind (arith, nat_tests);
}

ranges_pass : (number low end : ℕ) (ranges : List ℕ) → AreRanges number low end ranges → are_ranges number low end ranges ≡ true
unfolding are_ranges
ranges_pass zero low end ranges h = eq-eqb (length ranges) 0 (ap length h)
ranges_pass (suc number) low end ranges h =
    and_from (begins_with_range low end ranges) (are_ranges number (end_of ranges) end (after_front ranges))
    (range_passes low end ranges h.0)
    (ranges_pass number (end_of ranges) end (after_front ranges) h.1)

AreRanges-from : (number low end : ℕ) (ranges : List ℕ) → are_ranges number low end ranges ≡ true → AreRanges number low end ranges
unfolding are_ranges
AreRanges-from zero low end ranges t = nil_from_length ranges (eqb-true (length ranges) 0 t)
AreRanges-from (suc number) low end ranges t =
    let both = and_parts (begins_with_range low end ranges) (are_ranges number (end_of ranges) end (after_front ranges)) t in
    (BeginsWithRange-from low end ranges both.0, AreRanges-from number (end_of ranges) end (after_front ranges) both.1)

-- a delta of a record can be applied exactly where its ranges are within the page
pub patched_page : (page : PageId) (delta bytes : List ℕ) → IsDelta (length bytes) delta → patched delta bytes ≡ Some (applied delta bytes)
patched_page page delta bytes is =
    ap (λ (b : Bool). let o : Option (List ℕ) = if b then Some (applied delta bytes) else None in o)
    (ranges_pass (number_of delta) 0 (length bytes) (ranges_of delta) is.ranges)

pub not_patched : (page : PageId) (delta bytes : List ℕ) → IsPageDelta page delta → (IsDelta (length bytes) delta → ⊥) → patched delta bytes ≡ None
not_patched page delta bytes grammar not_it = by (are_ranges (number_of delta) 0 (length bytes) (ranges_of delta)) refl
  where
    by : (b : Bool) → are_ranges (number_of delta) 0 (length bytes) (ranges_of delta) ≡ b → (let o : Option (List ℕ) = if b then Some (applied delta bytes) else None in o) ≡ None
    by true is = absurd (not_it (record {
      some = grammar.ranges_are.some;
      few = grammar.ranges_are.few;
      ranges = AreRanges-from (number_of delta) 0 (length bytes) (ranges_of delta) is;
    }))
    by false is = refl

-- ---- on the entries

abbrev pub page_map : Shape → List (PageNumber × Vec ℕ Global) → PageMap
page_map shape es = record { shape = shape; entries = seen bytes_in es }

pub takes_snapshot : (shape : Shape) (page : PageId) (k : PageNumber) (bytes : List ℕ) (v : Vec ℕ Global) (es fs : List (PageNumber × Vec ℕ Global)) → k ≡ number_named page → Puts k v es fs
    → part_of_id page < shape.partitions → length bytes ≡ shape.page_size → v.items ≡ bytes → TakesRecord true (page_map shape es) (page_map shape fs) (Snapshot page bytes)
takes_snapshot shape page k bytes v es fs at puts lt sized same = (
  refl,
  inside shape page (whole shape.page_size bytes) (pages_in (seen bytes_in es)) lt
      ∙ ap (option_map (with_page (pages_in (seen bytes_in es)) page)) (whole_page shape.page_size bytes sized)
      ∙ ap (λ (b : List ℕ). Some (with_page (pages_in (seen bytes_in es)) page b)) (sym same)
      ∙ ap (λ (pages : Partitions). Some pages) (sym (put_page page k v es fs at puts)),
)

module _ (shape : Shape) (page : PageId) (k : PageNumber) (delta : List ℕ) (es : List (PageNumber × Vec ℕ Global)) (at : k ≡ number_named page) (lt : part_of_id page < shape.partitions) where
  abbrev was : Option (List ℕ)
  was = pages_in (seen bytes_in es) (part_of_id page) (index_of_id page)

  patched_some : (v : Vec ℕ Global) → Some v ≡ lookup (is_at (number_cmp k)) es → option_and_then (patched delta) was ≡ patched delta v.items
  patched_some v found = ap (option_and_then (patched delta)) (found_entry page k v es at found)

  pub takes_delta : (b : Bool) (v w : Vec ℕ Global) (fs : List (PageNumber × Vec ℕ Global)) → Some v ≡ lookup (is_at (number_cmp k)) es → Puts k w es fs → (w.items ≡ v.items → seen bytes_in fs ≡ seen bytes_in es)
      → IsPageDelta page delta → IsTrue b ↔ IsDelta (length v.items) delta → OnTrue b (w.items ≡ applied delta v.items) → OnFalse b (w.items ≡ v.items)
      → TakesRecord b (page_map shape es) (page_map shape fs) (Delta page delta)
  takes_delta true v w fs found puts same grammar is made kept = (
    refl,
    inside shape page (option_and_then (patched delta) was) (pages_in (seen bytes_in es)) lt
        ∙ ap (option_map (with_page (pages_in (seen bytes_in es)) page)) (patched_some v found ∙ patched_page page delta v.items (is.0 refl))
        ∙ ap (λ (b : List ℕ). Some (with_page (pages_in (seen bytes_in es)) page b)) (sym made)
        ∙ ap (λ (pages : Partitions). Some pages) (sym (put_page page k w es fs at puts)),
  )
  takes_delta false v w fs found puts same grammar is made kept = (
    ap (λ (l : List (PageNumber × List ℕ)). let p : PageMap = record { shape = shape; entries = l } in p) (same kept),
    inside shape page (option_and_then (patched delta) was) (pages_in (seen bytes_in es)) lt
        ∙ ap (option_map (with_page (pages_in (seen bytes_in es)) page))
        (patched_some v found ∙ not_patched page delta v.items grammar (λ h. let both : false ≡ true = is.1 h in absurd cc)),
  )

  pub takes_no_delta : None ≡ lookup (is_at (number_cmp k)) es → TakesRecord false (page_map shape es) (page_map shape es) (Delta page delta)
  takes_no_delta found = (
    refl,
    inside shape page (option_and_then (patched delta) was) (pages_in (seen bytes_in es)) lt
        ∙ ap (option_map (with_page (pages_in (seen bytes_in es)) page)) (ap (option_and_then (patched delta)) (no_entry page k es at found)),
  )
