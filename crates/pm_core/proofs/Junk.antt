-- Partitions that don't count may come: what a disk holds stays.
use Rattle.std.proofs.Common.{◌≡◌, ◌⊎◌, inl, inr, ℕ, zero, suc, ◌+◌, ◌<◌, List, ◌++◌, Option, Some, None, Bool, true, false, refl, sym, ap, subst, ◌∙◌, arith}
use Rattle.std.specs.Prelude.{◌||◌, ◌==◌, nat_lt, if◌then◌else◌, map, IsSome, IsSomeAnd}
use Rattle.std.specs.List.{flat_map, range_with_len}
use Rattle.std.specs.FinMap.{from_entries}
use Rattle.std.proofs.lemmas.Bool.{eqb-true, ltb-true}
use Rattle.pm_types.specs.declared.shape.Shape.{Shape}
use Rattle.pm_disk.specs.Images.{Image}
use Rattle.pm_meta.specs.declared.slots.MetaSlot.TheVariants as slot
use Rattle.pm_model.specs.declared.cache_key.CacheKey.{CacheKey}
use Rattle.pm_model.specs.Eval.{Pairs, cache_key_cmp}
use Rattle.pm_pages.specs.Rows.{Partition, number_of, page_count, rows_of}
use Rattle.pm_pages.specs.WellFormed.{IsWellFormed}
use Rattle.pm_core.specs.Replays.{all_replayed}
use Rattle.pm_records.proofs.Runs.{option_cases}
use Rattle.pm_marks.specs.InForce.{Checkpoint}
use Rattle.pm_core.specs.BasePages.{Partitions, base_of, counted}
use Rattle.pm_core.specs.PageLaws.{Grows}
use Rattle.pm_pages.specs.RowMaps.{entry_of}
use Rattle.pm_core.specs.Held.{HoldsWith, pairs_in}

either : (a b : Bool) → (a || b) ≡ true → (a ≡ true) ⊎ (b ≡ true)
either true b is = inl refl
either false b is = inr is

chosen : (b : Bool) (one other : Option (List ℕ)) → (b ≡ true → one ≡ other)
    → (let o : Option (List ℕ) = if b then one else None in o) ≡ (let o : Option (List ℕ) = if b then other else None in o)
chosen true one other same = same refl
chosen false one other same = refl

taken : (b : Bool) (o : Option (List ℕ)) → b ≡ true → (let p : Option (List ℕ) = if b then o else None in p) ≡ o
taken true o is = refl
taken false o is = absurd cc

some_of : (P : List ℕ → Type 0) (o : Option (List ℕ)) → IsSomeAnd o P → (page : List ℕ) × (o ≡ Some page)
some_of P None is = absurd is
some_of P (Some page) is = (page, refl)

none_some : (o : Option (List ℕ)) → o ≡ None → IsSome o → ⊥
none_some None is some = absurd cc
none_some (Some page) is some = absurd cc

first_same : (old new : Partition) → Grows old new → new 0 ≡ old 0
first_same old new grows = elim (option_cases (old 0)) [
  | inl none ↦ elim (grows.comes 0 none) [ inl still ↦ still ∙ sym none | inr some ↦ absurd (none_some (old 0) none some) ]
  | inr some ↦ grows.stays 0 some.0 some.1 ∙ sym some.1
]

-- the pages that count are the same
pub counted_same : (shape : Shape) (part : ℕ) (old new : Partition) → IsWellFormed shape part (counted old) → Grows old new → counted new ≡ counted old
counted_same shape part old new well grows = λ i index. each index i
  where
    counts : page_count new ≡ page_count old
    counts = ap (λ o. number_of o slot.Pages) (first_same old new grows)

    is_counted : ℕ → Bool
    is_counted index = index == 0 || nat_lt index (page_count old)

    below : (index : ℕ) → nat_lt index (page_count old) ≡ true → (index == 0 || nat_lt index (page_count old)) ≡ true → new index ≡ old index
    below index lt is =
        let some = some_of _ (counted old index) (well.all_pass.each index (ltb-true _ _ lt)) in
        let there : old index ≡ Some some.0 = sym (taken (index == 0 || nat_lt index (page_count old)) (old index) is) ∙ some.1 in
        grows.stays index some.0 there ∙ sym there

    same : (index : ℕ) → (index == 0 || nat_lt index (page_count old)) ≡ true → new index ≡ old index
    same index is = elim (either (index == 0) (nat_lt index (page_count old)) is) [
      | inl first ↦ subst (λ k. new k ≡ old k) (sym (eqb-true _ _ first)) (first_same old new grows)
      | inr lt ↦ below index lt is
    ]

    each : (index : ℕ) → counted new index ≡ counted old index
    each index =
        ap (λ n. let o : Option (List ℕ) = if index == 0 || nat_lt index n then new index else None in o) counts
        ∙ chosen (index == 0 || nat_lt index (page_count old)) (new index) (old index) (same index)

flat_same : {A : Type 0} (f g : ℕ → List A) (from n : ℕ) → ((k : ℕ) → k < from + n → f k ≡ g k) → flat_map f (range_with_len from n) ≡ flat_map g (range_with_len from n)
flat_same f g from zero same = refl
flat_same f g from (suc n) same =
    ap (λ front. front ++ flat_map f (range_with_len (from + 1) n)) (same from (omega arith))
    ∙ ap (λ rest. g from ++ rest) (flat_same f g (from + 1) n (λ k lt. same k (omega (arith, lt))))

-- and so is the map of the rows
pub pairs_same : (partitions : ℕ) (old new : Partitions) → ((part : ℕ) → part < partitions → counted (new part) ≡ counted (old part)) → pairs_in partitions new ≡ pairs_in partitions old
unfolding pairs_in
pairs_same partitions old new same =
    ap (λ (entries : List (CacheKey × List ℕ)). from_entries {R = cache_key_cmp} entries)
    (flat_same (λ part. map entry_of (rows_of part (counted (new part)))) (λ part. map entry_of (rows_of part (counted (old part)))) 0 partitions
    (λ k lt. ap (λ (pages : Partition). map entry_of (rows_of k pages)) (same k (omega (arith, lt)))))

-- Where the base pages only grow, the disk holds what it held.
pub junk_holds : (wanted : Shape) (checkpoint : Checkpoint) (image : Image) (files : ℕ → Option (List ℕ)) (shape : Shape) (pairs : Pairs)
    → (holds : HoldsWith wanted checkpoint image shape pairs)
    → ((part : ℕ) → part < shape.partitions → Grows (base_of checkpoint holds.rebuilt image.pages part) (base_of checkpoint holds.rebuilt files part))
    → HoldsWith wanted checkpoint (record image { pages = files }) shape pairs
junk_holds wanted checkpoint image files shape pairs holds grows =
    let old = base_of checkpoint holds.rebuilt image.pages in
    let new = base_of checkpoint holds.rebuilt files in
    let same : (part : ℕ) → part < shape.partitions → counted (new part) ≡ counted (old part) =
    λ part lt. counted_same shape part (old part) (new part) (holds.well_formed part lt) (grows part lt) in
    record {
      rebuilt = holds.rebuilt;
      frames = holds.frames;
      rebuilt_are = holds.rebuilt_are;
      log = holds.log;
      reaches = holds.reaches;
      begins = holds.begins;
      told = holds.told;
      well_formed = λ part lt. subst (λ (pages : Partition). IsWellFormed shape part pages) (sym (same part lt)) (holds.well_formed part lt);
      map = ap (λ m. all_replayed shape holds.frames (Some m)) (pairs_same shape.partitions old new same) ∙ holds.map;
    }
