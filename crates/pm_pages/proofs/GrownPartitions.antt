-- Pages that appear at the page count of a partition and above it change nothing.
use Rattle.std.proofs.Common.{◌≡◌, ℕ, ◌<◌, ◌≤◌, ◌↔◌, List, refl, sym, ap, subst, ◌∙◌, inl, inr, arith}
use Rattle.std.specs.Prelude.{Option, None, Some, IsSome, IsSomeAnd, IfSome, All, AllPairs, length}
use Rattle.std.proofs.lemmas.Bool.{cases_lt, lt-ltb, le-ltb}
use Rattle.pm_types.specs.declared.shape.Shape.{Shape}
use Rattle.pm_types.specs.Ids.{page_id}
use Rattle.pm_model.specs.Partitions.{part_of}
use Rattle.pm_meta.specs.declared.slots.MetaSlot.{MetaSlot}
use Rattle.pm_meta.specs.declared.slots.MetaSlot.TheVariants.{Pages, Rows}
use Rattle.pm_pages.specs.declared.row.Row.{Row}
use Rattle.pm_pages.specs.Passes.{Passes, PassesAsMeta}
use Rattle.pm_pages.specs.Rows.{Partition, bytes_of, number_of, number_in, page_count, page_at, rows_of}
use Rattle.pm_pages.specs.WellFormed.{AllPass, AreDifferent, HasKeysOnce, IsWellFormed}
use Rattle.pm_pages.specs.Growth.{GrowsAbove, LosesNone}
use Rattle.pm_pages.proofs.SamePages.{SamePages, back, rows_same, has_tree, has_chain, has_reuse_chain, each_once}

module _ (was now : Partition) (grows : GrowsAbove was now) where
  numbers : (slot : MetaSlot) → number_in was slot ≡ number_in now slot
  numbers slot = ap (λ meta. number_of meta slot) (sym grows.meta)

  pages : (i : ℕ) → page_at was i ≡ page_at now i
  pages i = elim (cases_lt i (page_count was)) [
    | inl lt ↦
        let lt' : i < page_count now = omega (arith, lt, numbers Pages) in
        simp (lt-ltb i (page_count was) lt, lt-ltb i (page_count now) lt') (ap bytes_of (sym (grows.below i lt)))
    | inr le ↦
        let le' : page_count now ≤ i = omega (arith, le, numbers Pages) in
        simp (le-ltb i (page_count was) le, le-ltb i (page_count now) le') refl
  ]

  pub same : SamePages was now
  same = record { numbers = numbers; pages = pages }

keys_of : (was now : Partition) → SamePages was now → (shape : Shape) (part : ℕ) → HasKeysOnce shape part was → HasKeysOnce shape part now
keys_of was now same shape part keys = record {
  once = subst (AllPairs AreDifferent) (rows_same was now same part) keys.once;
  of_part = subst (All (λ (row : Row). part_of row.key shape.partitions ≡ part)) (rows_same was now same part) keys.of_part;
  counted = sym (same.numbers Rows) ∙ keys.counted ∙ ap length (rows_same was now same part);
}

-- all points but the check of the pages
well_formed_by : (was now : Partition) → SamePages was now → (shape : Shape) (part : ℕ) → AllPass shape part now → IsWellFormed shape part was → IsWellFormed shape part now
well_formed_by was now same shape part pass is = record {
  all_pass = pass;
  keys_once = keys_of was now same shape part is.keys_once;
  trees = λ cache lt. has_tree was now same part cache (is.trees cache lt);
  chains = λ bucket lt. has_chain was now same bucket (is.chains bucket lt);
  reuse = has_reuse_chain was now same is.reuse;
  each_once = each_once was now same is.each_once;
}

pub grown : (shape : Shape) (part : ℕ) (was now : Partition) → GrowsAbove was now → IsWellFormed shape part was ↔ IsWellFormed shape part now
grown shape part was now grows =
    let pages = same was now grows in
    let count : page_count was ≡ page_count now = pages.numbers Pages in (
      λ is. well_formed_by was now pages shape part (record {
        meta = subst (λ o. IfSome o (PassesAsMeta shape.page_size shape.max_rows (page_id part 0))) (sym grows.meta) is.all_pass.meta;
        each = λ i lt. (let lt' : i < page_count was = omega (arith, lt, count) in subst (λ o. IsSomeAnd o (Passes shape.page_size shape.max_rows (page_id part i))) (sym (grows.below i lt')) (is.all_pass.each i lt'));
      }) is,
      λ is. well_formed_by now was (back was now pages) shape part (record {
        meta = subst (λ o. IfSome o (PassesAsMeta shape.page_size shape.max_rows (page_id part 0))) grows.meta is.all_pass.meta;
        each = λ i lt. subst (λ o. IsSomeAnd o (Passes shape.page_size shape.max_rows (page_id part i))) (grows.below i lt) (is.all_pass.each i (omega (arith, lt, count)));
      }) is,
    )

pub rows_stay : (part : ℕ) (was now : Partition) → GrowsAbove was now → rows_of part now ≡ rows_of part was
rows_stay part was now grows = sym (rows_same was now (same was now grows) part)

-- a page that is there and stays is the same
stays_same : (o o' : Option (List ℕ)) → IsSome o → ((page : List ℕ) → o ≡ Some page → o' ≡ Some page) → o' ≡ o
stays_same None o' some stays = absurd (cc some)
stays_same (Some page) o' some stays = stays page refl

some_there : (o : Option (List ℕ)) (P : List ℕ → Type 0) → IsSomeAnd o P → IsSome o
some_there None P is = absurd is
some_there (Some page) P is = refl

pub grows_with_meta : (shape : Shape) (part : ℕ) (was now : Partition) → LosesNone was now → IsWellFormed shape part was → GrowsAbove was now
grows_with_meta shape part was now keeps is = record {
  meta = stays_same (was 0) (now 0) keeps.some (keeps.stays 0);
  below = λ i lt. stays_same (was i) (now i) (some_there (was i) (Passes shape.page_size shape.max_rows (page_id part i)) (is.all_pass.each i lt)) (keeps.stays i);
}

pub grows_without_meta : (was now : Partition) → was 0 ≡ None → now 0 ≡ None → GrowsAbove was now
grows_without_meta was now none none' = record {
  meta = none' ∙ sym none;
  below = λ i lt. (let count : page_count was ≡ 0 = ap (λ meta. number_of meta Pages) none in absurd (omega (arith, lt, count)));
}
