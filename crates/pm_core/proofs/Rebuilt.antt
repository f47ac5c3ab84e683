-- A page that records rebuild is its last snapshot with the later deltas applied in order.
use Rattle.std.proofs.Common.{◌≡◌, ◌⊎◌, inl, inr, ℕ, ◌<◌, List, [], ◌∷◌, ◌++◌, length, Option, Some, None, Bool, true, false, refl, sym, ap, ◌∙◌, arith}
use Rattle.std.specs.Prelude.{◌==◌, nat_lt, if◌then◌else◌, fold}
use Rattle.std.specs.Option.{option_map, option_and_then}
use Rattle.std.proofs.lemmas.Option.{same_Some, cond_some}
use Rattle.std.proofs.lemmas.Bool.{and_parts, eqb-true, ltb-false}
use Rattle.pm_records.proofs.Runs.{bool_cases}
use Rattle.pm_types.specs.declared.page_id.PageId.{PageId}
use Rattle.pm_types.specs.declared.shape.Shape.{Shape}
use Rattle.pm_types.specs.Ids.{part_of_id, index_of_id}
use Rattle.pm_types.specs.DeltaRanges.{number_of, ranges_of, applied}
use Rattle.pm_records.specs.PageRecords.{are_ranges}
use Rattle.pm_records.specs.Records.{Record, Logical, Snapshot, Delta, CpBegin, Restart, Seal}
use Rattle.pm_core.specs.BasePages.{Partitions, no_pages, with_page, whole, patched, rebuilt_by, rebuilt_from, since_restart}
use Rattle.pm_core.specs.PageLaws.{is_page, after_record}

-- what is after_frames a RESTART alone counts
pub fold_append : {A B : Type 0} (f : B → A → B) (a : B) (xs ys : List A) → fold f a (xs ++ ys) ≡ fold f (fold f a xs) ys
fold_append f a [] ys = refl
fold_append f a (x ∷ xs) ys = fold_append f (f a x) xs ys

pub only_behind_restart : (xs ys : List Record) (shape : Shape) → since_restart (xs ++ Restart shape ∷ ys) ≡ since_restart ys
only_behind_restart xs ys shape = fold_append _ [] xs (Restart shape ∷ ys)

map_some : {A : Type 0} (f : List ℕ → A) (o : Option (List ℕ)) (x : A) → option_map f o ≡ Some x → (y : List ℕ) × (o ≡ Some y) × (f y ≡ x)
map_some f None x is = let none : None ≡ Some x = is in absurd cc
map_some f (Some y) x is = (y, refl, same_Some _ _ is)

then_some : (f : List ℕ → Option (List ℕ)) (o : Option (List ℕ)) (x : List ℕ) → option_and_then f o ≡ Some x → (y : List ℕ) × (o ≡ Some y) × (f y ≡ Some x)
then_some f None x is = let none : None ≡ Some x = is in absurd cc
then_some f (Some y) x is = (y, refl, is)

-- a page in the shape is changed by its own records alone
pub found_some : (b : Bool) (start mid : Partitions) (page : PageId) (found : Option (List ℕ))
    → (let o : Option Partitions = if b then option_map (with_page start page) found else Some start in o) ≡ Some mid
    → ((b ≡ true) × ((now : List ℕ) × (found ≡ Some now) × (with_page start page now ≡ mid))) ⊎ ((b ≡ false) × (start ≡ mid))
found_some true start mid page found is = inl (refl, map_some (with_page start page) found mid is)
found_some false start mid page found is = inr (refl, same_Some start mid is)

module _ (shape : Shape) (part index : ℕ) (inside : part < shape.partitions) where
  apart : (page : PageId) → nat_lt (part_of_id page) shape.partitions ≡ false → is_page part index page ≡ false
  apart page out = elim (bool_cases (is_page part index page)) [
    | inr not_it ↦ not_it
    | inl it ↦ absurd (omega (arith, eqb-true _ _ (and_parts (part == part_of_id page) (index == index_of_id page) it).0, ltb-false _ _ out, inside))
  ]

  pick : (b : Bool) (one other : Option (List ℕ)) → b ≡ false → (let o : Option (List ℕ) = if b then one else other in o) ≡ other
  pick true one other is = absurd cc
  pick false one other is = refl

  patch : (b : Bool) (delta before now : List ℕ) (was : Option (List ℕ)) → (b ≡ true → was ≡ Some before) → now ≡ applied delta before
      → (let o : Option (List ℕ) = if b then Some now else was in o) ≡ (let o : Option (List ℕ) = if b then option_map (applied delta) was else was in o)
  patch true delta before now was is made = ap (λ p. Some p) made ∙ ap (option_map (applied delta)) (sym (is refl))
  patch false delta before now was is made = refl

  one_step : (found : Record) (start mid : Partitions) → rebuilt_by shape found start ≡ Some mid → mid part index ≡ after_record part index (start part index) found
  one_step (Snapshot page bytes) start mid is = elim (found_some (nat_lt (part_of_id page) shape.partitions) start mid page (whole shape.page_size bytes) is) [
    | inl here ↦
        let same = (cond_some (length bytes == shape.page_size) bytes here.1.0 here.1.1).1 in
        ap (λ (pages : Partitions). pages part index) (sym here.1.2)
        ∙ ap (λ now. let o : Option (List ℕ) = if is_page part index page then Some now else start part index in o) (sym same)
    | inr out ↦
        ap (λ (pages : Partitions). pages part index) (sym out.1)
        ∙ sym (pick (is_page part index page) (Some bytes) (start part index) (apart page out.0))
  ]
  one_step (Delta page delta) start mid is =
      let was = start (part_of_id page) (index_of_id page) in
      elim (found_some (nat_lt (part_of_id page) shape.partitions) start mid page (option_and_then (patched delta) was) is) [
        | inl here ↦
            let made_of = then_some (patched delta) was here.1.0 here.1.1 in
            let made = (cond_some (are_ranges (number_of delta) 0 (length made_of.0) (ranges_of delta)) (applied delta made_of.0) here.1.0 made_of.2).1 in
            ap (λ (pages : Partitions). pages part index) (sym here.1.2)
            ∙ patch (is_page part index page) delta made_of.0 here.1.0 (start part index)
            (λ it. let at = and_parts (part == part_of_id page) (index == index_of_id page) it in
            ap (λ p. start p index) (eqb-true _ _ at.0) ∙ ap (λ i. start (part_of_id page) i) (eqb-true _ _ at.1) ∙ made_of.1)
            (sym made)
        | inr out ↦
            ap (λ (pages : Partitions). pages part index) (sym out.1)
            ∙ sym (pick (is_page part index page) (option_map (applied delta) (start part index)) (start part index) (apart page out.0))
      ]
  one_step (Logical op cache key value) start mid is = ap (λ (pages : Partitions). pages part index) (sym (same_Some start mid is))
  one_step (CpBegin number replay) start mid is = ap (λ (pages : Partitions). pages part index) (sym (same_Some start mid is))
  one_step (Restart told) start mid is = ap (λ (pages : Partitions). pages part index) (sym (same_Some start mid is))
  one_step Seal start mid is = ap (λ (pages : Partitions). pages part index) (sym (same_Some start mid is))

  abbrev step : Option Partitions → Record → Option Partitions
  step pages found = option_and_then (rebuilt_by shape found) pages

  none_stays : (records : List Record) → fold step None records ≡ None
  none_stays [] = refl
  none_stays (found ∷ records) = none_stays records

  from_start : (records : List Record) (start pages : Partitions) → fold step (Some start) records ≡ Some pages
      → pages part index ≡ fold (after_record part index) (start part index) records
  from_start [] start pages is = ap (λ (p : Partitions). p part index) (sym (same_Some start pages is))
  from_start (found ∷ records) start pages is = elim (cases (rebuilt_by shape found start)) [
    | inl none ↦
        let no_pages_come : None ≡ Some pages = sym (none_stays records) ∙ ap (λ o. fold step o records) (sym none) ∙ is in absurd cc
    | inr some ↦
        from_start records some.0 pages (ap (λ o. fold step o records) (sym some.1) ∙ is)
        ∙ ap (λ o. fold (after_record part index) o records) (one_step found start some.0 some.1)
  ]
    where
      cases : (o : Option Partitions) → (o ≡ None) ⊎ ((x : Partitions) × (o ≡ Some x))
      cases None = inl refl
      cases (Some x) = inr (x, refl)

  pub page_rebuilt : (records : List Record) (pages : Partitions) → rebuilt_from shape records ≡ Some pages → pages part index ≡ fold (after_record part index) None records
  page_rebuilt records pages is = from_start records no_pages pages is
