-- The pages that a crash leaves are those that count, and others that don't.
use Rattle.std.proofs.Common.{◌≡◌, ◌⊎◌, inl, inr, ℕ, ◌-◌, ◌<◌, ◌≤◌, List, length, Option, Some, None, true, false, sym, ◌∙◌, ap, subst, arith}
use Rattle.std.specs.Prelude.{IsSome, is_some}
use Rattle.std.specs.Option.{option_or}
use Rattle.pm_types.specs.declared.shape.Shape.{Shape}
use Rattle.pm_disk.specs.Files.{File, bytes_of, at_change}
use Rattle.pm_disk.specs.Images.{Leaves}
use Rattle.pm_disk.proofs.Files.{kept_range, no_longer}
use Rattle.pm_model.specs.Eval.{Pairs}
use Rattle.pm_pages.specs.WellFormed.{IsWellFormed}
use Rattle.pm_pages.specs.Rows.{Partition}
use Rattle.pm_records.proofs.Runs.{option_cases}
use Rattle.pm_core.specs.BasePages.{Partitions, no_pages, pages_of, laid_over, counted}
use Rattle.pm_core.specs.PageLaws.{Grows}
use Rattle.pm_core.specs.States.{HavePairs}
use Rattle.pm_core.specs.Stands.{PagesStand, page_low, page_high}
use Rattle.pm_core.proofs.Junk.{counted_same, pairs_same}
use Rattle.pm_core.proofs.Ranges.{page_within, page_own}

-- where pages only grow, their rows stay
pub have_pairs_grow : (shape : Shape) (old new : Partitions) (pairs : Pairs) → HavePairs shape old pairs → ((part : ℕ) → Grows (old part) (new part)) → HavePairs shape new pairs
have_pairs_grow shape old new pairs have grows =
    let same : (part : ℕ) → part < shape.partitions → counted (new part) ≡ counted (old part) =
    λ part lt. counted_same shape part (old part) (new part) (have.well_formed part lt) (grows part) in
    record {
      well_formed = λ part lt. subst (λ (pages : Partition). IsWellFormed shape part pages) (sym (same part lt)) (have.well_formed part lt);
      is = pairs_same shape.partitions old new same ∙ have.is;
    }

module _ (size : ℕ) (files rebuilt : Partitions) (pages : ℕ → File) (left : ℕ → Option (List ℕ)) (stand : PagesStand size files rebuilt pages)
    (leaves : (part : ℕ) → Leaves (pages part) (left part)) where
  abbrev now : Partitions
  now = pages_of size left

  here : (part index : ℕ) (b : List ℕ) → rebuilt part index ≡ None → files part index ≡ Some b → now part index ≡ Some b
  here part index b none there =
      let k = stand.kept part index b none there in
      let r = kept_range (pages part) (page_low size index) (page_high size index) (left part) k.0 (leaves part) in
      page_own size index (pages part).forced (left part) b k.1 r.long r.same

  not_here : (part index : ℕ) → ((k : ℕ) → k ≤ length (pages part).since → length (bytes_of (at_change (pages part) k)) < page_high size index) → now part index ≡ None
  not_here part index short = elim (option_cases (now part index)) [
    | inl none ↦ none
    | inr some ↦
        let w = (page_within size index (left part) some.0 some.1).0 in
        let n = no_longer (pages part) (page_high size index - 1) (left part) (λ k le. let s = short k le in omega (arith, s)) (leaves part) in
        let s = short 0 (omega arith) in
        absurd (omega (arith, w, n, s))
  ]

  over_some : (part index : ℕ) (b c : List ℕ) → rebuilt part index ≡ Some c → laid_over rebuilt files part index ≡ Some b → laid_over rebuilt now part index ≡ Some b
  over_some part index b c some is = ap (λ o. option_or o (now part index)) some ∙ sym (ap (λ o. option_or o (files part index)) some) ∙ is

  over_none : (part index : ℕ) → rebuilt part index ≡ None → laid_over rebuilt files part index ≡ files part index
  over_none part index none = ap (λ o. option_or o (files part index)) none

  over_none_left : (part index : ℕ) → rebuilt part index ≡ None → laid_over rebuilt now part index ≡ now part index
  over_none_left part index none = ap (λ o. option_or o (now part index)) none

  pub same_page : (part index : ℕ) (b : List ℕ) → laid_over rebuilt files part index ≡ Some b → laid_over rebuilt now part index ≡ Some b
  same_page part index b is = elim (option_cases (rebuilt part index)) [
    | inl none ↦ over_none_left part index none ∙ here part index b none (sym (over_none part index none) ∙ is)
    | inr some ↦ over_some part index b some.0 some.1 is
  ]

  other : (part index : ℕ) → laid_over rebuilt files part index ≡ None → (laid_over rebuilt now part index ≡ None) ⊎ IsSome (laid_over rebuilt files part 0)
  other part index is = elim (option_cases (rebuilt part index)) [
    | inl none ↦ elim (stand.absent part index none (sym (over_none part index none) ∙ is)) [
      | inl short ↦ inl (over_none_left part index none ∙ not_here part index short)
      | inr meta ↦ inr meta
    ]
    | inr some ↦ let no : None ≡ Some some.0 = sym is ∙ ap (λ o. option_or o (files part index)) some.1 in absurd cc
  ]

  pub pages_grow : (shape : Shape) (pairs : Pairs) → HavePairs shape (laid_over rebuilt files) pairs → HavePairs shape (laid_over rebuilt now) pairs
  pages_grow shape pairs have =
      have_pairs_grow shape (laid_over rebuilt files) (laid_over rebuilt now) pairs have (λ part. record { stays = λ i page is. same_page part i page is; comes = λ i is. other part i is })

  pub still_some : (part index : ℕ) → IsSome (laid_over rebuilt files part index) → IsSome (laid_over rebuilt now part index)
  still_some part index some = elim (option_cases (laid_over rebuilt files part index)) [
    | inl none ↦ let no : false ≡ true = sym (ap (λ o. is_some o) none) ∙ some in absurd cc
    | inr there ↦ ap (λ o. is_some o) (same_page part index there.0 there.1)
  ]

  pub none_there : rebuilt ≡ no_pages → files ≡ no_pages → (part index : ℕ) → now part index ≡ None
  none_there none bare part index =
      let not_rebuilt : (i : ℕ) → rebuilt part i ≡ None = λ i. ap (λ (p : Partitions). p part i) none in
      let not_files : (i : ℕ) → files part i ≡ None = λ i. ap (λ (p : Partitions). p part i) bare in
      elim (stand.absent part index (not_rebuilt index) (not_files index)) [
        | inl short ↦ not_here part index short
        | inr meta ↦ let no : false ≡ true = sym (ap (λ o. is_some o) (over_none part 0 (not_rebuilt 0) ∙ not_files 0)) ∙ meta in absurd cc
      ]
