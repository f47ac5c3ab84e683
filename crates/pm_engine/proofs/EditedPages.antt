-- Edits that were noted changed each page within its patch.
use Rattle.std.proofs.Common.{◌≡◌, ℕ, ◌<◌, Bool, true, false, List, [], length, get_or, Option, Some, None, refl, sym, ap, ◌∙◌, inl, inr, subst, arith}
use Rattle.std.specs.Prelude.{◌||◌, nat_lt, IsSomeAnd}
use Rattle.std.proofs.lemmas.Bool.{false≢true, cases_lt, ltb-false}
use Rattle.std.proofs.lemmas.Grind.{same_number_lists}
use Rattle.std.proofs.lemmas.List.{nil_from_length, get_or_past}
use Rattle.pm_types.specs.Pages.{SameOutside}
use Rattle.pm_types.specs.Spans.{Coverage, Covers, IsInSpans}
use Rattle.pm_types.specs.declared.spans.Span.{Span}
use Rattle.pm_records.proofs.Runs.{option_cases, neither}
use Rattle.pm_pages.specs.Asked.{is_changed}
use Rattle.pm_pages.specs.Edits.{EditsPages}
use Rattle.pm_pages.specs.Paged.{Paged, CoversByte, IsTold, IsWhole}
use Rattle.pm_pages.specs.Rows.{bytes_of}
use Rattle.pm_pages.specs.KeptPages.{IsPageOf, KeepsPages}
use Rattle.pm_engine.specs.TrackedPages.{ChangesWithin, ChangesPage, KeepsPage}

-- a page that wasn't changed has no byte covered
pub covers_nothing : (patch : Option Coverage) (k : ℕ) → is_changed patch ≡ false → CoversByte patch k → ⊥
covers_nothing None k none covers = covers
covers_nothing (Some patch) k none covers =
    let both = neither patch.whole (nat_lt 0 (length patch.spans)) none in
    let empty : patch.spans ≡ [] = nil_from_length patch.spans (omega (arith, ltb-false 0 (length patch.spans) both.1)) in
    elim covers [
      | inl whole ↦ false≢true (sym both.0 ∙ whole.0)
      | inr there ↦ subst (λ (spans : List Span). IsInSpans spans k) empty there
    ]

-- a page that was made was changed
whole_changed : (size : ℕ) (patch : Option Coverage) → IsSomeAnd patch (IsWhole size) → is_changed patch ≡ true
whole_changed size None is = absurd is
whole_changed size (Some patch) is = by patch.whole is.whole
  where
    by : (b : Bool) → b ≡ true → (b || nat_lt 0 (length patch.spans)) ≡ true
    by true e = refl
    by false e = absurd cc

-- one page, whose content was told
module _ (tells : Type 0) (size : ℕ) (old new : Paged) (touched : ℕ → Type 0) (most : ℕ) (edits : EditsPages tells old new touched most) (index : ℕ) (told : IsTold tells old index) (keeps : KeepsPage size old new index) where
  -- what isn't covered is as it was
  same_byte : (k : ℕ) (was now : List ℕ) → old.pages index ≡ Some was → new.pages index ≡ Some now → (CoversByte (new.patch index) k → ⊥) → k < size → get_or now k 0 ≡ get_or was k 0
  same_byte k was now is_was is_now away lt =
      ap (λ o. get_or (bytes_of o) k 0) (sym is_now) ∙ edits.covered index k (omega (arith, lt, keeps.size_is)) told away ∙ ap (λ o. get_or (bytes_of o) k 0) is_was

  unchanged : is_changed (new.patch index) ≡ false → new.pages index ≡ old.pages index
  unchanged none = elim (option_cases (old.pages index)) [
    | inl absent ↦ elim (keeps.comes absent) [
      | inl still ↦ still.0 ∙ sym absent
      | inr made ↦ absurd (false≢true (sym none ∙ whole_changed size (new.patch index) made.1))
    ]
    | inr there ↦
        let was = there.0 in
        let is = keeps.stays was there.1 in
        let long : length is.bytes ≡ length was = is.sized ∙ sym (keeps.sized was there.1) in
        let same : is.bytes ≡ was = same_number_lists is.bytes was long (λ k lt. same_byte k was is.bytes there.1 is.is (covers_nothing (new.patch index) k none) (omega (arith, lt, is.sized))) in
        is.is ∙ ap Some same ∙ sym there.1
  ]

  there_now : is_changed (new.patch index) ≡ true → IsPageOf size (new.pages index)
  there_now changed = elim (option_cases (old.pages index)) [
    | inl absent ↦ elim (keeps.comes absent) [
      | inl still ↦ absurd (false≢true (ap is_changed (sym still.1) ∙ changed))
      | inr made ↦ made.0
    ]
    | inr there ↦ keeps.stays there.0 there.1
  ]

  within_patch : (patch : Coverage) → new.patch index ≡ Some patch → patch.whole ≡ false → (before after : List ℕ) → old.pages index ≡ Some before → new.pages index ≡ Some after → SameOutside (Covers patch) before after
  within_patch patch is part before after was now =
      let there = keeps.stays before was in
      let same : after ≡ there.bytes = (let e : Some after ≡ Some there.bytes = sym now ∙ there.is in cc) in
      let long : length after ≡ size = ap length same ∙ there.sized in
      let long_was : length before ≡ size = keeps.sized before was in
      record {
        size = long ∙ sym long_was;
        bytes = λ k away. elim (cases_lt k size) [
          | inl lt ↦ same_byte k before after was now (λ covers. away (subst (λ o. CoversByte o k) is covers)) lt
          | inr le ↦ get_or_past after k 0 (omega (arith, le, long)) ∙ sym (get_or_past before k 0 (omega (arith, le, long_was)))
        ];
      }

  pub edited_page : ChangesPage size (old.pages index) (new.pages index) (new.patch index)
  edited_page = record {
    unchanged = unchanged;
    there = there_now;
    patched = λ patch is. record {
      fits = (keeps.patches patch is).fits;
      size_is = (keeps.patches patch is).size_is;
      within = within_patch patch is;
    };
  }

-- all of them
module _ (tells : Type 0) (size : ℕ) (old new : Paged) (touched : ℕ → Type 0) (most : ℕ) (edits : EditsPages tells old new touched most) (told : tells) (keeps : KeepsPages size old new) where
  kept_page : (index : ℕ) → KeepsPage size old new index
  kept_page index = record {
    size_is = keeps.size_is;
    sized = keeps.sized index;
    stays = keeps.stays index;
    comes = keeps.comes index;
    patches = keeps.patches index;
  }

  each : (index : ℕ) → ChangesPage size (old.pages index) (new.pages index) (new.patch index)
  each index = edited_page tells size old new touched most edits index (inl told) (kept_page index)

  pub edited_within : ChangesWithin size old.pages new
  edited_within = record {
    unchanged = λ index. (each index).unchanged;
    there = λ index. (each index).there;
    patched = λ index. (each index).patched;
  }
