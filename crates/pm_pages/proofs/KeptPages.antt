-- What calls on plain pages leave of them, besides their edits.
use Rattle.std.proofs.Common.{◌≡◌, ℕ, ◌<◌, ◌≤◌, List, length, refl, sym, ap, ◌∙◌, subst, inl, inr, arith}
use Rattle.std.specs.Prelude.{Option, None, Some, IsSome, IsSomeAnd, All}
use Rattle.std.specs.Option.{option_map}
use Rattle.std.proofs.lemmas.Bool.{cases_lt}
use Rattle.std.proofs.lemmas.Option.{slice_get_cases}
use Rattle.pm_types.specs.declared.page.Page.{Page}
use Rattle.pm_types.specs.declared.shape.Shape.{Shape}
use Rattle.pm_pages.specs.declared.asked.Asked.{Asked}
use Rattle.pm_pages.specs.declared.plain.PlainPages.{PlainPages}
use Rattle.pm_pages.specs.Asked.{entry_of, patch_of, IsPatchFor}
use Rattle.pm_pages.specs.KeptPages.{IsPageOf, KeepsPages}
use Rattle.pm_pages.specs.PageLists.{pages_in}
use Rattle.pm_pages.specs.Paged.{IsWhole}
use Rattle.pm_pages.specs.Plain.{plain_seen, plain_count, ArePlain, KeepsPlain}
use Rattle.pm_pages.specs.PlainLaws.{size_of}
use Rattle.pm_pages.specs.PlainRooms.{IsOfSize}
use Rattle.pm_pages.proofs.PlainSteps.{there_below, none_past, made_whole}

page_of : (size : ℕ) (pages : List Page) (i : ℕ) → All (IsOfSize size) pages → i < length pages → IsPageOf size (pages_in pages i)
page_of size pages i sized lt = elim (slice_get_cases pages i).1 [
  | inl there ↦ record {
    bytes = there.0.bytes.items;
    is = ap (option_map (λ (p : Page). p.bytes.items)) there.2;
    sized = size_of pages i size there.0 there.2 lt sized;
  }
  | inr past ↦ absurd (omega (arith, past.0, lt))
]

-- a page of this size that is there
found_size : (size : ℕ) (page : Option (List ℕ)) (was : List ℕ) → IsPageOf size page → page ≡ Some was → length was ≡ size
found_size size page was is there = (let same : Some was ≡ Some is.bytes = sym there ∙ is.is in let e : was ≡ is.bytes = cc same in ap length e ∙ is.sized)

past_of : (size : ℕ) (pages : List Page) (i : ℕ) → All (IsOfSize size) pages → pages_in pages i ≡ None → length pages ≤ i
past_of size pages i sized none = elim (cases_lt i (length pages)) [
  | inl lt ↦ (let some = sym none ∙ (page_of size pages i sized lt).is in absurd (cc some))
  | inr le ↦ le
]

no_patch : (entry : Option Asked) → (IsSome entry → ⊥) → patch_of entry ≡ None
no_patch None away = refl
no_patch (Some entry) away = absurd (away refl)

module _ (p q : PlainPages) (before : ArePlain p) (after : ArePlain q) (keeps : KeepsPlain p q) where
  size_kept : q.shape.page_size ≡ p.shape.page_size
  size_kept = ap (λ (s : Shape). s.page_size) keeps.shape

  page_now : (i : ℕ) → i < plain_count q → IsPageOf p.shape.page_size ((plain_seen q).pages i)
  page_now i lt = subst (λ size. IsPageOf size (pages_in q.pages.items i)) size_kept (page_of q.shape.page_size q.pages.items i after.sized lt)

  made_now : (i : ℕ) → plain_count p ≤ i → i < plain_count q → IsSomeAnd ((plain_seen q).patch i) (IsWhole p.shape.page_size)
  made_now i past lt = subst (λ size. IsSomeAnd (patch_of (entry_of q.asked.items i)) (IsWhole size)) size_kept (made_whole q.shape.page_size (entry_of q.asked.items i) (keeps.come i past lt))

  pub keeps_pages : KeepsPages p.shape.page_size (plain_seen p) (plain_seen q)
  keeps_pages = record {
    size_is = refl;
    sized = λ i was there. found_size p.shape.page_size (pages_in p.pages.items i) was (page_of p.shape.page_size p.pages.items i before.sized (there_below p.pages.items i (subst IsSome (sym there) refl))) there;
    stays = λ i was there. page_now i (omega (arith, keeps.stay, there_below p.pages.items i (subst IsSome (sym there) refl)));
    comes = λ i none.
        let past = past_of p.shape.page_size p.pages.items i before.sized none in
        elim (cases_lt i (plain_count q)) [
          | inl lt ↦ inr (page_now i lt, made_now i past lt)
          | inr le ↦ inl (none_past q.pages.items i le, no_patch (entry_of q.asked.items i) (λ some. omega (arith, after.there i some, le)))
        ];
    patches = λ i patch is. subst (λ size. IsPatchFor size patch) size_kept (after.patches i patch is);
  }
