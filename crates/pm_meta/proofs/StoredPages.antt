-- A meta page that may stand in its file still may after one of its numbers was set within its bounds.
use Rattle.std.proofs.Common.{◌≡◌, ◌≢◌, ℕ, ◌<◌, ◌⊎◌, List, sym, ap, subst, ◌∙◌, refl, inl, inr, arith}
use Rattle.std.proofs.lemmas.Bool.{cases_eq}
use Rattle.pm_types.specs.declared.page_id.PageId.{PageId}
use Rattle.pm_meta.specs.declared.slots.MetaSlot.{MetaSlot}
use Rattle.pm_meta.specs.declared.slots.MetaSlot.TheVariants.{Root, Bucket, Reuse, Pages, Rows}
use Rattle.pm_meta.specs.MetaPages.{field_of, IsSlot, IsPageSlot, IsInBounds, IsStoredMeta}
use Rattle.pm_meta.proofs.OneField.{KeepsAllElse}
use Rattle.pm_meta.proofs.OffsetsApart.{is_slot}

-- a slot of an index is this one or another
same_or_not : (a b : MetaSlot) → IsPageSlot a → (a ≡ b) ⊎ (a ≢ b)
same_or_not (Root x) (Root y) is = elim (cases_eq x y) [ inl e ↦ inl (ap Root e) | inr n ↦ inr (λ e. n (cc e)) ]
same_or_not (Root x) (Bucket y) is = inr (λ e. cc e)
same_or_not (Root x) Reuse is = inr (λ e. cc e)
same_or_not (Root x) Pages is = inr (λ e. cc e)
same_or_not (Root x) Rows is = inr (λ e. cc e)
same_or_not (Bucket x) (Root y) is = inr (λ e. cc e)
same_or_not (Bucket x) (Bucket y) is = elim (cases_eq x y) [ inl e ↦ inl (ap Bucket e) | inr n ↦ inr (λ e. n (cc e)) ]
same_or_not (Bucket x) Reuse is = inr (λ e. cc e)
same_or_not (Bucket x) Pages is = inr (λ e. cc e)
same_or_not (Bucket x) Rows is = inr (λ e. cc e)
same_or_not Reuse (Root y) is = inr (λ e. cc e)
same_or_not Reuse (Bucket y) is = inr (λ e. cc e)
same_or_not Reuse Reuse is = inl refl
same_or_not Reuse Pages is = inr (λ e. cc e)
same_or_not Reuse Rows is = inr (λ e. cc e)
same_or_not Pages b is = absurd is
same_or_not Rows b is = absurd is

module _ (was now : List ℕ) (id : PageId) (max_rows value : ℕ) (stored : IsStoredMeta id max_rows was) where
  -- an index was set
  index_set : (slot : MetaSlot) → KeepsAllElse was now slot → field_of now slot ≡ value → IsPageSlot slot → value < field_of was Pages → IsStoredMeta id max_rows now
  index_set slot keeps set is lt =
      let pages = keeps.others Pages tt (λ e. subst IsPageSlot (sym e) is) in
      let rows = keeps.others Rows tt (λ e. subst IsPageSlot (sym e) is) in
      record {
        own = keeps.id ∙ stored.own;
        well_made = keeps.well_made;
        counts = record { some = omega (arith, pages, stored.counts.some); pages = omega (arith, pages, stored.counts.pages); rows = omega (arith, rows, stored.counts.rows) };
        below = λ other is_index. elim (same_or_not other slot is_index) [
          | inl same ↦ (let e = ap (field_of now) same ∙ set in omega (arith, e, pages, lt))
          | inr differ ↦ (let e = keeps.others other (is_slot other is_index) differ in omega (arith, e, pages, stored.below other is_index))
        ];
      }

  -- the number was set
  pub stored_after : (slot : MetaSlot) → KeepsAllElse was now slot → field_of now slot ≡ value → IsSlot slot → IsInBounds max_rows was slot value → IsStoredMeta id max_rows now
  stored_after (Root x) keeps set is within = index_set (Root x) keeps set is within
  stored_after (Bucket x) keeps set is within = index_set (Bucket x) keeps set is within
  stored_after Reuse keeps set is within = index_set Reuse keeps set tt within
  stored_after Pages keeps set is within =
      let rows = keeps.others Rows tt (λ e. cc e) in
      record {
        own = keeps.id ∙ stored.own;
        well_made = keeps.well_made;
        counts = record { some = omega (arith, set, within.0); pages = omega (arith, set, within.1); rows = omega (arith, rows, stored.counts.rows) };
        below = λ other is_index. (let e = keeps.others other (is_slot other is_index) (λ same. subst IsPageSlot same is_index) in omega (arith, e, set, within.2 other is_index));
      }
  stored_after Rows keeps set is within =
      let pages = keeps.others Pages tt (λ e. cc e) in
      record {
        own = keeps.id ∙ stored.own;
        well_made = keeps.well_made;
        counts = record { some = omega (arith, pages, stored.counts.some); pages = omega (arith, pages, stored.counts.pages); rows = omega (arith, set, within) };
        below = λ other is_index. (let e = keeps.others other (is_slot other is_index) (λ same. subst IsPageSlot same is_index) in omega (arith, e, pages, stored.below other is_index));
      }
