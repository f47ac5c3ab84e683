-- What a patch covered it covers still where another is joined to it.
use Rattle.std.proofs.Common.{◌≡◌, ℕ, Bool, true, false, List, [], ◌∷◌, inl, inr, Some, sym, refl, subst, arith}
use Rattle.pm_types.specs.declared.spans.Span.{Span}
use Rattle.pm_types.specs.Spans.{Coverage, AlsoCovers, IsPatch, RiseFrom, IsInSpans}
use Rattle.pm_types.proofs.PageSizeBounds.{page_size_bounds}
use Rattle.pm_stripe.specs.ChangedPages.{is_changed}
use Rattle.pm_stripe.proofs.PutPages.{not_covered}

pub joined_changed : (old joined : Coverage) (more : ℕ → Type 0) → IsPatch old → AlsoCovers old joined more → is_changed (Some joined) ≡ false → is_changed (Some old) ≡ false
joined_changed old joined more patch also e = by_parts old.whole old.spans refl refl
  where
    by_parts : (whole : Bool) (spans : List Span) → old.whole ≡ whole → old.spans ≡ spans → is_changed (Some (record old { whole = whole; spans = spans })) ≡ false
    by_parts true spans w is = absurd (not_covered (Some joined) 0 e (also.keeps 0 (inl (w, omega (arith, (page_size_bounds old.page_size patch.size).0)))))
    by_parts false [] w is = refl
    by_parts false (s ∷ ss) w is =
        let rise : RiseFrom 0 (s ∷ ss) = subst (RiseFrom 0) is patch.rise in
        let covers : IsInSpans old.spans s.start = subst (λ (all : List Span). IsInSpans all s.start) (sym is) (inl (omega arith, rise.1)) in
        absurd (not_covered (Some joined) s.start e (also.keeps s.start (inr covers)))
