-- How rings are opened, one after the other.
use Rattle.std.proofs.Common.{◌≡◌, ◌⊎◌, inl, inr, ℕ, zero, suc, ◌+◌, ◌<◌, List, [], ◌∷◌, ◌++◌, length, refl, sym, ap, ◌∙◌, subst, arith, Some}
use Rattle.std.specs.List.{slice_get}
use Rattle.std.proofs.lemmas.List.{length_push}
use Rattle.pm_logger.specs.Rings.{EachPair}
use Rattle.pm_logger.specs.declared.inbox.Inbox.{Inbox}
use Rattle.pm_logger.specs.declared.log_end.LogEnd.{LogEnd}
use Rattle.pm_logger.proofs.Merging.{some_same}

-- what a list holds that was pushed to
get_push : {X : Type 0} (xs : List X) (y z : X) (w : ℕ) → slice_get (xs ++ y ∷ []) w ≡ Some z → ((w < length xs) × (slice_get xs w ≡ Some z)) ⊎ ((w ≡ length xs) × (z ≡ y))
get_push [] y z zero e = inr (refl, some_same z y (sym e))
get_push [] y z (suc w) e = absurd cc
get_push (x ∷ xs) y z zero e = inl (omega arith, e)
get_push (x ∷ xs) y z (suc w) e = elim (get_push xs y z w e) [
  | inl h ↦ inl (let l = h.0 in omega (arith, l), h.1)
  | inr h ↦ inr (ap suc h.0, h.1)
]

pub pair_push : (P : LogEnd → Inbox → Type 0) (ends : List LogEnd) (inboxes : List Inbox) (end : LogEnd) (inbox : Inbox) → EachPair P ends inboxes → P end inbox → EachPair P (ends ++ end ∷ []) (inboxes ++ inbox ∷ [])
pair_push P ends inboxes end inbox pairs new = record {
  many = length_push ends end ∙ ap (λ n. n + 1) pairs.many ∙ sym (length_push inboxes inbox);
  each = λ w e i at_e at_i. elim (get_push ends end e w at_e) [
    | inl p ↦ elim (get_push inboxes inbox i w at_i) [
      | inl q ↦ pairs.each w e i p.1 q.1
      | inr q ↦ let m = pairs.many in let l = p.0 in let k = q.0 in absurd (omega (arith, m, l, k))
    ]
    | inr p ↦ elim (get_push inboxes inbox i w at_i) [
      | inl q ↦ let m = pairs.many in let l = p.0 in let k = q.0 in absurd (omega (arith, m, l, k))
      | inr q ↦ subst (λ (x : LogEnd × Inbox). P x.0 x.1) (λ k. (sym p.1 k, sym q.1 k)) new
    ]
  ];
}
