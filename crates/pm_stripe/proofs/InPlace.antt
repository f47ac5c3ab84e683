-- The page in hand that stands where it was looked up.
use Rattle.std.proofs.Common.{◌≡◌, ℕ, List, get_or, Some, sym, ap, ◌∙◌}
use Rattle.std.specs.Prelude.{IsSome, slice_get}
use Rattle.std.proofs.lemmas.Option.{slice_get-get_or}
use Rattle.pm_stripe.specs.declared.held.Held.{Held}
use Rattle.pm_stripe.specs.HandLaws.{place_there, place_some}
use Rattle.pm_stripe.specs.Kept.{held_at, place_at}

pub in_place : (hs : List Held) (id at : ℕ) (h : Held) → IsSome (held_at hs id) → at ≡ place_at hs id → h ≡ get_or hs at h → (held_at hs id ≡ Some h) × (slice_get hs at ≡ Some h)
in_place hs id at h some is value =
    let lt = place_some hs id some in
    let x = place_there hs id lt in
    let there : slice_get hs (place_at hs id) ≡ Some h = slice_get-get_or hs (place_at hs id) h lt ∙ ap Some (ap (λ n. get_or hs n h) (sym is) ∙ sym value) in
    (x.1 ∙ sym x.2 ∙ there, ap (slice_get hs) is ∙ there)
