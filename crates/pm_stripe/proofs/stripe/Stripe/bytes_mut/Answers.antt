use Rattle.std.proofs.Common.{◌≡◌, List, Some, refl, sym, ap, ◌∙◌, arith}
use Rattle.pm_stripe.specs.declared.held.Held.{Held}
use Rattle.pm_stripe.specs.HandLaws.{place_some}
use Rattle.pm_stripe.specs.Kept.{place_at}
use Rattle.pm_stripe.proofs.InPlace.{in_place}
use Rattle.std.specs.Prelude.{slice_get}
use Rattle.std.specs.Option.{option_map}
use Rattle.std.specs.Vec.{with_item}
use Rattle.pm_stripe.specs.Rewrites.{rewritten, held_with}
use Rattle.pm_stripe.proofs.stripe.Stripe.bytes_mut.Goals as goal

pub index_mut-requires : goal.index_mut-requires
index_mut-requires c =
    let hs = c.args.self.now.held.items in
    let at : c.place-at.result ≡ place_at hs c.args.page.0 = c.place-at.ensures ∙ ap (λ (xs : List Held). place_at xs c.args.page.0) c.deref.ensures.value in
    omega (arith, at, place_some hs c.args.page.0 c.requires.there)

pub returns : goal.returns
returns c =
    let hs = c.args.self.now.held.items in
    let at : c.place-at.result ≡ place_at hs c.args.page.0 = c.place-at.ensures ∙ ap (λ (xs : List Held). place_at xs c.args.page.0) c.deref.ensures.value in
    let s = c.args.self.now in
    let h : Held = c.index_mut.result.now in
    let x = in_place hs c.args.page.0 c.place-at.result h c.requires.there at c.index_mut.ensures.value in
    let there : slice_get hs (place_at hs c.args.page.0) ≡ Some h = ap (slice_get hs) (sym at) ∙ x.1 in (
      (refl, (λ w. ap (λ n. record s { held = with_item s.held n (rewritten h w) }) at ∙ ap (λ o. record s { held = held_with s.held (place_at hs c.args.page.0) o w }) (sym there))),
      record { bytes = ap (option_map (λ (z : Held). z.lease.bytes)) x.0 ∙ ap Some (sym c.bytes_mut.ensures.bytes); lends = tt },
    )
