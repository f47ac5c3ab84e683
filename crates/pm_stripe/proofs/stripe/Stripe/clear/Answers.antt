use Rattle.std.proofs.Common.{◌≡◌, List, set, Some, true, refl, ap, ◌∙◌, arith}
use Rattle.pm_stripe.specs.declared.held.Held.{Held}
use Rattle.pm_stripe.specs.HandLaws.{place_some}
use Rattle.pm_stripe.specs.Kept.{place_at}
use Rattle.pm_stripe.proofs.InPlace.{in_place}
use Rattle.pm_stripe.proofs.stripe.Stripe.clear.Goals as goal

pub index_mut-held-requires : goal.index_mut-held-requires
index_mut-held-requires c =
    let hs = c.args.self.now.held.items in
    let at : c.place-at.result ≡ place_at hs c.args.page.0 = c.place-at.ensures ∙ ap (λ (xs : List Held). place_at xs c.args.page.0) c.deref.ensures.value in
    omega (arith, at, place_some hs c.args.page.0 c.requires.there)

pub returns : goal.returns
returns c =
    let hs = c.args.self.now.held.items in
    let at : c.place-at.result ≡ place_at hs c.args.page.0 = c.place-at.ensures ∙ ap (λ (xs : List Held). place_at xs c.args.page.0) c.deref.ensures.value in
    let h : Held = c.index_mut-held.result.now in
    let x = in_place hs c.args.page.0 c.place-at.result h c.requires.there at c.index_mut-held.ensures.value in
    record {
      page = h;
      patch = c.whole_patch-whole.result;
      whole = c.whole_patch-whole.ensures;
      is = record {
        at = x.0;
        held = (λ i. set hs (at i) (record h { lease = c.clear.ensures i; is_lent = true; patch = Some c.whole_patch-whole.result }));
        room = refl;
        rest = refl;
      };
    }
