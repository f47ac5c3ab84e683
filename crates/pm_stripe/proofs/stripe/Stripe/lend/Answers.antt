use Rattle.std.proofs.Common.{◌≡◌, List, set, true, refl, ap, ◌∙◌, arith}
use Rattle.pm_stripe.specs.declared.held.Held.{Held}
use Rattle.pm_stripe.specs.HandLaws.{place_some}
use Rattle.pm_stripe.specs.Kept.{place_at}
use Rattle.pm_stripe.proofs.InPlace.{in_place}
use Rattle.pm_stripe.proofs.stripe.Stripe.lend.Goals as goal

pub index_mut-requires : goal.index_mut-requires
index_mut-requires c =
    let hs = c.args.self.now.held.items in
    let at : c.place-at.result ≡ place_at hs c.args.page.0 = c.place-at.ensures ∙ ap (λ (xs : List Held). place_at xs c.args.page.0) c.deref.ensures.value in
    omega (arith, at, place_some hs c.args.page.0 c.requires.there)

pub returns : goal.returns
returns c =
    let hs = c.args.self.now.held.items in
    let at : c.place-at.result ≡ place_at hs c.args.page.0 = c.place-at.ensures ∙ ap (λ (xs : List Held). place_at xs c.args.page.0) c.deref.ensures.value in
    let h : Held = c.index_mut.result.now in
    record {
      page = h;
      is = record {
        at = (in_place hs c.args.page.0 c.place-at.result h c.requires.there at c.index_mut.ensures.value).0;
        held = ap (λ n. set hs n (record h { is_lent = true })) at;
        room = refl;
        rest = refl;
      };
    }
