use Rattle.std.proofs.Common.{◌≡◌, length, Some, refl, sym, ap, ◌∙◌, subst}
use Rattle.pm_types.specs.declared.page_id.PageId.{PageId}
use Rattle.pm_types.specs.Ids.{page_id}
use Rattle.pm_stripe.specs.declared.held.Held.{Held}
use Rattle.pm_stripe.specs.Kept.{held_at, place_at}
use Rattle.pm_stripe.specs.Shown.{kept_by, file_by}
use Rattle.std.specs.Option.{option_map}
use Rattle.pm_stripe.specs.Rewrites.{stripe_with}
use Rattle.pm_stripe.specs.ShownLaws.{lent_at}
use Rattle.pm_stripe.proofs.ShownPages.{here}
use Rattle.pm_stripe.proofs.paging.BoundPages.page_mut.Goals as goal

pub returns : goal.returns
returns g c =
    let b = c.args.self.now in
    let id = page_id b.part c.args.index in
    let x = lent_at b.stripe.held.items id.0 c.requires.lent in
    let long = (c.requires.ready.bound.holds.held (place_at b.stripe.held.items id.0) x.page x.at).out.long in
    let P : PageId → Type 0 = λ n. option_map (λ (z : Held). z.lease.bytes) (held_at b.stripe.held.items n.0) ≡ Some c.bytes_mut.result.now in
    let q : Some x.page.lease.bytes ≡ Some c.bytes_mut.result.now = sym (ap (option_map (λ (z : Held). z.lease.bytes)) x.found) ∙ subst P c.new-page.ensures c.bytes_mut.ensures.bytes in
    let bytes : x.page.lease.bytes ≡ c.bytes_mut.result.now = cc q in (
      (refl, (λ w. ap (λ n. record b { stripe = stripe_with b.stripe n w }) c.new-page.ensures)),
      record { page = here (file_by g.R.Device.history b) (kept_by b) id x.page x.found ∙ q; size = ap length (sym bytes) ∙ long; lends = tt },
    )
