use Rattle.std.proofs.Common.{◌≡◌, ap, ◌∙◌, arith}
use Rattle.pm_stripe.specs.Kept.{place_at}
use Rattle.pm_stripe.specs.Stripes.{kept, file_of}
use Rattle.pm_stripe.proofs.Fetched.{had}
use Rattle.pm_stripe.proofs.stripe.Stripe.fetch.Goals as goal

pub returns-then-place-len-clause-fetches : goal.returns-then-place-len-clause-fetches
returns-then-place-len-clause-fetches g c =
    let b = c.args.self.now in
    let at : c.place.result ≡ place_at b.held.items c.args.page.0 = c.place.ensures ∙ ap (λ hs. place_at hs c.args.page.0) c.deref.ensures.value in
    had c.args.locks.now (kept b c.args.seat.now) c.args.page g.R.Device.tells (file_of b (g.R.Device.history c.args.reader.now) c.args.page) c.requires.holds c.requires.frames (omega (arith, at, c.len.ensures, c.if-place-len.true))

pub bring-requires-clause-not_in_hand : goal.bring-requires-clause-not_in_hand
bring-requires-clause-not_in_hand g c =
    let b = c.args.self.now in
    let at : c.place.result ≡ place_at b.held.items c.args.page.0 = c.place.ensures ∙ ap (λ hs. place_at hs c.args.page.0) c.deref.ensures.value in
    omega (arith, at, c.len.ensures, c.if-place-len.false)
