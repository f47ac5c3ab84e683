use Rattle.std.proofs.Common.{◌≡◌, List, refl, ap, ◌∙◌, arith}
use Rattle.pm_stripe.specs.declared.held.Held.{Held}
use Rattle.pm_stripe.specs.HandLaws.{place_there}
use Rattle.pm_stripe.specs.Kept.{held_at, place_at}
use Rattle.pm_stripe.specs.Stripes.{kept}
use Rattle.pm_stripe.proofs.Fetched.{some_held, added_some, is_away, still_away}
use Rattle.pm_stripe.proofs.MadePages.{clears, taken_made, lost_made, same_then, same_cleared}
use Rattle.pm_stripe.proofs.stripe.Stripe.make.Goals as goal

pub clear-requires-clause-there : goal.clear-requires-clause-there
clear-requires-clause-there g c =
    let hs = c.args.self.now.held.items in
    let at : c.place.result ≡ place_at hs c.args.page.0 = c.place.ensures ∙ ap (λ (xs : List Held). place_at xs c.args.page.0) c.deref.ensures.value in
    let x = place_there hs c.args.page.0 (omega (arith, at, c.len.ensures, c.if-place-len.true)) in
    some_held (held_at hs c.args.page.0) x.0 x.1

pub returns-then-place-len-clause-makes : goal.returns-then-place-len-clause-makes
returns-then-place-len-clause-makes g c = clears c.args.locks.now c.args.self.now c.clear.new.self c.args.seat.now c.args.page c.requires.holds c.requires.frames c.clear.ensures

pub returns-then-place-len-clause-same : goal.returns-then-place-len-clause-same
returns-then-place-len-clause-same g c = same_cleared c.args.self.now c.clear.new.self c.args.page c.clear.ensures

pub take_home-requires-clause-away : goal.take_home-requires-clause-away
take_home-requires-clause-away g c =
    let hs = c.args.self.now.held.items in
    let at : c.place.result ≡ place_at hs c.args.page.0 = c.place.ensures ∙ ap (λ (xs : List Held). place_at xs c.args.page.0) c.deref.ensures.value in
    is_away (kept c.args.self.now c.args.seat.now) c.args.page (omega (arith, at, c.len.ensures, c.if-place-len.false)) c.requires.room

pub clear-requires-then-take_home-clause-there : goal.clear-requires-then-take_home-clause-there
clear-requires-then-take_home-clause-there g c =
    let hs = c.args.self.now.held.items in
    let at : c.place.result ≡ place_at hs c.args.page.0 = c.place.ensures ∙ ap (λ (xs : List Held). place_at xs c.args.page.0) c.deref.ensures.value in
    let away = is_away (kept c.args.self.now c.args.seat.now) c.args.page (omega (arith, at, c.len.ensures, c.if-place-len.false)) c.requires.room in
    added_some (kept c.args.self.now c.args.seat.now) (kept c.take_home.new.self c.take_home.new.seat) c.args.page away (c.if-take_home.ensures.takes.takes.added refl)

pub returns-then-take_home-clause-makes : goal.returns-then-take_home-clause-makes
returns-then-take_home-clause-makes g c =
    let hs = c.args.self.now.held.items in
    let at : c.place.result ≡ place_at hs c.args.page.0 = c.place.ensures ∙ ap (λ (xs : List Held). place_at xs c.args.page.0) c.deref.ensures.value in
    let away = is_away (kept c.args.self.now c.args.seat.now) c.args.page (omega (arith, at, c.len.ensures, c.if-place-len.false)) c.requires.room in
    let home = c.if-take_home.ensures.takes in
    taken_made c.args.locks.now (kept c.args.self.now c.args.seat.now) (kept c.take_home.new.self c.take_home.new.seat) (kept c.clear-then-take_home.new.self c.take_home.new.seat) c.args.page away home
    (clears c.args.locks.now c.take_home.new.self c.clear-then-take_home.new.self c.take_home.new.seat c.args.page home.takes.holds home.frames c.clear-then-take_home.ensures)

pub returns-then-take_home-clause-same : goal.returns-then-take_home-clause-same
returns-then-take_home-clause-same g c =
    same_then c.args.self.now c.take_home.new.self c.clear-then-take_home.new.self c.if-take_home.ensures.same (same_cleared c.take_home.new.self c.clear-then-take_home.new.self c.args.page c.clear-then-take_home.ensures)

pub make_new-requires-clause-away : goal.make_new-requires-clause-away
make_new-requires-clause-away g c =
    let hs = c.args.self.now.held.items in
    let at : c.place.result ≡ place_at hs c.args.page.0 = c.place.ensures ∙ ap (λ (xs : List Held). place_at xs c.args.page.0) c.deref.ensures.value in
    let away = is_away (kept c.args.self.now c.args.seat.now) c.args.page (omega (arith, at, c.len.ensures, c.if-place-len.false)) c.requires.room in
    still_away (kept c.args.self.now c.args.seat.now) (kept c.take_home.new.self c.take_home.new.seat) c.args.page (c.if-take_home.ensures.takes.takes.lost refl).0 away

pub returns-clause-makes : goal.returns-clause-makes
returns-clause-makes g c =
    lost_made c.args.locks.now (kept c.args.self.now c.args.seat.now) (kept c.take_home.new.self c.take_home.new.seat) (kept c.make_new.new.self c.take_home.new.seat) c.args.page c.if-take_home.ensures.takes c.make_new.ensures.makes

pub returns-clause-same : goal.returns-clause-same
returns-clause-same g c = same_then c.args.self.now c.take_home.new.self c.make_new.new.self c.if-take_home.ensures.same c.make_new.ensures.same
