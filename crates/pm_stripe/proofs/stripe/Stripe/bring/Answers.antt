use Rattle.std.proofs.Common.{Bool, None, sym, refl, ap, ◌∙◌}
use Rattle.std.specs.Prelude.{if◌then◌else◌}
use Rattle.pm_types.specs.declared.shape.Shape.{Shape}
use Rattle.pm_stripe.specs.Reads.{stored}
use Rattle.pm_stripe.specs.Stripes.{kept, file_of}
use Rattle.pm_stripe.proofs.Fetched.{is_away, still_away, at_home, nowhere, then_read, decided, may_read_lost}
use Rattle.pm_stripe.proofs.stripe.Stripe.bring.Goals as goal

pub take_home-requires-clause-away : goal.take_home-requires-clause-away
take_home-requires-clause-away g c =
    let b = c.args.self.now in
    is_away (kept b c.args.seat.now) c.args.page c.requires.not_in_hand c.requires.room

pub returns-then-take_home-clause-fetches : goal.returns-then-take_home-clause-fetches
returns-then-take_home-clause-fetches g c =
    let b = c.args.self.now in
    let away = is_away (kept b c.args.seat.now) c.args.page c.requires.not_in_hand c.requires.room in
    at_home c.args.locks.now (kept b c.args.seat.now) (kept c.take_home.new.self c.take_home.new.seat) c.args.page g.R.Device.tells (file_of b (g.R.Device.history c.args.reader.now) c.args.page) away c.if-take_home.ensures.takes

pub returns-then-not-self-clause-fetches : goal.returns-then-not-self-clause-fetches
returns-then-not-self-clause-fetches g c =
    let b = c.args.self.now in
    let away = is_away (kept b c.args.seat.now) c.args.page c.requires.not_in_hand c.requires.room in
    nowhere c.args.locks.now (kept b c.args.seat.now) (kept c.take_home.new.self c.take_home.new.seat) c.args.page g.R.Device.tells (file_of b (g.R.Device.history c.args.reader.now) c.args.page) away c.if-take_home.ensures.takes
    (ap (λ (f : Bool). if f then stored (g.R.Device.history c.args.reader.now).world b.shape.page_size c.args.page else None) (sym c.if-take_home.ensures.same.files ∙ c.if-not-self.true))

pub read_page-requires-clause-away : goal.read_page-requires-clause-away
read_page-requires-clause-away g c =
    let b = c.args.self.now in
    let away = is_away (kept b c.args.seat.now) c.args.page c.requires.not_in_hand c.requires.room in
    still_away (kept b c.args.seat.now) (kept c.take_home.new.self c.take_home.new.seat) c.args.page (c.if-take_home.ensures.takes.takes.lost refl).0 away

pub read_page-requires-clause-allowed : goal.read_page-requires-clause-allowed
read_page-requires-clause-allowed g c =
    let x = c.if-take_home.ensures.takes.takes in
    may_read_lost c.args.locks.now.workers (g.R.Device.state c.args.reader.now) (kept c.args.self.now c.args.seat.now) (kept c.take_home.new.self c.take_home.new.seat) c.args.page c.requires.reads c.requires.own x.staying (x.lost refl).1

pub returns-clause-fetches : goal.returns-clause-fetches
returns-clause-fetches g c =
    let b = c.args.self.now in
    let away = is_away (kept b c.args.seat.now) c.args.page c.requires.not_in_hand c.requires.room in
    then_read c.args.locks.now c.args.locks.now (kept b c.args.seat.now) (kept c.take_home.new.self c.take_home.new.seat) (kept c.read_page.new.self c.take_home.new.seat) c.args.page g.R.Device.tells
    (file_of b (g.R.Device.history c.args.reader.now) c.args.page) (stored (g.R.Device.history c.args.reader.now).world c.take_home.new.self.shape.page_size c.args.page) c.read_page.result refl
    (ap (λ (s : Shape). stored (g.R.Device.history c.args.reader.now).world s.page_size c.args.page) c.if-take_home.ensures.same.shape
    ∙ sym (ap (λ (f : Bool). if f then stored (g.R.Device.history c.args.reader.now).world b.shape.page_size c.args.page else None) (sym c.if-take_home.ensures.same.files ∙ c.if-not-self.false)))
    away c.if-take_home.ensures.takes c.read_page.ensures.reads (decided c.read_page.result)
