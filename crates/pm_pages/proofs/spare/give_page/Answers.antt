use Rattle.std.proofs.Common.{arith}
use Rattle.std.proofs.lemmas.Result.{on_ok_weaker}
use Rattle.pm_pages.proofs.TakenPages.{gives_made}
use Rattle.pm_pages.proofs.spare.give_page.Goals as goal

pub returns-clause-gives : goal.returns-clause-gives
returns-clause-gives g c =
    let w = c.write_reuse.ensures.writes in
    on_ok_weaker c.set_number.result (λ sets. gives_made g.P.Pages.tells (g.P.Pages.seen c.args.pages.now) (g.P.Pages.seen c.number.new.pages) (g.P.Pages.seen c.make_zeros.new.pages) (g.P.Pages.seen c.write_reuse.new.pages) (g.P.Pages.seen c.set_number.new.pages)
    c.args.index c.in_ok-head.head w.0 c.requires.some c.requires.meta c.number.ensures.looks c.in_ok-head.ensures.number c.in_ok-make_zeros.ensures.makes w.1 w.2 w.3 w.4 c.set_number.ensures.edits sets) c.set_number.ensures.sets

pub returns-clause-again : goal.returns-clause-again
returns-clause-again g c =
    let looks = c.number.ensures.looks in
    let makes = c.in_ok-make_zeros.ensures.makes in
    on_ok_weaker c.set_number.result (λ sets asked. (let room = makes.room.again (looks.asked c.args.index asked) in omega (arith, looks.spare, room, c.write_reuse.ensures.writes.1.spare, c.set_number.ensures.edits.spare))) c.set_number.ensures.sets
