use Rattle.std.proofs.lemmas.Result.{on_ok_weaker}
use Rattle.pm_free.proofs.Changed.{sets_head}
use Rattle.pm_free.proofs.chains.set_head.Goals as goal

pub returns-clause-sets : goal.returns-clause-sets
returns-clause-sets g c =
    on_ok_weaker c.set_number.result (λ sets. sets_head g.P.Pages.tells (g.P.Pages.seen c.args.pages.now) (g.P.Pages.seen c.set_number.new.pages) c.args.bucket c.args.index c.requires.meta c.requires.readable c.set_number.ensures.readable c.set_number.ensures.edits sets) c.set_number.ensures.sets
