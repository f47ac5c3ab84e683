use Rattle.std.proofs.Common.{arith}
use Rattle.pm_pages.proofs.EditedPages.{looks_more}
use Rattle.pm_part.proofs.RefusedCommands.{removal_refused}
use Rattle.pm_part.proofs.part.run_remove.Goals as goal

pub returns-clause-refused : goal.returns-clause-refused
returns-clause-refused g c = λ refused.
    looks_more g.P.Pages.tells (g.P.Pages.seen c.args.pages.now) (g.P.Pages.seen c.remove.new.pages) 29 32 (omega arith)
    (c.in_ok-was_there.ensures.refused (removal_refused c.args.cache c.args.key.now c.in_ok-was_there.was_there c.args.replies.now c.push.new.self c.push.ensures refused))
