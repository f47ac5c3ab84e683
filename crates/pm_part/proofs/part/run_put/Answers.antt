use Rattle.pm_part.proofs.RefusedCommands.{put_done}
use Rattle.pm_part.proofs.part.run_put.Goals as goal

pub returns-then-branch-clause-refused : goal.returns-then-branch-clause-refused
returns-then-branch-clause-refused g c = λ refused. absurd (put_done c.args.cache c.args.key.now c.args.value.now c.args.replies.now c.push.new.self c.push.ensures refused)

pub returns-else-branch-clause-refused : goal.returns-else-branch-clause-refused
returns-else-branch-clause-refused g c = λ refused. c.in_ok-put.ensures.refused c.if-branch.false
