use Rattle.std.proofs.Common.{◌≡◌, ◌∷◌, [], IfOk, subst}
use Rattle.pm_model.specs.ReplyLists.{no_replies}
use Rattle.pm_engine.specs.FrameBatches.{LeavesAllLastingIn, RunsFrameBatch}
use Rattle.pm_client.specs.Rows.{put_line}
use Rattle.pm_client.proofs.PutRows.{has_row}
use Rattle.pm_client.proofs.putting.put.Goals as goal

pub returns-in-Ok-ran-clause-has_row : goal.returns-in-Ok-ran-clause-has_row
returns-in-Ok-ran-clause-has_row g c t may is =
    let tells = g.H.Device.tells in
    let old = g.H.Device.history c.args.host.now in
    let ran = c.batch-engine in
    let new = g.H.Device.history ran.new.host in
    let line = put_line c.args.cache c.args.key c.args.value in
    let runs = subst (λ r. RunsFrameBatch tells old new 1 (line ∷ []) 35 2 c.args.engine ran.result.0 c.in-Ok.replies ran.new.replies r) c.in-Ok-ran.is ran.ensures.runs in
    let fresh = subst (λ r. IfOk r (λ list. list ≡ no_replies 1)) c.in-Ok.is c.with_room.ensures in
    has_row tells old new c.args.cache c.args.key c.args.value c.args.engine ran.result.0 c.in-Ok.replies fresh ran.new.replies c.is_done.result t runs may c.is_done.ensures is

pub returns-in-Ok-ran-clause-lasts : goal.returns-in-Ok-ran-clause-lasts
returns-in-Ok-ran-clause-lasts g c =
    let tells = g.H.Device.tells in
    let old = g.H.Device.history c.args.host.now in
    let ran = c.batch-engine in
    let new = g.H.Device.history ran.new.host in
    let line = put_line c.args.cache c.args.key c.args.value in
    subst (λ r. LeavesAllLastingIn tells old new (line ∷ []) 35 2 c.args.engine ran.result.0 r) c.in-Ok-ran.is ran.ensures.lasts
