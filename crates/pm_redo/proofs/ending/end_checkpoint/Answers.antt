use Rattle.std.proofs.Common.{◌∙◌, ap}
use Rattle.pm_disk.specs.Worlds.{World}
use Rattle.std.proofs.lemmas.Result.{on_ok_weaker}
use Rattle.pm_core.proofs.OnlyDisk.{makes_disk, silent_finish, then_disk}
use Rattle.pm_redo.proofs.EndingSteps.{end_begun, ends, any_state, finish_log, lays_pages, unended_state, is_unended}
use Rattle.pm_redo.proofs.ending.end_checkpoint.Goals as goal

pub returns-in_err-write_pages-clause-begun : goal.returns-in_err-write_pages-clause-begun
returns-in_err-write_pages-clause-begun g c t wanted told s may = c.write_pages.ensures.begun t told c.args.mark.now s may.unended

pub returns-clause-begun : goal.returns-clause-begun
returns-clause-begun g c t wanted told s may =
    let old = g.H.Device.history c.args.host.now in
    let mid = g.H.Device.history c.write_pages.new.host in
    let new = g.H.Device.history c.finish.new.host in
    end_begun wanted told c.args.mark.now c.args.rebuilt.now c.args.pages.now.items s old mid new may c.requires.mark (c.in_ok-write_pages.ensures.written t told c.args.mark.now s may.unended) (c.finish.ensures.steps t s).moments

pub returns-clause-ended : goal.returns-clause-ended
returns-clause-ended g c t wanted told s may =
    let old = g.H.Device.history c.args.host.now in
    let mid = g.H.Device.history c.write_pages.new.host in
    let new = g.H.Device.history c.finish.new.host in
    let made = c.finish.ensures.steps t s in
    on_ok_weaker c.finish.result
    (ends wanted told c.args.mark.now c.args.rebuilt.now c.args.pages.now.items s old mid new may c.requires.mark (c.in_ok-write_pages.ensures.written t told c.args.mark.now s may.unended) made.moments) made.all

pub returns-clause-pages : goal.returns-clause-pages
returns-clause-pages g c t are =
    let old = g.H.Device.history c.args.host.now in
    let mid = g.H.Device.history c.write_pages.new.host in
    let new = g.H.Device.history c.finish.new.host in
    let mark = c.args.mark.now in
    let kept = c.args.rebuilt.now in
    let pages = c.args.pages.now.items in
    let s = unended_state mark kept in
    on_ok_weaker c.finish.result (lays_pages (λ _. 0) mark kept pages s old mid new (c.in_ok-write_pages.ensures.written t (λ _. 0) mark s (is_unended mark kept)) are) (c.finish.ensures.steps t s).all

pub returns-clause-log : goal.returns-clause-log
returns-clause-log g c t =
    let mid = g.H.Device.history c.write_pages.new.host in
    let mark = c.args.mark.now in
    let pages = c.args.pages.now.items in
    let s = any_state mark.shape in
    on_ok_weaker c.finish.result (λ is. ap (λ (w : World). w.log) is ∙ finish_log mark pages s mid.world ∙ c.in_ok-write_pages.ensures.log t) (c.finish.ensures.steps t s).all

pub returns-clause-disk : goal.returns-clause-disk
returns-clause-disk g c t =
    let old = g.H.Device.history c.args.host.now in
    let mid = g.H.Device.history c.write_pages.new.host in
    let new = g.H.Device.history c.finish.new.host in
    let mark = c.args.mark.now in
    let pages = c.args.pages.now.items in
    let s = any_state mark.shape in
    then_disk old mid new (g.H.Device.sound c.write_pages.new.host t) (c.write_pages.ensures.disk t)
    (makes_disk mid new _ s (silent_finish mark pages) (c.finish.ensures.steps t s).moments)
