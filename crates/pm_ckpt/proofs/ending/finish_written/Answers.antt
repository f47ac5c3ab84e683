use Rattle.std.proofs.Common.{◌≡◌, List, ◌++◌, sym, ◌∙◌, ap, subst}
use Rattle.std.specs.Prelude.{All}
use Rattle.std.proofs.lemmas.Result.{on_ok_weaker}
use Rattle.pm_types.specs.declared.page_id.PageId.{PageId}
use Rattle.pm_types.specs.declared.shape.Mark.{Mark}
use Rattle.pm_disk.specs.Worlds.{World}
use Rattle.pm_core.specs.Calls.{MakesSteps, finish_steps}
use Rattle.pm_core.specs.Machine.{states, worlds}
use Rattle.pm_core.specs.PageSets.{AreAmong, Running, left_after}
use Rattle.pm_core.proofs.Making.{moments_first, broke_off}
use Rattle.pm_ckpt.specs.Writes.{held_in, IsHeld, write_steps, AreHome}
use Rattle.pm_ckpt.proofs.Finishing.{among_own, none_left, home, finish_log, writes_log}
use Rattle.pm_ckpt.proofs.Opening.{makes_joined, some_state}
use Rattle.pm_ckpt.proofs.Written.{after_writes, writes_world}
use Rattle.pm_ckpt.proofs.ending.finish_written.Goals as goal

pub returns-in_err-write_pages-clause-steps : goal.returns-in_err-write_pages-clause-steps
returns-in_err-write_pages-clause-steps g c t =
    let old = g.H.Device.history c.args.host.now in
    let mid = g.H.Device.history c.write_pages.new.host in
    let held = held_in c.args.pages.now in
    let order = c.args.order.now in
    let mark = c.args.begun.mark in
    let wrote = c.write_pages.ensures.writes t in
    record {
      writings = wrote.writings;
      pages_are = wrote.pages_are;
      gaps = wrote.gaps;
      makes = λ s.
          broke_off old mid c.from_residual.result (write_steps held wrote.writings ++ finish_steps mark order) s c.from_residual.ensures.0
          (moments_first old mid (write_steps held wrote.writings) (finish_steps mark order) s (wrote.makes s).moments);
    }

pub wrote-requires : goal.wrote-requires
wrote-requires g c = subst (λ (ps : List PageId). AreAmong c.args.order.now ps) (sym c.requires.set) (among_own c.args.order.now)

pub finish-requires-clause-written : goal.finish-requires-clause-written
finish-requires-clause-written g c κs within =
    ap (λ (r : Running). r.left) c.wrote.ensures ∙ ap (left_after c.args.order.now) c.requires.left ∙ none_left c.args.order.now c.requires.once

pub returns-clause-steps : goal.returns-clause-steps
returns-clause-steps g c t =
    let old = g.H.Device.history c.args.host.now in
    let mid = g.H.Device.history c.write_pages.new.host in
    let new = g.H.Device.history c.finish.new.host in
    let held = held_in c.args.pages.now in
    let order = c.args.order.now in
    let mark = c.args.begun.mark in
    let wrote = c.in_ok-write_pages.ensures.writes t in
    let mark_is : c.wrote.new.self.mark ≡ mark = ap (λ (r : Running). r.mark) c.wrote.ensures in
    let pages_is : c.wrote.new.self.set.pages ≡ order = ap (λ (r : Running). r.set.pages) c.wrote.ensures ∙ c.requires.set in
    record {
      writings = wrote.writings;
      pages_are = wrote.pages_are;
      gaps = wrote.gaps;
      makes = λ s.
          let writes = write_steps held wrote.writings in
          let after = states writes s old.world in
          let ends = subst (λ (ps : List PageId). MakesSteps mid new c.finish.result (finish_steps mark ps) after) pages_is
          (subst (λ (m : Mark). MakesSteps mid new c.finish.result (finish_steps m c.wrote.new.self.set.pages) after) mark_is (c.finish.ensures.steps t after)) in
          makes_joined old mid new c.finish.result writes (finish_steps mark order) s (wrote.makes s).moments (wrote.makes s).all ends;
    }

pub returns-clause-home : goal.returns-clause-home
returns-clause-home g c t may =
    let old = g.H.Device.history c.args.host.now in
    let mid = g.H.Device.history c.write_pages.new.host in
    let new = g.H.Device.history c.finish.new.host in
    let held = held_in c.args.pages.now in
    let order = c.args.order.now in
    let mark = c.args.begun.mark in
    let wrote = c.in_ok-write_pages.ensures.writes t in
    let held_all = subst (λ n. All (IsHeld n held) order) c.requires.size c.requires.held in
    let is : mid.world ≡ after_writes held wrote.writings old.world = (wrote.makes may.state).all ∙ writes_world held wrote.writings may.state old.world in
    let mark_is : c.wrote.new.self.mark ≡ mark = ap (λ (r : Running). r.mark) c.wrote.ensures in
    let pages_is : c.wrote.new.self.set.pages ≡ order = ap (λ (r : Running). r.set.pages) c.wrote.ensures ∙ c.requires.set in
    on_ok_weaker c.finish.result
    (λ done.
    subst (λ n. AreHome n held order new.world) (sym c.requires.size)
    (home may.wanted may.told may.state mark held order old.world may.can held_all wrote.writings wrote.pages_are wrote.gaps new.world
    (done ∙ ap (λ (m : Mark). worlds (finish_steps m c.wrote.new.self.set.pages) may.state mid.world) mark_is
    ∙ ap (λ (ps : List PageId). worlds (finish_steps mark ps) may.state mid.world) pages_is
    ∙ ap (λ (w : World). worlds (finish_steps mark order) may.state w) is)))
    (c.finish.ensures.steps t may.state).all

pub returns-clause-log : goal.returns-clause-log
returns-clause-log g c t =
    let old = g.H.Device.history c.args.host.now in
    let mid = g.H.Device.history c.write_pages.new.host in
    let new = g.H.Device.history c.finish.new.host in
    let held = held_in c.args.pages.now in
    let s = some_state c.args.begun.mark.shape in
    let wrote = c.in_ok-write_pages.ensures.writes t in
    let is : mid.world ≡ after_writes held wrote.writings old.world = (wrote.makes s).all ∙ writes_world held wrote.writings s old.world in
    on_ok_weaker c.finish.result
    (λ done.
    ap (λ (w : World). w.log) done ∙ finish_log c.wrote.new.self.mark c.wrote.new.self.set.pages s mid.world
    ∙ ap (λ (w : World). w.log) is ∙ writes_log held wrote.writings old.world)
    (c.finish.ensures.steps t s).all
