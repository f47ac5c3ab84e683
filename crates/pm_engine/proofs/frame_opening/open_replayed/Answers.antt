use Rattle.std.proofs.Common.{rules, ℕ, ◌+◌, ◌≤◌, ◌∙◌, Result, Ok, sym, ap, subst, arith, length, [], ◌∷◌}
use Rattle.std.specs.Prelude.{IfErr, IsErrOf}
use Rattle.pm_types.specs.declared.fault.OpenFault.TheVariants as opening
use Rattle.pm_types.specs.declared.fault.StoreFault.{StoreFault}
use Rattle.pm_types.specs.declared.fault.StoreFault.TheVariants.{BadPage, BadRecord}
use Rattle.pm_types.specs.declared.place.Place.{Place}
use Rattle.pm_types.specs.declared.shape.Shape.{Shape}
use Rattle.pm_disk.specs.Moments.{AllMoments}
use Rattle.pm_disk.proofs.Chain.{joined}
use Rattle.pm_locks.specs.Sight.{LockTable}
use Rattle.pm_records.specs.FirstRecords.{restart_frame}
use Rattle.pm_core.proofs.OnlyDisk.{logs_disk, then_disk}
use Rattle.pm_engine.specs.AppendRuns.{append_all_steps}
use Rattle.pm_records.specs.LogFiles.{contents}
use Rattle.pm_engine.specs.Engines.{FrameRunning}
use Rattle.pm_engine.specs.FrameOpenings.{IsFreshIn, IsReadyOver, OpensOverAny, OpensRunningIn}
use Rattle.pm_engine.specs.LogCounts.{CountsAtLeast, log_bytes}
use Rattle.pm_engine.specs.Openings.{IsPlainOpen, loaded_base}
use Rattle.pm_engine.specs.Replays.{CrashHoldsMap}
use Rattle.pm_engine.proofs.FrameOpened.{can_replay_in, fault_of, no_plain_page, no_plain_record, opens_over_none, opens_running_in, started_bad, started_leads, started_over_all, started_over_fault, started_whole}
use Rattle.pm_engine.proofs.HeldReplays.{mark_early, mark_from}
use Rattle.pm_engine.proofs.RestoredOpenings.{load_moments, plain_fault}
use Rattle.pm_engine.proofs.Results.{ok_holds}
use Rattle.pm_engine.proofs.SettledOpenings.{over_recounted, recounted}
use Rattle.pm_engine.proofs.frame_opening.open_replayed.Goals as goal

pub replay_in_frames-engine-requires-clause-from_one : goal.replay_in_frames-engine-requires-clause-from_one
replay_in_frames-engine-requires-clause-from_one g c _ _ =
    let fit = c.requires.fit in
    subst (λ (p : Place). 1 ≤ p.seg) (sym fit.replay) (mark_from c.args.config.now.shape c.args.base.mark fit.marked)

pub replay_in_frames-engine-requires-clause-within : goal.replay_in_frames-engine-requires-clause-within
replay_in_frames-engine-requires-clause-within g c _ _ =
    let fit = c.requires.fit in
    omega (arith, mark_early c.args.config.now.shape c.args.base.mark fit.marked, ap (λ (p : Place). p.off) fit.replay)

pub replay_in_frames-engine-requires-clause-clean : goal.replay_in_frames-engine-requires-clause-clean
replay_in_frames-engine-requires-clause-clean g c _ _ t =
    c.in_ok-started.ensures.started.clean (g.H.Device.history c.start_counted.new.host).world

pub returns-in-Ok-clause-fresh : goal.returns-in-Ok-clause-fresh
returns-in-Ok-clause-fresh g c =
    let config = c.args.config.now in
    let base = c.args.base in
    let fit = c.requires.fit in
    let old = g.H.Device.history c.args.host.now in
    let mid = g.H.Device.history c.start_counted.new.host in
    let new = g.H.Device.history c.replay_in_frames-engine.new.host in
    let engine = c.in_ok-started.started in
    let made = c.in_ok-started.ensures.started in
    let now = c.replay_in_frames-engine.result.0 in
    let answer = c.replay_in_frames-engine.result.1 in
    let x = c.replay_in_frames-engine.ensures.replays in
    let is = c.in-Ok.is in
    subst (λ (e : FrameRunning). IsFreshIn config e × (g.H.Device.tells → IsReadyOver e new.world)) (sym c.counting_from.ensures) (
      record {
        shape_is = x.ready.same.shape ∙ made.fresh.shape_is;
        frames = made.fresh.frames ∙ ap (λ (locks : LockTable). length locks.ranges) (sym x.ready.same.locks);
        order = x.ready.order ∙ made.fresh.order;
        is_open = ok_holds answer tt _ is x.ready.is_open;
      },
      λ t. record { ends = ok_holds answer tt _ is (x.ready.ends t); clean = ok_holds answer tt _ is (x.ready.clean t) },
    )

pub returns-in-Ok-clause-found : goal.returns-in-Ok-clause-found
returns-in-Ok-clause-found g c t =
    let base = c.args.base in
    subst (λ (n : ℕ). CountsAtLeast n (log_bytes (contents (g.H.Device.history c.args.host.now).world.log) base.replay base.log_end)) (sym (ap (λ (e : FrameRunning). e.began.found) c.counting_from.ensures)) (c.in_ok-started.ensures.found t)

pub returns-in-Ok-clause-opened : goal.returns-in-Ok-clause-opened
returns-in-Ok-clause-opened g c t last highest wanted told pairs s holding =
    let config = c.args.config.now in
    let base = c.args.base in
    let fit = c.requires.fit in
    let old = g.H.Device.history c.args.host.now in
    let mid = g.H.Device.history c.start_counted.new.host in
    let new = g.H.Device.history c.replay_in_frames-engine.new.host in
    let engine = c.in_ok-started.started in
    let made = c.in_ok-started.ensures.started in
    let now = c.replay_in_frames-engine.result.0 in
    let answer = c.replay_in_frames-engine.result.1 in
    let x = c.replay_in_frames-engine.ensures.replays in
    let steps = c.in_ok-started.ensures.steps t in
    let can = can_replay_in config base.mark base.log old.world mid.world engine made steps.all last highest wanted told pairs s holding fit.marked (c.requires.there t) base.replay base.log_end fit.replay fit.ends in
    let all = x.sound t last highest wanted told pairs can.0 can.1 in
    let is = c.in-Ok.is in
    subst (λ (e : FrameRunning). OpensRunningIn last highest wanted told config.shape pairs e new.world) (sym c.counting_from.ensures) (recounted last highest wanted told config.shape pairs now new.world _
    (opens_running_in last highest wanted told config.shape pairs now new.world (x.ready.same.shape ∙ made.fresh.shape_is) (ok_holds answer tt _ is all.map) (ok_holds answer tt _ is all.segment) (ok_holds answer tt _ is all.number) (ok_holds answer tt _ is all.replays)))

pub returns-in_err-started-clause-plain : goal.returns-in_err-started-clause-plain
returns-in_err-started-clause-plain g c t last highest wanted told pairs s holding =
    let plain = c.start_counted.ensures.cause.plain in
    plain_fault c.from_residual.result
    (λ id is.
    let its : IsErrOf c.start_counted.result (BadPage id) = search rules in
    no_plain_page c.start_counted.result id plain its)
    (λ at is.
    let its : IsErrOf c.start_counted.result (BadRecord at) = search rules in
    no_plain_record c.start_counted.result at plain its)

pub returns-in-Err-clause-plain : goal.returns-in-Err-clause-plain
returns-in-Err-clause-plain g c t last highest wanted told pairs s holding =
    let config = c.args.config.now in
    let base = c.args.base in
    let fit = c.requires.fit in
    let old = g.H.Device.history c.args.host.now in
    let mid = g.H.Device.history c.start_counted.new.host in
    let new = g.H.Device.history c.replay_in_frames-engine.new.host in
    let engine = c.in_ok-started.started in
    let made = c.in_ok-started.ensures.started in
    let now = c.replay_in_frames-engine.result.0 in
    let answer = c.replay_in_frames-engine.result.1 in
    let x = c.replay_in_frames-engine.ensures.replays in
    let steps = c.in_ok-started.ensures.steps t in
    let can = can_replay_in config base.mark base.log old.world mid.world engine made steps.all last highest wanted told pairs s holding fit.marked (c.requires.there t) base.replay base.log_end fit.replay fit.ends in
    let all = x.sound t last highest wanted told pairs can.0 can.1 in
    subst (λ (r : Result (Unit {0}) StoreFault). IfErr r (λ fault. IsPlainOpen (opening.Store fault))) c.in-Err.is (plain_fault answer all.no_page all.no_bad)

pub returns-in_err-started-clause-within : goal.returns-in_err-started-clause-within
returns-in_err-started-clause-within g c t last highest wanted told pairs s holding =
    let old = g.H.Device.history c.args.host.now in
    let mid = g.H.Device.history c.start_counted.new.host in
    load_moments last highest wanted told c.args.config.now.shape pairs c.args.base.log c.args.base.mark s old mid holding (c.start_counted.ensures.steps t).moments

pub returns-in-Ok-clause-within : goal.returns-in-Ok-clause-within
returns-in-Ok-clause-within g c t last highest wanted told pairs s holding =
    let config = c.args.config.now in
    let base = c.args.base in
    let fit = c.requires.fit in
    let old = g.H.Device.history c.args.host.now in
    let mid = g.H.Device.history c.start_counted.new.host in
    let new = g.H.Device.history c.replay_in_frames-engine.new.host in
    let engine = c.in_ok-started.started in
    let made = c.in_ok-started.ensures.started in
    let now = c.replay_in_frames-engine.result.0 in
    let answer = c.replay_in_frames-engine.result.1 in
    let x = c.replay_in_frames-engine.ensures.replays in
    let steps = c.in_ok-started.ensures.steps t in
    let can = can_replay_in config base.mark base.log old.world mid.world engine made steps.all last highest wanted told pairs s holding fit.marked (c.requires.there t) base.replay base.log_end fit.replay fit.ends in
    let all = x.sound t last highest wanted told pairs can.0 can.1 in
    joined old mid new (CrashHoldsMap (last + 1) highest wanted config.shape pairs) (load_moments last highest wanted told config.shape pairs base.log base.mark s old mid holding steps.moments)
    (subst (λ (k : Shape). AllMoments mid new (CrashHoldsMap (last + 1) highest wanted k pairs)) made.fresh.shape_is all.crash)

pub returns-in-Ok-clause-disk : goal.returns-in-Ok-clause-disk
returns-in-Ok-clause-disk g c t =
    let config = c.args.config.now in
    let base = c.args.base in
    let fit = c.requires.fit in
    let old = g.H.Device.history c.args.host.now in
    let mid = g.H.Device.history c.start_counted.new.host in
    let new = g.H.Device.history c.replay_in_frames-engine.new.host in
    let engine = c.in_ok-started.started in
    let made = c.in_ok-started.ensures.started in
    let now = c.replay_in_frames-engine.result.0 in
    let answer = c.replay_in_frames-engine.result.1 in
    let x = c.replay_in_frames-engine.ensures.replays in
    then_disk old mid new (g.H.Device.sound c.start_counted.new.host t) (logs_disk old mid (append_all_steps base.log (restart_frame config.shape ∷ [])) base.log.end (c.in_ok-started.ensures.steps t).moments) (x.ready.disk t)

pub returns-in-Err-clause-within : goal.returns-in-Err-clause-within
returns-in-Err-clause-within g c t last highest wanted told pairs s holding =
    let config = c.args.config.now in
    let base = c.args.base in
    let fit = c.requires.fit in
    let old = g.H.Device.history c.args.host.now in
    let mid = g.H.Device.history c.start_counted.new.host in
    let new = g.H.Device.history c.replay_in_frames-engine.new.host in
    let engine = c.in_ok-started.started in
    let made = c.in_ok-started.ensures.started in
    let now = c.replay_in_frames-engine.result.0 in
    let answer = c.replay_in_frames-engine.result.1 in
    let x = c.replay_in_frames-engine.ensures.replays in
    let steps = c.in_ok-started.ensures.steps t in
    let can = can_replay_in config base.mark base.log old.world mid.world engine made steps.all last highest wanted told pairs s holding fit.marked (c.requires.there t) base.replay base.log_end fit.replay fit.ends in
    let all = x.sound t last highest wanted told pairs can.0 can.1 in
    joined old mid new (CrashHoldsMap (last + 1) highest wanted config.shape pairs) (load_moments last highest wanted told config.shape pairs base.log base.mark s old mid holding steps.moments)
    (subst (λ (k : Shape). AllMoments mid new (CrashHoldsMap (last + 1) highest wanted k pairs)) made.fresh.shape_is all.crash)

pub returns-in-Err-clause-disk : goal.returns-in-Err-clause-disk
returns-in-Err-clause-disk g c t =
    let config = c.args.config.now in
    let base = c.args.base in
    let fit = c.requires.fit in
    let old = g.H.Device.history c.args.host.now in
    let mid = g.H.Device.history c.start_counted.new.host in
    let new = g.H.Device.history c.replay_in_frames-engine.new.host in
    let engine = c.in_ok-started.started in
    let made = c.in_ok-started.ensures.started in
    let now = c.replay_in_frames-engine.result.0 in
    let answer = c.replay_in_frames-engine.result.1 in
    let x = c.replay_in_frames-engine.ensures.replays in
    then_disk old mid new (g.H.Device.sound c.start_counted.new.host t) (logs_disk old mid (append_all_steps base.log (restart_frame config.shape ∷ [])) base.log.end (c.in_ok-started.ensures.steps t).moments) (x.ready.disk t)

pub returns-in_err-started-clause-disk : goal.returns-in_err-started-clause-disk
returns-in_err-started-clause-disk g c t =
    let base = c.args.base in
    logs_disk (g.H.Device.history c.args.host.now) (g.H.Device.history c.start_counted.new.host) (append_all_steps base.log (restart_frame c.args.config.now.shape ∷ [])) base.log.end (c.start_counted.ensures.steps t).moments

pub returns-in_err-started-clause-any : goal.returns-in_err-started-clause-any
returns-in_err-started-clause-any g c t = record {
  bad_page = λ id is well stray.
      let its : IsErrOf c.start_counted.result (BadPage id) = search rules in
      absurd (no_plain_page c.start_counted.result id c.start_counted.ensures.cause.plain its);
  bad_record = λ at is well stray.
      let its : IsErrOf c.start_counted.result (BadRecord at) = search rules in
      absurd (no_plain_record c.start_counted.result at c.start_counted.ensures.cause.plain its);
  over_any = λ leads.
      let base = c.args.base in
      let old = g.H.Device.history c.args.host.now in
      let new = g.H.Device.history c.start_counted.new.host in
      let plain = c.start_counted.ensures.cause.plain in
      opens_over_none g.H.Device.tells c.args.config.now.shape base.replay base.log_end leads.frames (loaded_base base.mark old.world) old.world new.world c.from_residual.result c.from_residual.ensures.0
      (λ id is.
      let its : IsErrOf c.start_counted.result (BadPage id) = search rules in
      no_plain_page c.start_counted.result id plain its)
      (λ at is.
      let its : IsErrOf c.start_counted.result (BadRecord at) = search rules in
      no_plain_record c.start_counted.result at plain its);
}

pub returns-in-Err-clause-any : goal.returns-in-Err-clause-any
returns-in-Err-clause-any g c t = record {
  bad_page = λ id is well stray.
      let config = c.args.config.now in
      let base = c.args.base in
      let fit = c.requires.fit in
      let old = g.H.Device.history c.args.host.now in
      let mid = g.H.Device.history c.start_counted.new.host in
      let new = g.H.Device.history c.replay_in_frames-engine.new.host in
      let engine = c.in_ok-started.started in
      let made = c.in_ok-started.ensures.started in
      let now = c.replay_in_frames-engine.result.0 in
      let answer = c.replay_in_frames-engine.result.1 in
      let x = c.replay_in_frames-engine.ensures.replays in
      let steps = c.in_ok-started.ensures.steps t in
      let leads = started_leads config base.mark base.log old.world mid.world engine made steps.all (c.requires.there t) base.replay base.log_end (c.requires.leads t) in
      let any = x.any t leads (started_whole config base.mark base.log old.world mid.world engine made steps.all c.requires.wanted.shape well fit.marked stray) in
      any.no_page id (fault_of answer c.in-Err.fault (BadPage id) c.in-Err.is is);
  bad_record = λ at is well stray.
      let config = c.args.config.now in
      let base = c.args.base in
      let fit = c.requires.fit in
      let old = g.H.Device.history c.args.host.now in
      let mid = g.H.Device.history c.start_counted.new.host in
      let new = g.H.Device.history c.replay_in_frames-engine.new.host in
      let engine = c.in_ok-started.started in
      let made = c.in_ok-started.ensures.started in
      let now = c.replay_in_frames-engine.result.0 in
      let answer = c.replay_in_frames-engine.result.1 in
      let x = c.replay_in_frames-engine.ensures.replays in
      let steps = c.in_ok-started.ensures.steps t in
      let leads = started_leads config base.mark base.log old.world mid.world engine made steps.all (c.requires.there t) base.replay base.log_end (c.requires.leads t) in
      let any = x.any t leads (started_whole config base.mark base.log old.world mid.world engine made steps.all c.requires.wanted.shape well fit.marked stray) in
      started_bad config base.mark base.log old.world mid.world engine made steps.all (c.requires.there t) base.replay base.log_end (c.requires.leads t) c.requires.wanted.shape well new.world at (any.bad at (fault_of answer c.in-Err.fault (BadRecord at) c.in-Err.is is));
  over_any = λ leads.
      let config = c.args.config.now in
      let base = c.args.base in
      let old = g.H.Device.history c.args.host.now in
      let mid = g.H.Device.history c.start_counted.new.host in
      let new = g.H.Device.history c.replay_in_frames-engine.new.host in
      let engine = c.in_ok-started.started in
      let made = c.in_ok-started.ensures.started in
      let now = c.replay_in_frames-engine.result.0 in
      let answer = c.replay_in_frames-engine.result.1 in
      let x = c.replay_in_frames-engine.ensures.replays in
      let steps = c.in_ok-started.ensures.steps t in
      let then_leads = started_leads config base.mark base.log old.world mid.world engine made steps.all (c.requires.there t) base.replay base.log_end leads in
      started_over_fault config base.mark base.log old.world mid.world engine made steps.all (c.requires.there t) base.replay base.log_end leads g.H.Device.tells now new.world answer (x.over_any t then_leads) c.in-Err.fault c.in-Err.is;
}

pub returns-in-Ok-clause-any : goal.returns-in-Ok-clause-any
returns-in-Ok-clause-any g c t = record {
  bad_page = λ id is well stray. absurd cc;
  bad_record = λ id is well stray. absurd cc;
  over_any = λ leads.
      let config = c.args.config.now in
      let base = c.args.base in
      let old = g.H.Device.history c.args.host.now in
      let mid = g.H.Device.history c.start_counted.new.host in
      let new = g.H.Device.history c.replay_in_frames-engine.new.host in
      let engine = c.in_ok-started.started in
      let made = c.in_ok-started.ensures.started in
      let now = c.replay_in_frames-engine.result.0 in
      let answer = c.replay_in_frames-engine.result.1 in
      let x = c.replay_in_frames-engine.ensures.replays in
      let steps = c.in_ok-started.ensures.steps t in
      let then_leads = started_leads config base.mark base.log old.world mid.world engine made steps.all (c.requires.there t) base.replay base.log_end leads in
      subst (λ (e : FrameRunning). OpensOverAny g.H.Device.tells config.shape base.replay base.log_end leads.frames (loaded_base base.mark old.world) old.world new.world (Ok e)) (sym c.counting_from.ensures)
      (over_recounted g.H.Device.tells config.shape base.replay base.log_end leads.frames (loaded_base base.mark old.world) old.world new.world now _
      (started_over_all config base.mark base.log old.world mid.world engine made steps.all (c.requires.there t) base.replay base.log_end leads g.H.Device.tells now new.world answer (x.over_any t then_leads)
      (ok_holds answer tt _ c.in-Ok.is x.ready.is_open)));
}
