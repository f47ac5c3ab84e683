use Rattle.std.proofs.Common.{◌≡◌, ◌∙◌, ◌+◌, ◌^◌, ◌<◌, ◌≤◌, sym, ap, subst, [], ◌∷◌, arith}
use Rattle.pm_types.specs.declared.place.Place.{Place}
use Rattle.pm_disk.proofs.Chain.{started}
use Rattle.pm_disk.specs.Moments.{AllMoments}
use Rattle.pm_records.specs.FirstRecords.{restart_frame}
use Rattle.pm_records.specs.LogSteps.{DoesPrefix, world_after}
use Rattle.pm_records.proofs.Tracing.{prefix_none}
use Rattle.pm_segments.specs.Appends.{grown}
use Rattle.pm_segments.specs.Ends.{LogEnd}
use Rattle.pm_ckpt.specs.Marked.{Kept}
use Rattle.pm_engine.specs.AppendRuns.{append_all_steps}
use Rattle.pm_engine.specs.FrameOpenings.{IsStartedEngine}
use Rattle.pm_engine.specs.RunningStores.{IsMarkIn}
use Rattle.pm_engine.proofs.LoadedStores.{mark_in}
use Rattle.pm_engine.proofs.GrownLogs.{grown_from, grown_size}
use Rattle.pm_engine.proofs.Results.{on_err}
use Rattle.pm_engine.proofs.frame_opening.start_engine.Goals as goal

pub returns-then-not-has_numbers-clause-steps : goal.returns-then-not-has_numbers-clause-steps
returns-then-not-has_numbers-clause-steps g c t =
    let old = g.H.Device.history c.args.host.now in
    let steps = append_all_steps c.args.log (restart_frame c.args.config.now.shape ∷ []) in
    record { all = tt; moments = started old (DoesPrefix steps c.args.log.end old.world) (g.H.Device.sound c.args.host.now t) (prefix_none steps c.args.log.end old.world) }

pub returns-in_err-pages-clause-steps : goal.returns-in_err-pages-clause-steps
returns-in_err-pages-clause-steps g c t =
    let old = g.H.Device.history c.args.host.now in
    let steps = append_all_steps c.args.log (restart_frame c.args.config.now.shape ∷ []) in
    record {
      all = on_err c.from_residual-in_err-pages.result c.from_residual-in_err-pages.ensures.0 _;
      moments = started old (DoesPrefix steps c.args.log.end old.world) (g.H.Device.sound c.args.host.now t) (prefix_none steps c.args.log.end old.world);
    }

pub returns-in-Err-clause-steps : goal.returns-in-Err-clause-steps
returns-in-Err-clause-steps g c t =
    let old = g.H.Device.history c.args.host.now in
    let new = g.H.Device.history c.append_restart.new.host in
    let frames = restart_frame c.args.config.now.shape ∷ [] in
    let lent : c.deref_mut.result.now ≡ c.args.log = c.deref_mut.ensures.value ∙ c.in_ok-log.ensures in
    record {
      all = tt;
      moments = subst (λ (l : LogEnd). AllMoments old new (DoesPrefix (append_all_steps l frames) l.end old.world)) lent (c.append_restart.ensures.appends.steps t).moments;
    }

pub returns-in-Ok-clause-steps : goal.returns-in-Ok-clause-steps
returns-in-Ok-clause-steps g c t =
    let old = g.H.Device.history c.args.host.now in
    let new = g.H.Device.history c.append_restart.new.host in
    let frames = restart_frame c.args.config.now.shape ∷ [] in
    let lent : c.deref_mut.result.now ≡ c.args.log = c.deref_mut.ensures.value ∙ c.in_ok-log.ensures in
    let does = c.in-Ok.ensures.appends.steps t in
    record {
      all = subst (λ (l : LogEnd). new.world ≡ world_after (append_all_steps l frames) l.end old.world) lent does.all;
      moments = subst (λ (l : LogEnd). AllMoments old new (DoesPrefix (append_all_steps l frames) l.end old.world)) lent does.moments;
    }

pub returns-in-Ok-clause-started : goal.returns-in-Ok-clause-started
returns-in-Ok-clause-started g c =
    let made = c.in_ok-pages.ensures in
    let kept = made.kept in
    let lent : c.deref_mut.result.now ≡ c.args.log = c.deref_mut.ensures.value ∙ c.in_ok-log.ensures in
    subst (IsStartedEngine c.args.config.now c.args.mark c.args.log) (sym c.new-in-Ok.ensures) (record {
      fresh = record { shape_is = made.shape_is; frames = sym made.many; order = c.new.ensures.items; is_open = made.is_open };
      log_is = c.in-Ok.ensures.appends.log ∙ ap (λ (l : LogEnd). grown l (restart_frame c.args.config.now.shape)) lent;
      numbered = subst (λ (p : Place). p.seg + 1 + 1 < 2 ^ 64) c.end.ensures (omega (arith, c.has_numbers.ensures c.if-not-has_numbers.false));
      mark_is = ap (λ (k : Kept). k.mark) kept;
      pages = made.pages;
      none_dirty = made.none_dirty;
      clean = made.clean;
    })

pub new-requires-in-Ok-clause-shape : goal.new-requires-in-Ok-clause-shape
new-requires-in-Ok-clause-shape g c =
    let made = c.in_ok-pages.ensures in
    ap (λ (k : Kept). k.shape) made.kept ∙ sym made.shape_is

pub new-requires-in-Ok-clause-mark : goal.new-requires-in-Ok-clause-mark
new-requires-in-Ok-clause-mark g c =
    let made = c.in_ok-pages.ensures in
    subst IsMarkIn (sym (ap (λ (k : Kept). k.mark) made.kept)) (mark_in c.args.config.now.shape c.args.mark c.requires.marked)

pub new-requires-in-Ok-clause-from_one : goal.new-requires-in-Ok-clause-from_one
new-requires-in-Ok-clause-from_one g c =
    let lent : c.deref_mut.result.now ≡ c.args.log = c.deref_mut.ensures.value ∙ c.in_ok-log.ensures in
    let log = c.in-Ok.ensures.appends.log ∙ ap (λ (l : LogEnd). grown l (restart_frame c.args.config.now.shape)) lent in
    subst (λ (l : LogEnd). 1 ≤ l.end.seg) (sym log) (grown_from c.args.log (restart_frame c.args.config.now.shape) c.requires.cut.from_one)

pub new-requires-in-Ok-clause-size_to : goal.new-requires-in-Ok-clause-size_to
new-requires-in-Ok-clause-size_to g c =
    let lent : c.deref_mut.result.now ≡ c.args.log = c.deref_mut.ensures.value ∙ c.in_ok-log.ensures in
    let log = c.in-Ok.ensures.appends.log ∙ ap (λ (l : LogEnd). grown l (restart_frame c.args.config.now.shape)) lent in
    omega (arith, ap (λ (l : LogEnd). l.segment_bytes) log, grown_size c.args.log (restart_frame c.args.config.now.shape), c.requires.cut.size_to)
