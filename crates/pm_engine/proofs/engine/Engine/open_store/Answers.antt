use Rattle.std.proofs.Common.{rules, ◌≡◌, ◌⊎◌, ℕ, ◌+◌, ◌∙◌, Err, None, Some, inr, sym, ap, subst}
use Rattle.std.specs.Prelude.{IsErrOf, IfErr, IfOk}
use Rattle.pm_types.specs.declared.fault.OpenFault.TheVariants as opening
use Rattle.pm_types.specs.declared.fault.StoreFault.TheVariants.{BadPage, BadRecord}
use Rattle.pm_types.specs.declared.place.Place.{Place}
use Rattle.pm_types.specs.declared.shape.Shape.{Shape}
use Rattle.pm_disk.specs.Moments.{AllMoments}
use Rattle.pm_disk.proofs.Chain.{joined}
use Rattle.pm_records.specs.LogFiles.{contents}
use Rattle.pm_core.proofs.OnlyDisk.{then_disk}
use Rattle.pm_core.specs.BasePages.{Partitions}
use Rattle.pm_core.specs.Held.{AllWellFormed, in_force}
use Rattle.pm_core.specs.LogAlone.{image_of}
use Rattle.pm_redo.specs.LogEnds.{LogEndsAt}
use Rattle.pm_engine.specs.Engines.{FrameRunning, counted_in}
use Rattle.pm_engine.specs.FrameBatches.{EndsAtReplayIn}
use Rattle.pm_engine.specs.LogCounts.{CountsAtLeast}
use Rattle.pm_engine.specs.FrameOpenings.{CountsLog, HasGoodBase, HasNoStrayPages, KeepsBasePagesBut, OpensRunningIn}
use Rattle.pm_engine.specs.MetPages.{MeetsBadPage}
use Rattle.pm_engine.specs.FrameStores.{pages_in_frames}
use Rattle.pm_engine.specs.Openings.{loaded_base, IsPlainOpen, opened_last, opened_number, replayed_last, replayed_number}
use Rattle.pm_engine.specs.Replays.{CrashHoldsMap}
use Rattle.pm_engine.specs.RunningStores.{ended_with}
use Rattle.pm_engine.proofs.FrameOpened.{open_cause_in, restore_cause_in, stray_marked}
use Rattle.pm_engine.proofs.RestoredOpenings.{bad_uncut, leaves_passed, opened_records, refused_uncut, compares_failed, none_differs, compared_store, plain_open, field_named, restored_is, never_bad_record, bytes_uncut, cut_leads, holding, shape_is, restore_moments}
use Rattle.pm_engine.proofs.engine.Engine.open_store.Goals as goal

pub open_restored-requires-clause-leads : goal.open_restored-requires-clause-leads
open_restored-requires-clause-leads g c κs within t =
    let old = g.H.Device.history c.args.host.now in
    let mid = g.H.Device.history c.restore.new.host in
    let base = c.in_ok-base.ensures.base in
    cut_leads c.args.config.now.shape (in_force (image_of old.world)) old.world mid.world c.in_ok-base.base base.0 (base.1 t) (c.in_ok-base.ensures.only t).log

pub returns-in_err-base-clause-refused : goal.returns-in_err-base-clause-refused
returns-in_err-base-clause-refused g c t told shape pairs can few same =
    let old = g.H.Device.history c.args.host.now in
    let new = g.H.Device.history c.restore.new.host in
    let wanted = c.args.config.now.shape in
    plain_open c.from_residual.result
    (λ field is.
    let its : IsErrOf c.restore.result (opening.Shape field) = search rules in
    let both : None ≡ Some field = sym same ∙ field_named _ c.restore.result field its (c.restore.ensures.compared t) in
    cc)
    (λ id is.
    let its : IsErrOf c.restore.result (opening.Store (BadPage id)) = search rules in
    c.restore.ensures.cause.no_page id its)
    (λ at is.
    let its : IsErrOf c.restore.result (opening.Store (BadRecord at)) = search rules in
    never_bad_record wanted told shape pairs old new can few c.requires.wanted.shape at (c.restore.ensures.bad t at its))

pub returns-in_err-base-clause-within : goal.returns-in_err-base-clause-within
returns-in_err-base-clause-within g c t told shape pairs can few =
    restore_moments c.args.config.now.shape told shape pairs (g.H.Device.history c.args.host.now) (g.H.Device.history c.restore.new.host) can few c.requires.wanted.shape (c.restore.ensures.within t told shape pairs can)

pub returns-in_err-base-clause-compared : goal.returns-in_err-base-clause-compared
returns-in_err-base-clause-compared g c t =
    compares_failed _ c.restore.result c.from_residual.result _ c.in_err-base.was c.from_residual.ensures.0 (search rules) (c.restore.ensures.compared t)
    (g.H.Device.history c.args.host.now) (g.H.Device.history c.restore.new.host) (c.restore.ensures.only t).differing

pub returns-in-Err-clause-compared : goal.returns-in-Err-clause-compared
returns-in-Err-clause-compared g c t = record {
  fault = compared_store c.args.config.now.shape _ c.in-Err.fault (c.in_ok-base.ensures.alike t);
  alike = tt;
  differing = none_differs _ (g.H.Device.history c.args.host.now) (g.H.Device.history c.open_restored.new.host) (c.in_ok-base.ensures.alike t);
}

pub returns-in-Ok-clause-compared : goal.returns-in-Ok-clause-compared
returns-in-Ok-clause-compared g c t = record {
  fault = tt;
  alike = c.in_ok-base.ensures.alike t;
  differing = none_differs _ (g.H.Device.history c.args.host.now) (g.H.Device.history c.open_restored.new.host) (c.in_ok-base.ensures.alike t);
}

pub returns-in_err-base-clause-disk : goal.returns-in_err-base-clause-disk
returns-in_err-base-clause-disk g c t = (c.restore.ensures.only t).disk

pub returns-in-Err-clause-disk : goal.returns-in-Err-clause-disk
returns-in-Err-clause-disk g c t =
    then_disk (g.H.Device.history c.args.host.now) (g.H.Device.history c.restore.new.host) (g.H.Device.history c.open_restored.new.host) (g.H.Device.sound c.restore.new.host t) (c.restore.ensures.only t).disk (c.open_restored.ensures.disk t)

pub returns-in-Ok-clause-disk : goal.returns-in-Ok-clause-disk
returns-in-Ok-clause-disk g c t =
    then_disk (g.H.Device.history c.args.host.now) (g.H.Device.history c.restore.new.host) (g.H.Device.history c.open_restored.new.host) (g.H.Device.sound c.restore.new.host t) (c.restore.ensures.only t).disk (c.open_restored.ensures.disk t)

pub returns-in-Err-clause-refused : goal.returns-in-Err-clause-refused
returns-in-Err-clause-refused g c t told shape pairs can few same =
    let old = g.H.Device.history c.args.host.now in
    let mid = g.H.Device.history c.restore.new.host in
    let wanted = c.args.config.now.shape in
    let base = c.in_ok-base.ensures.base in
    let held = holding wanted told shape pairs old mid can few c.requires.wanted.shape c.in_ok-base.base base.0 (base.1 t) (c.in_ok-base.ensures.alike t) (c.in_ok-base.ensures.restored t told shape pairs can) in
    subst (λ r. IfErr r (λ fault. IsPlainOpen (opening.Store fault))) c.in-Err.is (c.open_restored.ensures.plain t (replayed_last can) (replayed_number can) wanted told pairs held.0 held.1)

pub returns-in-Err-clause-within : goal.returns-in-Err-clause-within
returns-in-Err-clause-within g c t told shape pairs can few =
    let old = g.H.Device.history c.args.host.now in
    let mid = g.H.Device.history c.restore.new.host in
    let new = g.H.Device.history c.open_restored.new.host in
    let wanted = c.args.config.now.shape in
    let base = c.in_ok-base.ensures.base in
    let alike = c.in_ok-base.ensures.alike t in
    let held = holding wanted told shape pairs old mid can few c.requires.wanted.shape c.in_ok-base.base base.0 (base.1 t) alike (c.in_ok-base.ensures.restored t told shape pairs can) in
    let its = shape_is wanted told shape pairs old mid can few c.requires.wanted.shape c.in_ok-base.base base.0 (base.1 t) alike in
    joined old mid new (CrashHoldsMap (opened_last can + 1) (opened_number can) wanted shape pairs) (restore_moments wanted told shape pairs old mid can few c.requires.wanted.shape (c.restore.ensures.within t told shape pairs can))
    (subst (λ (k : Shape). AllMoments mid new (CrashHoldsMap (opened_last can + 1) (opened_number can) wanted k pairs)) (sym its)
    (c.open_restored.ensures.within t (replayed_last can) (replayed_number can) wanted told pairs held.0 held.1))

pub returns-in-Ok-clause-within : goal.returns-in-Ok-clause-within
returns-in-Ok-clause-within g c t told shape pairs can few =
    let old = g.H.Device.history c.args.host.now in
    let mid = g.H.Device.history c.restore.new.host in
    let new = g.H.Device.history c.open_restored.new.host in
    let wanted = c.args.config.now.shape in
    let base = c.in_ok-base.ensures.base in
    let alike = c.in_ok-base.ensures.alike t in
    let held = holding wanted told shape pairs old mid can few c.requires.wanted.shape c.in_ok-base.base base.0 (base.1 t) alike (c.in_ok-base.ensures.restored t told shape pairs can) in
    let its = shape_is wanted told shape pairs old mid can few c.requires.wanted.shape c.in_ok-base.base base.0 (base.1 t) alike in
    joined old mid new (CrashHoldsMap (opened_last can + 1) (opened_number can) wanted shape pairs) (restore_moments wanted told shape pairs old mid can few c.requires.wanted.shape (c.restore.ensures.within t told shape pairs can))
    (subst (λ (k : Shape). AllMoments mid new (CrashHoldsMap (opened_last can + 1) (opened_number can) wanted k pairs)) (sym its)
    (c.open_restored.ensures.within t (replayed_last can) (replayed_number can) wanted told pairs held.0 held.1))

pub returns-in-Ok-clause-opened : goal.returns-in-Ok-clause-opened
returns-in-Ok-clause-opened g c t told shape pairs can few =
    let old = g.H.Device.history c.args.host.now in
    let mid = g.H.Device.history c.restore.new.host in
    let new = g.H.Device.history c.open_restored.new.host in
    let wanted = c.args.config.now.shape in
    let base = c.in_ok-base.ensures.base in
    let alike = c.in_ok-base.ensures.alike t in
    let held = holding wanted told shape pairs old mid can few c.requires.wanted.shape c.in_ok-base.base base.0 (base.1 t) alike (c.in_ok-base.ensures.restored t told shape pairs can) in
    let its = shape_is wanted told shape pairs old mid can few c.requires.wanted.shape c.in_ok-base.base base.0 (base.1 t) alike in
    subst (λ (k : Shape). OpensRunningIn (opened_last can) (opened_number can) wanted told k pairs c.in-Ok.engine new.world) (sym its)
    (subst (λ r. IfOk r (λ (engine : FrameRunning). OpensRunningIn (opened_last can) (opened_number can) wanted told wanted pairs engine new.world)) c.in-Ok.is
    (c.open_restored.ensures.opened t (replayed_last can) (replayed_number can) wanted told pairs held.0 held.1))

pub returns-in_err-base-clause-base : goal.returns-in_err-base-clause-base
returns-in_err-base-clause-base g c t = record {
  bad =
      let old = g.H.Device.history c.args.host.now in
      let mid = g.H.Device.history c.restore.new.host in
      restore_cause_in g.H.Device.tells c.args.config.now.shape (in_force (image_of old.world)) old.world mid.world c.from_residual.result
      (λ at is.
      let its : IsErrOf c.restore.result (opening.Store (BadRecord at)) = search rules in
      c.restore.ensures.bad t at its)
      (λ id is.
      let its : IsErrOf c.restore.result (opening.Store (BadPage id)) = search rules in
      c.restore.ensures.cause.no_page id its)
      (leaves_passed old.world mid.world c.restore.result c.from_residual.result _ c.in_err-base.was c.from_residual.ensures.0 (search rules) (c.restore.ensures.only t).untouched);
  kept = search rules;
}

pub returns-in-Err-clause-base : goal.returns-in-Err-clause-base
returns-in-Err-clause-base g c t = record {
  bad =
      let old = g.H.Device.history c.args.host.now in
      let mid = g.H.Device.history c.restore.new.host in
      let new = g.H.Device.history c.open_restored.new.host in
      let wanted = c.args.config.now.shape in
      let base = c.in_ok-base.base in
      let checkpoint = in_force (image_of old.world) in
      let is_base = c.in_ok-base.ensures.base.1 t in
      let keeps = (c.in_ok-base.ensures.only t).base in
      let same = restored_is checkpoint base.mark mid.world is_base.mark in
      let loaded : HasGoodBase wanted checkpoint mid.world → AllWellFormed wanted (loaded_base base.mark mid.world) = λ good. subst (λ (p : Partitions). AllWellFormed wanted p) (sym same) good.well_formed in
      let stray : HasGoodBase wanted checkpoint mid.world → HasNoStrayPages wanted (ended_with base.mark) mid.world = λ good. stray_marked wanted checkpoint base.mark mid.world is_base.mark good.none_stray in
      let base_fits = c.in_ok-base.ensures.base.0 in
      let leads = cut_leads wanted checkpoint old.world mid.world base base_fits is_base (c.in_ok-base.ensures.only t).log in
      let restored = c.open_restored.ensures.any t in
      let any = restored.over_any leads in
      open_cause_in g.H.Device.tells wanted checkpoint old.world new.world c.in-Err.fault
      (λ id is. record {
        mid = mid.world;
        keeps = keeps;
        bad = λ good. restored.bad_page id (c.in-Err.is ∙ ap Err is) (loaded good) (stray good);
        frames = is_base.ends.frames;
        records = opened_records wanted checkpoint old.world mid.world base is_base;
        meets = λ may_change all. subst (λ (p : Partitions). MeetsBadPage g.H.Device.tells may_change wanted p id) same (any.meets may_change all id (c.in-Err.is ∙ ap Err is));
      })
      (λ at is.
      inr (
        base.log_end,
        subst (λ (p : Place). LogEndsAt (contents old.world.log) p base.log_end) is_base.replay is_base.ends,
        refused_uncut wanted checkpoint old.world mid.world new.world base at is_base (c.in_ok-base.ensures.only t).log (any.refuses at (c.in-Err.is ∙ ap Err is)),
        mid.world,
        keeps,
        λ good. bad_uncut wanted checkpoint old.world mid.world new.world base at is_base (c.in_ok-base.ensures.only t).log (restored.bad_record at (c.in-Err.is ∙ ap Err is) (loaded good) (stray good)),
      ));
  kept = tt;
}

pub returns-in-Ok-clause-base : goal.returns-in-Ok-clause-base
returns-in-Ok-clause-base g c t = record {
  bad = tt;
  kept =
      let old = g.H.Device.history c.args.host.now in
      let mid = g.H.Device.history c.restore.new.host in
      let new = g.H.Device.history c.open_restored.new.host in
      let wanted = c.args.config.now.shape in
      let base = c.in_ok-base.base in
      let checkpoint = in_force (image_of old.world) in
      let is_base = c.in_ok-base.ensures.base.1 t in
      let leads = cut_leads wanted checkpoint old.world mid.world base c.in_ok-base.ensures.base.0 is_base (c.in_ok-base.ensures.only t).log in
      let restored = c.open_restored.ensures.any t in
      let any = restored.over_any leads in
      record {
        mid = mid.world;
        keeps = (c.in_ok-base.ensures.only t).base;
        frames = is_base.ends.frames;
        records = opened_records wanted checkpoint old.world mid.world base is_base;
        pages = λ may_change all.
            subst (λ (p : Partitions). KeepsBasePagesBut wanted may_change p (pages_in_frames c.in-Ok.engine.store new.world)) (restored_is checkpoint base.mark mid.world is_base.mark)
            (subst (λ r. IfOk r (λ (engine : FrameRunning). KeepsBasePagesBut wanted may_change (loaded_base base.mark mid.world) (pages_in_frames engine.store new.world))) c.in-Ok.is (any.pages may_change all));
      };
}

pub returns-in-Ok-clause-counted : goal.returns-in-Ok-clause-counted
returns-in-Ok-clause-counted g c t end ends =
    let old = g.H.Device.history c.args.host.now in
    let mid = g.H.Device.history c.restore.new.host in
    let base = c.in_ok-base.base in
    let engine = c.in-Ok.engine in
    let counts : CountsLog (contents mid.world.log) base.replay base.log_end engine = subst (λ r. IfOk r (CountsLog (contents mid.world.log) base.replay base.log_end)) c.in-Ok.is (c.open_restored.ensures.counted t) in
    subst (λ (n : ℕ). EndsAtReplayIn engine ⊎ CountsAtLeast (counted_in engine) n)
    (bytes_uncut c.args.config.now.shape (in_force (image_of old.world)) old.world mid.world base end (c.in_ok-base.ensures.base.1 t) (c.in_ok-base.ensures.only t).log ends) counts
