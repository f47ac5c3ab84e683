-- The scan begins at the replay place.
use Rattle.std.proofs.Common.{◌∙◌, [], false, None, sym, ap, subst}
use Rattle.pm_types.specs.declared.fault.StoreFault.TheVariants.{Memory}
use Rattle.pm_types.specs.declared.fault.Lack.TheVariants.{Bytes}
use Rattle.pm_types.specs.declared.place.Place.{Place}
use Rattle.pm_records.specs.LogFiles.{contents}
use Rattle.pm_records.specs.Logs.{all_frames, after_frames, HasFrames}
use Rattle.pm_segments.specs.Scans.{Scanned, IsAhead, bytes_after}
use Rattle.pm_engine.specs.FrameReplayLogs.{CanReplayIn, ReplaysOverAny, ReplaysWellFormed}
use Rattle.pm_engine.specs.Replays.{LogLeadsTo}
use Rattle.pm_engine.proofs.ReadyEngines.{ready_refused}
use Rattle.pm_engine.proofs.ReplayedFrames.{none_replayed, none_applied, none_refused}
use Rattle.pm_engine.proofs.TakenLines.{take_none}
use Rattle.pm_engine.proofs.frame_replay_log.replay_in_frames.Goals as goal

pub replay_all-requires-clause-ahead : goal.replay_all-requires-clause-ahead
replay_all-requires-clause-ahead g c _ _ t =
    let old = g.H.Device.history c.args.host.now in
    subst (λ (s : Scanned). IsAhead s old.world) {x = record { place = c.args.from; next = c.args.from; ahead = []; is_whole = false; is_over = false; found = None }} (sym c.in-Ok.ensures) (record { front = sym (take_none (bytes_after c.args.from old.world)); whole = λ whole. absurd cc })

pub returns-in-Err-clause-replays : goal.returns-in-Err-clause-replays
returns-in-Err-clause-replays g c = record {
  ready = ready_refused g.H.Device.tells c.args.engine (g.H.Device.history c.args.host.now) (Memory Bytes) (λ t. g.H.Device.sound c.args.host.now t);
  sound = λ t last highest wanted told pairs s can. none_replayed last highest wanted told pairs c.args.from c.args.end c.args.engine s (g.H.Device.history c.args.host.now) (g.H.Device.sound c.args.host.now t) can;
  any = λ t leads whole. none_applied c.args.from c.args.end c.args.engine (g.H.Device.history c.args.host.now).world;
  over_any = λ t leads. none_refused g.H.Device.tells c.args.from c.args.end leads.frames c.args.engine (g.H.Device.history c.args.host.now).world;
}

pub returns-in-Err-with_room-clause-replays : goal.returns-in-Err-with_room-clause-replays
returns-in-Err-with_room-clause-replays g c = record {
  ready = ready_refused g.H.Device.tells c.args.engine (g.H.Device.history c.args.host.now) (Memory Bytes) (λ t. g.H.Device.sound c.args.host.now t);
  sound = λ t last highest wanted told pairs s can. none_replayed last highest wanted told pairs c.args.from c.args.end c.args.engine s (g.H.Device.history c.args.host.now) (g.H.Device.sound c.args.host.now t) can;
  any = λ t leads whole. none_applied c.args.from c.args.end c.args.engine (g.H.Device.history c.args.host.now).world;
  over_any = λ t leads. none_refused g.H.Device.tells c.args.from c.args.end leads.frames c.args.engine (g.H.Device.history c.args.host.now).world;
}

pub returns-clause-replays : goal.returns-clause-replays
returns-clause-replays g c = record {
  ready = c.replay_all.ensures.replays.ready;
  sound = λ t last highest wanted told pairs s can.
      let is = c.in-Ok.ensures in
      c.replay_all.ensures.replays.sound t last highest wanted told pairs (record {
        state = s;
        can = subst (λ (p : Place). CanReplayIn last highest wanted told pairs p c.args.end c.args.engine s (g.H.Device.history c.args.host.now).world) (sym (ap (λ (v : Scanned). v.next) is)) can;
        over = ap (λ (v : Scanned). v.is_over) is;
      });
  any = λ t leads whole.
      let old = (g.H.Device.history c.args.host.now).world in
      let new = (g.H.Device.history c.replay_all.new.host).world in
      let is = c.in-Ok.ensures in
      let begins = ap (λ (v : Scanned). v.next) is in
      subst (λ (p : Place). ReplaysWellFormed {T = Unit {0}} p c.args.end c.args.engine c.replay_all.result.0 old new c.replay_all.result.1) begins
      (c.replay_all.ensures.replays.any t (ap (λ (v : Scanned). v.is_over) is) (subst (λ (p : Place). LogLeadsTo p c.args.end c.args.engine.log old) (sym begins) leads) whole);
  over_any = λ t leads.
      let old = (g.H.Device.history c.args.host.now).world in
      let new = (g.H.Device.history c.replay_all.new.host).world in
      let is = c.in-Ok.ensures in
      let begins = ap (λ (v : Scanned). v.next) is in
      subst (λ (p : Place). ReplaysOverAny {T = Unit {0}} g.H.Device.tells p c.args.end leads.frames c.args.engine c.replay_all.result.0 old new c.replay_all.result.1) begins
      (c.replay_all.ensures.replays.over_any t (ap (λ (v : Scanned). v.is_over) is) (record {
        frames = leads.frames;
        run = subst (λ (p : Place). HasFrames all_frames (contents old.log) p leads.frames) (sym begins) leads.run;
        to = ap (λ (p : Place). after_frames p leads.frames) begins ∙ leads.to;
        behind = leads.behind;
      }));
}
