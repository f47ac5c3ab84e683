use Rattle.std.proofs.Common.{◌≡◌, ℕ, ◌+◌, ◌++◌, length, ◌∙◌, ap, sym, subst}
use Rattle.std.proofs.lemmas.List.{length-append}
use Rattle.pm_frame.specs.Frames.{Frame}
use Rattle.pm_records.specs.LogSteps.{world_after, DoesPrefix}
use Rattle.pm_segments.specs.Appends.{room_steps, roomy}
use Rattle.pm_segments.specs.Ends.{LogEnd}
use Rattle.pm_segments.proofs.Appending.{untried_end, append_does, append_reaches}
use Rattle.pm_disk.specs.Moments.{AllMoments}
use Rattle.pm_segments.proofs.log.Log.append_parts.Goals as goal

pub returns-clause-steps : goal.returns-clause-steps
returns-clause-steps g c t =
    let old = g.L.Device.history c.args.dev.now in
    let mid = g.L.Device.history c.make_room.new.dev in
    let log = c.args.self.now in
    let frame : Frame = record { kind = c.args.kind; payload = c.args.front.now ++ c.args.rest.now } in
    let n = length c.args.front.now + length c.args.rest.now in
    let long : n ≡ length frame.payload = sym (length-append c.args.front.now c.args.rest.now) in
    let first = c.in_ok-make_room.ensures.steps t in
    let before_so = subst (λ (l : LogEnd). mid.world ≡ world_after (room_steps l n) l.end old.world) c.self.view_is first.all in
    let before = subst (λ (k : ℕ). mid.world ≡ world_after (room_steps log k) log.end old.world) long before_so in
    let moments_so = subst (λ (l : LogEnd). AllMoments old mid (DoesPrefix (room_steps l n) l.end old.world)) c.self.view_is first.moments in
    let moments = subst (λ (k : ℕ). AllMoments old mid (DoesPrefix (room_steps log k) log.end old.world)) long moments_so in
    let there =
    ap (λ (l : LogEnd). l.end) c.in_ok-make_room.ensures.roomy
    ∙ untried_end _ n
    ∙ ap (λ (l : LogEnd). (roomy l n).end) c.self.view_is
    ∙ ap (λ (k : ℕ). (roomy log k).end) long
    in
    append_does old mid (g.L.Device.history c.add.new.dev) c.add.result log frame c.make_room.new.self.end before there (c.add.ensures.does t) moments
    (g.L.Device.sound c.make_room.new.dev t) c.add.new.self.tried c.add.ensures.tried

pub returns-clause-reaches : goal.returns-clause-reaches
returns-clause-reaches g c t =
    let old = g.L.Device.history c.args.dev.now in
    let mid = g.L.Device.history c.make_room.new.dev in
    let log = c.args.self.now in
    let frame : Frame = record { kind = c.args.kind; payload = c.args.front.now ++ c.args.rest.now } in
    let n = length c.args.front.now + length c.args.rest.now in
    let long : n ≡ length frame.payload = sym (length-append c.args.front.now c.args.rest.now) in
    let before_so = subst (λ (l : LogEnd). mid.world ≡ world_after (room_steps l n) l.end old.world) c.self.view_is (c.in_ok-make_room.ensures.steps t).all in
    let before = subst (λ (k : ℕ). mid.world ≡ world_after (room_steps log k) log.end old.world) long before_so in
    let there =
    ap (λ (l : LogEnd). l.end) c.in_ok-make_room.ensures.roomy
    ∙ untried_end _ n
    ∙ ap (λ (l : LogEnd). (roomy l n).end) c.self.view_is
    ∙ ap (λ (k : ℕ). (roomy log k).end) long
    in
    append_reaches old mid (g.L.Device.history c.add.new.dev) c.add.result log frame c.make_room.new.self.end before there (c.add.ensures.does t) c.add.new.self.tried c.add.ensures.tried
