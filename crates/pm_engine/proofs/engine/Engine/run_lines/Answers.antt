-- The round's lines are those of the store that the engine runs, and what they handed over is appended.
use Rattle.std.proofs.Common.{◌≡◌, ◌+◌, ◌≤◌, ◌++◌, ℕ, List, length, true, refl, sym, ap, subst, ◌∙◌, arith, vec_len, vec_capacity}
use Rattle.pm_disk.proofs.Chain.{started}
use Rattle.pm_engine.specs.Engines.{FrameRunning, IsEngine, DoesRoundLines, LosesRoundLines}
use Rattle.pm_engine.specs.FrameHosts.{RunsRoundOver}
use Rattle.pm_engine.specs.FrameStores.{FrameStoreView, shut}
use Rattle.pm_engine.proofs.Results.{if_ok_holds, unless_err}
use Rattle.pm_engine.proofs.RoundLines.{number_room, loses_lines, done_engine, does_lines}
use Rattle.pm_engine.proofs.engine.Engine.run_lines.Goals as goal

pub returns-then-is_err-clause-unchanged : goal.returns-then-is_err-clause-unchanged
returns-then-is_err-clause-unchanged g c = λ _ _. record {
  engine = (λ i. record { store = c.self.inside.pages; log = c.self.inside.log.value; ckpt = c.self.inside.ckpt; began = c.self.inside.began; order = c.reserve.ensures.items i }) ∙ c.self.view_is;
  replies = refl;
  world = λ t. record { world = refl; moments = started (g.H.Device.history c.args.host.now) (λ w. w ≡ (g.H.Device.history c.args.host.now).world) (g.H.Device.sound c.args.host.now t) refl };
}

pub append_outbox-requires-clause-room : goal.append_outbox-requires-clause-room
append_outbox-requires-clause-room g c =
    let ins : FrameRunning = record { store = c.self.inside.pages; log = c.self.inside.log.value; ckpt = c.self.inside.ckpt; began = c.self.inside.began; order = c.self.inside.order.items } in
    let tells = g.H.Device.tells in
    let state = g.H.Reader.Device.state in
    let history = g.H.Reader.Device.history in
    let h0 = g.H.Device.history c.args.host.now in
    let h1 = g.H.Device.history c.run_round-pages.new.host in
    let mid = c.run_round-pages.result.0 in
    let ran = c.run_round-pages.ensures in
    let end = c.in-Ok.end in
    let opened : ins.store.is_open ≡ true = ap (λ (r : FrameRunning). r.store.is_open) c.self.view_is ∙ c.requires.open in
    let over = if_ok_holds c.run_round-pages.result.1 end (RunsRoundOver g.row.Q.Denot g.H.Reader.Device.tells history state c.args.first c.args.from c.args.lines.now ins.store mid h0.world c.args.replies.now c.run_round-pages.new.replies
    (g.H.Device.state c.args.host.now) (g.H.Device.state c.run_round-pages.new.host)) c.in-Ok.is ran.runs in
    let told = g.met.H.Host.parts_tell.0.1 in
    let sent = c.self.invariant.sent opened in
    let room : vec_len c.reserve.new.self + length c.args.lines.now ≤ vec_capacity c.reserve.new.self =
    unless_err c.reserve.result (vec_len c.reserve.new.self + length c.args.lines.now ≤ vec_capacity c.reserve.new.self) (sym c.is_err.ensures.value ∙ c.if-is_err.false) c.reserve.ensures.ok in
    number_room tells g.H.Reader.Device.tells history state c.args.first c.args.from c.args.lines.now ins mid c.args.replies.now c.run_round-pages.new.replies over.back end h0 h1 over.round told ran.world sent
    (length c.reserve.new.self.items) (vec_capacity c.reserve.new.self) (omega (arith, room, c.reserve.new.self.ok.0))

pub invariant_of-done : goal.invariant_of-done
invariant_of-done g c =
    let ins : FrameRunning = record { store = c.self.inside.pages; log = c.deref_mut.result.now; ckpt = c.self.inside.ckpt; began = c.self.inside.began; order = c.self.inside.order.items } in
    let lent : ins ≡ (record ins { log = c.self.inside.log.value }) = λ i. record ins { log = c.deref_mut.ensures.value i } in
    let is = lent ∙ c.self.view_is in
    let tells = g.H.Device.tells in
    let state = g.H.Reader.Device.state in
    let history = g.H.Reader.Device.history in
    let h0 = g.H.Device.history c.args.host.now in
    let h1 = g.H.Device.history c.run_round-pages.new.host in
    let mid = c.run_round-pages.result.0 in
    let ran = c.run_round-pages.ensures in
    let end = c.in-Ok.end in
    let opened : ins.store.is_open ≡ true = ap (λ (r : FrameRunning). r.store.is_open) is ∙ c.requires.open in
    let over = if_ok_holds c.run_round-pages.result.1 end (RunsRoundOver g.row.Q.Denot g.H.Reader.Device.tells history state c.args.first c.args.from c.args.lines.now ins.store mid h0.world c.args.replies.now c.run_round-pages.new.replies
    (g.H.Device.state c.args.host.now) (g.H.Device.state c.run_round-pages.new.host)) c.in-Ok.is ran.runs in
    let told = g.met.H.Host.parts_tell.0.1 in
    let sent = c.self.invariant.sent opened in
    let h2 = g.H.Device.history c.append_outbox.new.dev in
    let order = c.append_outbox.new.order.items in
    let items = c.reserve.ensures.items in
    done_engine tells g.H.Reader.Device.tells history state c.args.first c.args.from c.args.lines.now ins mid c.args.replies.now c.run_round-pages.new.replies over.back end h0 h1 over.round told ran.world sent
    h2 c.append_outbox.new.log order c.append_outbox.new.self c.in-Ok-append_outbox.ensures.appends
    (λ numbers spell. c.in-Ok-append_outbox.ensures.order numbers spell ∙ ap (λ (was : List ℕ). was ++ numbers) items) c.in-Ok-append_outbox.ensures.sent (subst IsEngine (sym lent) c.self.invariant) opened

pub returns-in-Err-append_outbox-clause-loses : goal.returns-in-Err-append_outbox-clause-loses
returns-in-Err-append_outbox-clause-loses g c = λ _.
    let ins : FrameRunning = record { store = c.self.inside.pages; log = c.deref_mut.result.now; ckpt = c.self.inside.ckpt; began = c.self.inside.began; order = c.self.inside.order.items } in
    let lent : ins ≡ (record ins { log = c.self.inside.log.value }) = λ i. record ins { log = c.deref_mut.ensures.value i } in
    let is = lent ∙ c.self.view_is in
    let tells = g.H.Device.tells in
    let state = g.H.Reader.Device.state in
    let history = g.H.Reader.Device.history in
    let h0 = g.H.Device.history c.args.host.now in
    let h1 = g.H.Device.history c.run_round-pages.new.host in
    let mid = c.run_round-pages.result.0 in
    let ran = c.run_round-pages.ensures in
    let end = c.in-Ok.end in
    let opened : ins.store.is_open ≡ true = ap (λ (r : FrameRunning). r.store.is_open) is ∙ c.requires.open in
    let over = if_ok_holds c.run_round-pages.result.1 end (RunsRoundOver g.row.Q.Denot g.H.Reader.Device.tells history state c.args.first c.args.from c.args.lines.now ins.store mid h0.world c.args.replies.now c.run_round-pages.new.replies
    (g.H.Device.state c.args.host.now) (g.H.Device.state c.run_round-pages.new.host)) c.in-Ok.is ran.runs in
    let told = g.met.H.Host.parts_tell.0.1 in
    let sent = c.self.invariant.sent opened in
    let h2 = g.H.Device.history c.append_outbox.new.dev in
    let order = c.append_outbox.new.order.items in
    let items = c.reserve.ensures.items in
    let lost = loses_lines tells g.H.Reader.Device.tells history state c.args.first c.args.from c.args.lines.now ins mid c.args.replies.now c.run_round-pages.new.replies over.back end h0 h1 over.round told ran.world sent
    h2 c.in-Err-append_outbox.field-0 c.append_outbox.new.log order c.in-Err-append_outbox.ensures.appends
    (λ numbers spell. c.in-Err-append_outbox.ensures.order numbers spell ∙ ap (λ (was : List ℕ). was ++ numbers) items) in
    subst (λ (p : FrameRunning × FrameStoreView). LosesRoundLines tells h0 h2 c.args.first c.args.from c.args.lines.now p.0 (record { store = p.1; log = c.append_outbox.new.log; ckpt = ins.ckpt; began = ins.began; order = order }))
    {x = (ins, shut mid)} {y = (c.args.self, c.shut.new.self)} (λ i. (is i, sym (c.shut.ensures ∙ ap shut c.in-Err-append_outbox.ensures.unsent) i)) lost

pub returns-in-Ok-append_outbox-clause-does : goal.returns-in-Ok-append_outbox-clause-does
returns-in-Ok-append_outbox-clause-does g c =
    let ins : FrameRunning = record { store = c.self.inside.pages; log = c.deref_mut.result.now; ckpt = c.self.inside.ckpt; began = c.self.inside.began; order = c.self.inside.order.items } in
    let lent : ins ≡ (record ins { log = c.self.inside.log.value }) = λ i. record ins { log = c.deref_mut.ensures.value i } in
    let is = lent ∙ c.self.view_is in
    let tells = g.H.Device.tells in
    let state = g.H.Reader.Device.state in
    let history = g.H.Reader.Device.history in
    let h0 = g.H.Device.history c.args.host.now in
    let h1 = g.H.Device.history c.run_round-pages.new.host in
    let mid = c.run_round-pages.result.0 in
    let ran = c.run_round-pages.ensures in
    let end = c.in-Ok.end in
    let opened : ins.store.is_open ≡ true = ap (λ (r : FrameRunning). r.store.is_open) is ∙ c.requires.open in
    let over = if_ok_holds c.run_round-pages.result.1 end (RunsRoundOver g.row.Q.Denot g.H.Reader.Device.tells history state c.args.first c.args.from c.args.lines.now ins.store mid h0.world c.args.replies.now c.run_round-pages.new.replies
    (g.H.Device.state c.args.host.now) (g.H.Device.state c.run_round-pages.new.host)) c.in-Ok.is ran.runs in
    let told = g.met.H.Host.parts_tell.0.1 in
    let sent = c.self.invariant.sent opened in
    let h2 = g.H.Device.history c.append_outbox.new.dev in
    let order = c.append_outbox.new.order.items in
    let items = c.reserve.ensures.items in
    let done = does_lines tells g.H.Reader.Device.tells history state c.args.first c.args.from c.args.lines.now ins mid c.args.replies.now c.run_round-pages.new.replies over.back end h0 h1 over.round told ran.world sent
    h2 c.append_outbox.new.log order c.append_outbox.new.self c.in-Ok-append_outbox.ensures.appends
    (λ numbers spell. c.in-Ok-append_outbox.ensures.order numbers spell ∙ ap (λ (was : List ℕ). was ++ numbers) items) c.in-Ok-append_outbox.ensures.sent in
    subst (λ (r : FrameRunning). DoesRoundLines tells h0 h2 c.args.first c.args.from c.args.lines.now r (record { store = c.append_outbox.new.self; log = c.append_outbox.new.log; ckpt = ins.ckpt; began = ins.began; order = order }) c.args.replies.now c.run_round-pages.new.replies end)
    is done
