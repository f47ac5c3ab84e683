-- The command is applied to the store's pages, and what it handed over is appended.
use Rattle.std.proofs.Common.{◌≡◌, length, true, sym, ap, subst, ◌∙◌, vec_capacity}
use Rattle.pm_segments.specs.Ends.{LogEnd, EndsThere}
use Rattle.pm_engine.specs.EngineReplays.{GoesOnInFrames, EvaluatesAgain}
use Rattle.pm_engine.specs.Engines.{FrameRunning, IsEngine}
use Rattle.pm_engine.specs.FrameReplays.{AppliesOver}
use Rattle.pm_engine.specs.FrameStores.{FrameStoreView, shut}
use Rattle.pm_engine.proofs.ReappliedRecords.{number_room, goes_on_quiet, goes_on_shut, engine_again, goes_on_again, evaluates_again}
use Rattle.pm_engine.proofs.Results.{err_holds, if_ok_holds}
use Rattle.pm_engine.proofs.engine.Engine.apply_command.Goals as goal

pub append_outbox-requires-clause-room : goal.append_outbox-requires-clause-room
append_outbox-requires-clause-room g c =
    let ins : FrameRunning = record { store = c.self.inside.pages; log = c.self.inside.log.value; ckpt = c.self.inside.ckpt; began = c.self.inside.began; order = c.self.inside.order.items } in
    let tells = g.H.Device.tells in
    let state = g.H.Reader.Device.state in
    let history = g.H.Reader.Device.history in
    let h0 = g.H.Device.history c.args.host.now in
    let h1 = g.H.Device.history c.apply-pages.new.host in
    let cmd = c.args.cmd.now in
    let mid = c.apply-pages.result.0 in
    let ran = c.apply-pages.ensures in
    let answer = c.in-Ok.answer in
    let opened : ins.store.is_open ≡ true = ap (λ (r : FrameRunning). r.store.is_open) c.self.view_is ∙ c.requires.open in
    let over = if_ok_holds c.apply-pages.result.1 answer (AppliesOver g.row.Q.Denot g.H.Reader.Device.tells history state cmd ins.store mid h0.world c.args.replies.now c.apply-pages.new.replies
    (g.H.Device.state c.args.host.now) (g.H.Device.state c.apply-pages.new.host)) c.in-Ok.is ran.applies in
    let told = g.met.H.Host.parts_tell.0.1 in
    let sent = c.self.invariant.sent opened in
    number_room tells g.H.Reader.Device.tells history state cmd ins mid c.args.replies.now c.apply-pages.new.replies over.back answer h0 h1 over.applied told ran.world sent
    (length c.args.numbers.now.items) (vec_capacity c.args.numbers.now) c.requires.room

pub returns-in-Err-clause-goes_on : goal.returns-in-Err-clause-goes_on
returns-in-Err-clause-goes_on g c =
    let ins : FrameRunning = record { store = c.self.inside.pages; log = c.self.inside.log.value; ckpt = c.self.inside.ckpt; began = c.self.inside.began; order = c.self.inside.order.items } in
    let h0 = g.H.Device.history c.args.host.now in
    let h1 = g.H.Device.history c.apply-pages.new.host in
    let unchanged = err_holds c.apply-pages.result.1 c.in-Err.field-0 ((c.apply-pages.result.0 ≡ ins.store) × (c.apply-pages.new.replies ≡ c.args.replies.now)) c.in-Err.is c.apply-pages.ensures.unchanged in
    let same : (record ins { store = c.apply-pages.result.0 }) ≡ c.args.self = (λ i. record ins { store = unchanged.0 i }) ∙ c.self.view_is in
    subst (λ (e : FrameRunning). GoesOnInFrames g.H.Device.tells c.args.self e h0 h1) (sym same)
    (goes_on_quiet g.H.Device.tells c.args.self h0 h1 c.apply-pages.ensures.world c.requires.end c.requires.clean)

pub invariant_of-done : goal.invariant_of-done
invariant_of-done g c =
    let ins : FrameRunning = record { store = c.self.inside.pages; log = c.deref_mut.result.now; ckpt = c.self.inside.ckpt; began = c.self.inside.began; order = c.self.inside.order.items } in
    let lent : ins ≡ (record ins { log = c.self.inside.log.value }) = λ i. record ins { log = c.deref_mut.ensures.value i } in
    let is = lent ∙ c.self.view_is in
    let tells = g.H.Device.tells in
    let state = g.H.Reader.Device.state in
    let history = g.H.Reader.Device.history in
    let h0 = g.H.Device.history c.args.host.now in
    let h1 = g.H.Device.history c.apply-pages.new.host in
    let cmd = c.args.cmd.now in
    let mid = c.apply-pages.result.0 in
    let ran = c.apply-pages.ensures in
    let answer = c.in-Ok.answer in
    let opened : ins.store.is_open ≡ true = ap (λ (r : FrameRunning). r.store.is_open) is ∙ c.requires.open in
    let over = if_ok_holds c.apply-pages.result.1 answer (AppliesOver g.row.Q.Denot g.H.Reader.Device.tells history state cmd ins.store mid h0.world c.args.replies.now c.apply-pages.new.replies
    (g.H.Device.state c.args.host.now) (g.H.Device.state c.apply-pages.new.host)) c.in-Ok.is ran.applies in
    let told = g.met.H.Host.parts_tell.0.1 in
    let sent = c.self.invariant.sent opened in
    let h2 = g.H.Device.history c.append_outbox.new.dev in
    engine_again tells g.H.Reader.Device.tells history state cmd ins mid c.args.replies.now c.apply-pages.new.replies over.back answer h0 h1 over.applied told ran.world sent
    h2 c.append_outbox.new.log c.append_outbox.new.self c.in-Ok-append_outbox.ensures.appends c.in-Ok-append_outbox.ensures.sent (subst IsEngine (sym lent) c.self.invariant) opened

pub returns-in-Err-append_outbox-clause-goes_on : goal.returns-in-Err-append_outbox-clause-goes_on
returns-in-Err-append_outbox-clause-goes_on g c =
    let ins : FrameRunning = record { store = c.self.inside.pages; log = c.deref_mut.result.now; ckpt = c.self.inside.ckpt; began = c.self.inside.began; order = c.self.inside.order.items } in
    let lent : ins ≡ (record ins { log = c.self.inside.log.value }) = λ i. record ins { log = c.deref_mut.ensures.value i } in
    let is = lent ∙ c.self.view_is in
    let tells = g.H.Device.tells in
    let state = g.H.Reader.Device.state in
    let history = g.H.Reader.Device.history in
    let h0 = g.H.Device.history c.args.host.now in
    let h1 = g.H.Device.history c.apply-pages.new.host in
    let cmd = c.args.cmd.now in
    let mid = c.apply-pages.result.0 in
    let ran = c.apply-pages.ensures in
    let answer = c.in-Ok.answer in
    let opened : ins.store.is_open ≡ true = ap (λ (r : FrameRunning). r.store.is_open) is ∙ c.requires.open in
    let over = if_ok_holds c.apply-pages.result.1 answer (AppliesOver g.row.Q.Denot g.H.Reader.Device.tells history state cmd ins.store mid h0.world c.args.replies.now c.apply-pages.new.replies
    (g.H.Device.state c.args.host.now) (g.H.Device.state c.apply-pages.new.host)) c.in-Ok.is ran.applies in
    let told = g.met.H.Host.parts_tell.0.1 in
    let sent = c.self.invariant.sent opened in
    let h2 = g.H.Device.history c.append_outbox.new.dev in
    let lost = goes_on_shut tells g.H.Reader.Device.tells history state cmd ins mid c.args.replies.now c.apply-pages.new.replies over.back answer h0 h1 over.applied told ran.world sent
    h2 c.in-Err-append_outbox.field-0 c.append_outbox.new.log c.in-Err-append_outbox.ensures.appends in
    subst (λ (p : FrameRunning × FrameStoreView). GoesOnInFrames tells p.0 (record { store = p.1; log = c.append_outbox.new.log; ckpt = ins.ckpt; began = ins.began; order = ins.order }) h0 h2)
    {x = (ins, shut mid)} {y = (c.args.self, c.shut.new.self)} (λ i. (is i, sym (c.shut.ensures ∙ ap shut c.in-Err-append_outbox.ensures.unsent) i)) lost

pub returns-in-Ok-append_outbox-clause-goes_on : goal.returns-in-Ok-append_outbox-clause-goes_on
returns-in-Ok-append_outbox-clause-goes_on g c =
    let ins : FrameRunning = record { store = c.self.inside.pages; log = c.deref_mut.result.now; ckpt = c.self.inside.ckpt; began = c.self.inside.began; order = c.self.inside.order.items } in
    let lent : ins ≡ (record ins { log = c.self.inside.log.value }) = λ i. record ins { log = c.deref_mut.ensures.value i } in
    let is = lent ∙ c.self.view_is in
    let tells = g.H.Device.tells in
    let state = g.H.Reader.Device.state in
    let history = g.H.Reader.Device.history in
    let h0 = g.H.Device.history c.args.host.now in
    let h1 = g.H.Device.history c.apply-pages.new.host in
    let cmd = c.args.cmd.now in
    let mid = c.apply-pages.result.0 in
    let ran = c.apply-pages.ensures in
    let answer = c.in-Ok.answer in
    let opened : ins.store.is_open ≡ true = ap (λ (r : FrameRunning). r.store.is_open) is ∙ c.requires.open in
    let over = if_ok_holds c.apply-pages.result.1 answer (AppliesOver g.row.Q.Denot g.H.Reader.Device.tells history state cmd ins.store mid h0.world c.args.replies.now c.apply-pages.new.replies
    (g.H.Device.state c.args.host.now) (g.H.Device.state c.apply-pages.new.host)) c.in-Ok.is ran.applies in
    let told = g.met.H.Host.parts_tell.0.1 in
    let sent = c.self.invariant.sent opened in
    let h2 = g.H.Device.history c.append_outbox.new.dev in
    let goes = goes_on_again tells g.H.Reader.Device.tells history state cmd ins mid c.args.replies.now c.apply-pages.new.replies over.back answer h0 h1 over.applied told ran.world sent
    h2 c.append_outbox.new.log c.append_outbox.new.self c.in-Ok-append_outbox.ensures.appends c.in-Ok-append_outbox.ensures.sent
    (λ t. subst (λ (l : LogEnd). EndsThere l h0.world) (sym (ap (λ (r : FrameRunning). r.log) is)) (c.requires.end t)) in
    subst (λ (r : FrameRunning). GoesOnInFrames tells r (record { store = c.append_outbox.new.self; log = c.append_outbox.new.log; ckpt = ins.ckpt; began = ins.began; order = ins.order }) h0 h2) is goes

pub returns-in-Ok-append_outbox-clause-answers : goal.returns-in-Ok-append_outbox-clause-answers
returns-in-Ok-append_outbox-clause-answers g c =
    let ins : FrameRunning = record { store = c.self.inside.pages; log = c.deref_mut.result.now; ckpt = c.self.inside.ckpt; began = c.self.inside.began; order = c.self.inside.order.items } in
    let lent : ins ≡ (record ins { log = c.self.inside.log.value }) = λ i. record ins { log = c.deref_mut.ensures.value i } in
    let is = lent ∙ c.self.view_is in
    let tells = g.H.Device.tells in
    let state = g.H.Reader.Device.state in
    let history = g.H.Reader.Device.history in
    let h0 = g.H.Device.history c.args.host.now in
    let h1 = g.H.Device.history c.apply-pages.new.host in
    let cmd = c.args.cmd.now in
    let mid = c.apply-pages.result.0 in
    let ran = c.apply-pages.ensures in
    let answer = c.in-Ok.answer in
    let opened : ins.store.is_open ≡ true = ap (λ (r : FrameRunning). r.store.is_open) is ∙ c.requires.open in
    let over = if_ok_holds c.apply-pages.result.1 answer (AppliesOver g.row.Q.Denot g.H.Reader.Device.tells history state cmd ins.store mid h0.world c.args.replies.now c.apply-pages.new.replies
    (g.H.Device.state c.args.host.now) (g.H.Device.state c.apply-pages.new.host)) c.in-Ok.is ran.applies in
    let told = g.met.H.Host.parts_tell.0.1 in
    let sent = c.self.invariant.sent opened in
    let h2 = g.H.Device.history c.append_outbox.new.dev in
    let evaluated = evaluates_again tells g.H.Reader.Device.tells history state cmd ins mid c.args.replies.now c.apply-pages.new.replies over.back answer h0 h1 over.applied told ran.world sent
    h2 c.append_outbox.new.log c.append_outbox.new.self c.in-Ok-append_outbox.ensures.appends c.in-Ok-append_outbox.ensures.sent in
    subst (λ (r : FrameRunning). EvaluatesAgain tells cmd r (record { store = c.append_outbox.new.self; log = c.append_outbox.new.log; ckpt = ins.ckpt; began = ins.began; order = ins.order }) h0.world h2.world c.args.replies.now c.apply-pages.new.replies answer)
    is evaluated
